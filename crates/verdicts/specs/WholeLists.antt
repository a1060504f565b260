-- Lists that are lent whole, and whose shape is in order.
-- Proved: the tests on the rows can be made, and those of all their rows, closed by 1 1 1, are those of the family of the lists.
-- Assumes nothing.
use Rattle.std.specs.Prelude.{◌≡◌, List, [], ℕ, suc, ◌+◌, ◌*◌, ◌-◌, ◌<◌, ◌≤◌, length}
use Rattle.std.proofs.Common.{◌∙◌, ap, arith}
use Rattle.definitions.specs.Family.{ones, family}
use Rattle.definitions.specs.Refusals.{Verdict, verdict, family_rows}
use Rattle.lists.specs.Lent.{lent, Long, whole_long, lent-whole}
use Rattle.checks.specs.Shape.{Shaped}

module _ (m : ℕ) (a b c : List ℕ) (shape : Shaped m (length a) (length b) (length c)) where
  pub whole-lent : (0 < m) × Long (length a) a b c
  whole-lent =
      let two : 2 ≤ m = shape.modulus.least in
      (omega arith, whole_long m a b c shape.b_length shape.c_length)

  pub whole-rows : (v : Verdict) → v ≡ verdict (family_rows (lent m (length a) a b c ones)) [] → v ≡ verdict (family_rows (family m a b c)) []
  whole-rows v e = e ∙ ap (λ f. verdict (family_rows f) []) (lent-whole m a b c shape.b_length shape.c_length)

-- the code counts the moments from the rows
pub moments-of-rows : (r : ℕ) → 2 * r + 1 ≡ 2 * suc r - 1
moments-of-rows r = omega arith
