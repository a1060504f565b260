-- One test, settled by the fact that it asks for.
-- Proved, of a test that passes if and only if P, whatever values a call hands out: where P fails the test refuses with its number,
-- whatever follows; where P holds the verdict is that of what follows, finished if that is nothing. Assumes nothing.
use Rattle.std.specs.Prelude.{◌≡◌, true, false, ◌↔◌, ℕ}
use Rattle.std.proofs.Common.{sym}
use Rattle.std.proofs.Math.Bool.{not-eq-not}
use mathlib.Core.List.{List, [], ◌∷◌}
use Rattle.definitions.specs.Refusals.{Test, finished, refused, verdict}
use Rattle.acceptance.specs.Verdicts.{verdict-here, verdict-next}

module _ (t : Test) {P : Type 0} (passes : (t.holds ≡ false) ↔ P) where
  pub refuses : (rest : List Test) (values : List ℕ) → (P → ⊥) → refused t.number ≡ verdict (t ∷ rest) values
  refuses rest values n = sym (verdict-here t rest values ((not-eq-not {a = t.holds} {b = true}).0 (λ e. n (passes.0 e))))

  pub goes_on : (rest : List Test) (values : List ℕ) → P → verdict rest values ≡ verdict (t ∷ rest) values
  goes_on rest values p = sym (verdict-next t rest values (passes.1 p))

  pub refuses-alone : (P → ⊥) → refused t.number ≡ verdict (t ∷ []) []
  refuses-alone = refuses [] []

  pub finishes : {values : List ℕ} → P → finished values ≡ verdict (t ∷ []) values
  unfolding verdict
  finishes {values} = goes_on [] values
