-- Lists that a call is lent whole, as the cores ask for them: n is one more than the rows.
-- Proved: an accepted family is the lent family of its first n - 1 rows, whose lists are long enough; a curve of it holds n residues; and
-- what is written over n numbers is all of an output of n (written-whole; output-whole, of a core with a working list). Assumes nothing.
use Rattle.std.specs.Prelude.{◌≡◌, List, ◌++◌, ℕ, suc, ◌+◌, ◌-◌, length, drop}
use Rattle.std.proofs.Common.{◌∙◌, ap, append-nil, arith, drop_of_length-le}
use Rattle.definitions.specs.Family.{Accepted, Curve, family, ones}
use Rattle.lists.specs.Held.{Holds, Output}
use Rattle.lists.specs.Lent.{Long, lent, whole_long, lent-whole}

module _ {m : ℕ} {a b c : List ℕ} (accepted : Accepted (family m a b c)) where
  pub accepted-long : Long (length a) a b c
  accepted-long = whole_long m a b c accepted.b_length accepted.c_length

  lent-all : lent m (length a) a b c ones ≡ family m a b c
  lent-all = lent-whole m a b c accepted.b_length accepted.c_length

  pub accepted-lent : Accepted (lent m (length a) a b c ones)
  accepted-lent = rw lent-all accepted

  pub lent-family : lent m (length a + 1 - 1) a b c ones ≡ family m a b c
  lent-family =
      let rows : length a + 1 - 1 ≡ length a = omega arith in
      ap (λ r. lent m r a b c ones) rows ∙ lent-all

pub curve-held : {m : ℕ} {a b c u : List ℕ} → Curve (family m a b c) u → Holds m (length a + 1) u
curve-held {a = a} {u = u} curve =
    let long : length u ≡ suc (length a) = curve.long in
    record { long = omega arith; below = λ i h. curve.below i (omega arith) }

pub written-whole : (result output : List ℕ) (n : ℕ) → length output ≡ n → result ++ drop n output ≡ result
written-whole result output n long = ap (λ t. result ++ t) (drop_of_length-le output {i = n} (omega arith)) ∙ append-nil result

pub output-whole : {made result output output' work work' : List ℕ} {n : ℕ} → Output made n output output' work work' → length output ≡ n
    → made ≡ result → output' ≡ result
output-whole {made} {output = output} {n = n} left long is = left.written ∙ written-whole made output n long ∙ is
