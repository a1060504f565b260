-- The norms of a record, tried place by place.
--   weighed_at m count a d i  entry i of d times that of the a, 1 behind the rows
--   tied_at m count a c d i   the remainder of the next of these with this one times the next c
--   Ties m count a c d i      that is 0
-- Proved: where the first is 1, all places tie if and only if the list is tried (NormProducts of prepared_model), and of an accepted family that
-- settles whether it is the norms'; a product of two numbers of 32 bits and one more number fit 64 bits.
-- Assumes nothing.
use Rattle.std.specs.Prelude.{◌≡◌, Bool, true, List, ◌↔◌, ℕ, ◌+◌, ◌*◌, ◌%◌, ◌<◌, ◌≤◌, length, get_or, take}
use Rattle.std.proofs.Math.Logic.Iff
use Rattle.std.proofs.Common.{mul-le-mul, arith}
use Rattle.std.proofs.Math.Numerals.{add-one}
use Rattle.std.proofs.Math.Seq.{length-take-le}
use Rattle.definitions.specs.Family.{Family, Accepted, most_rows, ones, size, row_at}
use Rattle.definitions.specs.Orthogonality.{norms}
use Rattle.definitions.specs.Prepared.{most_norms, padded}
use Rattle.lists.specs.Lent.{lent}
use Rattle.prepared_model.specs.NormProducts.{weighed, Tried, tried-true, true-tried, norms-kept}
use Rattle.prepared_model.specs.Parts.{Residues}
use Rattle.record_check.specs.Scans.{Whole}

abbrev pub weighed_at : ℕ → ℕ → List ℕ → List ℕ → ℕ → ℕ
weighed_at m count a d i = get_or d i 0 * get_or (take count a) i 1 % m

abbrev pub tied_at : ℕ → ℕ → List ℕ → List ℕ → List ℕ → ℕ → ℕ
tied_at m count a c d i = (weighed_at m count a d (i + 1) + weighed_at m count a d i * get_or (take count c) (i + 1) 1) % m

abbrev pub Ties : ℕ → ℕ → List ℕ → List ℕ → List ℕ → ℕ → Type 0
Ties m count a c d i = tied_at m count a c d i ≡ 0

module _ (m count : ℕ) (a b c d : List ℕ) where
  pub first-fails : (weighed_at m count a d 0 ≡ 1 → ⊥) → Tried (lent m count a b c ones) d → ⊥
  unfolding weighed row_at
  first-fails n tried = n tried.first

  pub all-tie : count ≤ length a → weighed_at m count a d 0 ≡ 1 → Whole (Ties m count a c d) 0 count ↔ Tried (lent m count a b c ones) d
  unfolding weighed row_at
  all-tie long first =
      let rows_are = length-take-le count a long in (
        λ all. record { first = first; next = λ i h. rw (← add-one i) (all i (omega arith) (omega (arith, rows_are))) },
        λ tried i l h. rw add-one (tried.next i (omega (arith, rows_are))),
      )

-- n is one more than the rows
module _ (m count : ℕ) (a b c d : List ℕ) (long : count ≤ length a) (accepted : Accepted (lent m count a b c ones)) where
  abbrev f : Family
  f = lent m count a b c ones

  size_is : size f ≡ count + 1
  size_is = omega (arith, length-take-le count a long)

  pub norms-settled : Residues m (count + 1) d → length d ≡ most_norms → count ≤ most_rows → {r : Bool} → (r ≡ true) ↔ Tried f d
      → (r ≡ true) ↔ (d ≡ padded most_norms (norms f))
  norms-settled kept whole few says =
      let residues : Residues m (size f) d = rw size_is kept in
      Iff.trans says (tried-true f accepted d residues whole (omega (arith, size_is)), true-tried f accepted d residues)

  pub norms-residues : d ≡ padded most_norms (norms f) → Residues m (count + 1) d
  norms-residues e = rw (← size_is) (norms-kept f accepted d e)

pub sum_fits : (x y z : ℕ) → x < 4294967296 → y < 4294967296 → z < 4294967296 → z + x * y < 18446744073709551616
sum_fits x y z hx hy hz =
    let x_most : x ≤ 4294967295 = omega arith in
    let y_most : y ≤ 4294967295 = omega arith in
    let most : x * y ≤ 4294967295 * 4294967295 = mul-le-mul x_most y_most in
    omega arith
