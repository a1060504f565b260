-- Numbers stored side by side, one after another.
-- Proved: two, three and four of them are the list of these numbers, written from the first place on. `lists::store` writes such a list at
-- once, of any length; these say it of single stores. Assumes nothing.
use Rattle.std.specs.Prelude.{◌≡◌, List, [], ◌∷◌, ℕ, ◌+◌, ◌≤◌, length, set}
use Rattle.std.proofs.Common.{◌∙◌, ap, arith}
use Rattle.numbers.specs.Regions.{written, written_one, written-more}

pub two-written : (w : List ℕ) (at x y : ℕ) → at + 2 ≤ length w → set (set w at x) (at + 1) y ≡ written w at (x ∷ y ∷ [])
two-written w at x y h = ap (λ s. set s (at + 1) y) (written_one w at x (omega arith)) ∙ written-more w at (x ∷ []) y (omega arith)

pub three-written : (w : List ℕ) (at x y z : ℕ) → at + 3 ≤ length w
    → set (set (set w at x) (at + 1) y) (at + 2) z ≡ written w at (x ∷ y ∷ z ∷ [])
three-written w at x y z h =
    ap (λ t. set t (at + 2) z) (two-written w at x y (omega arith)) ∙ written-more w at (x ∷ y ∷ []) z (omega arith)

pub four-written : (w : List ℕ) (at x y z v : ℕ) → at + 4 ≤ length w
    → set (set (set (set w at x) (at + 1) y) (at + 2) z) (at + 3) v ≡ written w at (x ∷ y ∷ z ∷ v ∷ [])
four-written w at x y z v h =
    ap (λ t. set t (at + 3) v) (three-written w at x y z (omega arith)) ∙ written-more w at (x ∷ y ∷ z ∷ []) v (omega arith)
