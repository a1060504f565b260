-- Curves, the lists of n numbers below m.
-- Proved: a table of n numbers below m is a curve; two curves are equal if the residues of their entries are.
-- Assumes nothing.
use Rattle.std.specs.Prelude.{◌≡◌, List, ℕ, ◌<◌, length, get_or}
use Rattle.std.proofs.Common.{sym, ◌∙◌, arith}
use Rattle.algebra.specs.Residues.{res}
use Rattle.definitions.specs.Number.{table}
use Rattle.definitions.specs.Family.{Family, Curve, size}
use Rattle.numbers.specs.Lists.{table-length, table_below}
use Rattle.numbers.specs.Residue.{lists-equal}

module _ (f : Family) where
  pub table-curve : (g : ℕ → ℕ) → ((i : ℕ) → i < size f → g i < f.m) → Curve f (table (size f) g)
  table-curve g below = record { long = table-length (size f) g; below = table_below f.m (size f) g below }

  module _ (u v : List ℕ) (cu : Curve f u) (cv : Curve f v) where
    curve-lengths : length u ≡ length v
    curve-lengths = cu.long ∙ sym cv.long

    pub curves-equal-residues : (pos : 0 < f.m)
        → ((i : ℕ) → i < size f → res f.m pos (get_or u i 0) ≡ res f.m pos (get_or v i 0)) → u ≡ v
    curves-equal-residues pos e =
        let lu : length u ≡ size f = cu.long in
        let lv : length v ≡ size f = cv.long in
        lists-equal f.m pos u v curve-lengths (λ i h. cu.below i (omega arith)) (λ i h. cv.below i (omega arith))
        (λ i h. e i (omega arith))
