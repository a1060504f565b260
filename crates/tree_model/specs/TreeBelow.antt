-- The entries of the tree's lists are below m.
--   MatrixBelow m x, PairBelow m v   the entries of the matrix x, of the pair v, are below m
-- Most entries are remainders. A leaf copies entries of a row, the pair of a leaf copies entries of the curve and `down` those of
-- its pair, so these must be below m to begin with. That all are stands in TreeBelow of proofs/. Assumes nothing.
use Rattle.std.specs.Prelude.{ℕ}
use Rattle.numbers.specs.Products.{Below}
use Rattle.tree_model.specs.Tree.{Matrix, Pair}

pub record MatrixBelow (m : ℕ) (x : Matrix) : Type 0 where
  pub b00 : Below m x.e00
  pub b01 : Below m x.e01
  pub b10 : Below m x.e10
  pub b11 : Below m x.e11

pub record PairBelow (m : ℕ) (v : Pair) : Type 0 where
  pub b0 : Below m v.v0
  pub b1 : Below m v.v1
