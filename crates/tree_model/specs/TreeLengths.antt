-- How long the tree's lists are.
--   MatrixLength n x, PairLength n v   the four lists of the matrix x, the two of the pair v, have n numbers
-- Proved: a node over span l rows has lists of span l + 1 numbers; the pairs that go up and those that go down have lists of
-- span l numbers; `down` answers span l numbers, `expand_at` and `adjoint_at` n. Assumes nothing.
use Rattle.std.specs.Prelude.{◌≡◌, refl, List, ℕ, zero, suc, ◌+◌, ◌≤◌, length}
use Rattle.std.proofs.Common.{◌∙◌, ap₂, arith, length-append, length-take-le}
use Rattle.definitions.specs.Family.{Family, Row, size, row_at}
use Rattle.numbers.specs.Products.{plus_product-length, plus_products-length, transposed-length, transposed_sum-length}
use Rattle.tree_model.specs.Level.{span}
use Rattle.tree_model.specs.Tree.{Matrix, Pair, F₀, F₁, leaf, join, node, expand_pair, up, expand_at}
use Rattle.tree_model.specs.Tree.{adjoint_pair, left_pair, right_pair, down, root_pair, adjoint_at}

pub record MatrixLength (n : ℕ) (x : Matrix) : Type 0 where
  pub l00 : length x.e00 ≡ n
  pub l01 : length x.e01 ≡ n
  pub l10 : length x.e10 ≡ n
  pub l11 : length x.e11 ≡ n

pub record PairLength (n : ℕ) (v : Pair) : Type 0 where
  pub l0 : length v.v0 ≡ n
  pub l1 : length v.v1 ≡ n

-- ---- matrices
pub leaf-length : (m : ℕ) (p q : Row) → MatrixLength 3 (leaf m p q)
unfolding leaf
leaf-length m p q = record { l00 = refl; l01 = refl; l10 = refl; l11 = refl }

pub join-length : (m n : ℕ) (right left : Matrix) → MatrixLength n (join m n right left)
unfolding join
join-length m n right left =
    record {
      l00 = plus_products-length m n _ _ _ _ _;
      l01 = plus_products-length m n _ _ _ _ _;
      l10 = plus_products-length m n _ _ _ _ _;
      l11 = plus_products-length m n _ _ _ _ _;
    }

pub node-length : (f : Family) (l t : ℕ) → MatrixLength (suc (span l)) (node f l t)
unfolding node span
node-length f zero t = leaf-length f.m (row_at f (suc t)) (row_at f (suc (suc t)))
node-length f (suc l) t = join-length f.m (suc (span (suc l))) _ _

-- ---- up the tree
pub expand_pair-length : (m n : ℕ) (left right : Pair) (x : Matrix) → PairLength n (expand_pair m n left right x)
unfolding expand_pair
expand_pair-length m n left right x = record { l0 = plus_products-length m n _ _ _ _ _; l1 = plus_products-length m n _ _ _ _ _ }

pub up-length : (f : Family) (u : List ℕ) (l t : ℕ) → PairLength (span l) (up f u l t)
unfolding up span
up-length f u zero t = record { l0 = refl; l1 = refl }
up-length f u (suc l) t = expand_pair-length f.m (span (suc l)) _ _ _

pub expand_at-length : (f : Family) (l : ℕ) (u : List ℕ) → length (expand_at f l u) ≡ size f
unfolding expand_at
expand_at-length f l u = plus_product-length f.m (size f) (up f u l 0).v0 (up f u l 0).v1 (F₁ f)

-- ---- down the tree
pub adjoint_pair-length : (m n : ℕ) (x : Matrix) (v : Pair) → PairLength n (adjoint_pair m n x v)
unfolding adjoint_pair
adjoint_pair-length m n x v = record { l0 = transposed_sum-length m n _ _ _ _; l1 = transposed_sum-length m n _ _ _ _ }

pub root_pair-length : (f : Family) (l : ℕ) (u : List ℕ) → PairLength (span l) (root_pair f l u)
unfolding root_pair
root_pair-length f l u = record { l0 = transposed-length f.m (span l) F₀ u; l1 = transposed-length f.m (span l) (F₁ f) u }

pub down-length : (f : Family) (l t : ℕ) (v : Pair) → length (down f l t v) ≡ span l
unfolding down span
down-length f zero t v = refl
down-length f (suc l) t v = length-append (down f l t (left_pair l v)) _
    ∙ ap₂ ◌+◌ (down-length f l t (left_pair l v)) (down-length f l (t + span l) (right_pair f l t v))

pub adjoint_at-length : (f : Family) (l : ℕ) (u : List ℕ) → size f ≤ span l → length (adjoint_at f l u) ≡ size f
unfolding adjoint_at
adjoint_at-length f l u h = length-take-le (size f) (down f l 0 (root_pair f l u)) (omega (arith, down-length f l 0 (root_pair f l u)))
