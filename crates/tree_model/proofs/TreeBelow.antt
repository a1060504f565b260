-- The entries of the tree's lists are below m.
-- Proved: of the matrices, where the rows are below m; of the pairs on the way up, where the curve is; of Expand's answer; of the pairs on the
-- way down and of Adjoint's answer. These rest on the model in Tree of specs/, which edits change.
-- Assumes nothing.
use Rattle.std.specs.Prelude.{List, [], ◌∷◌, ◌++◌, ℕ, zero, suc, ◌+◌, ◌<◌, take}
use Rattle.std.proofs.Common.{mod-lt, arith}
use Rattle.definitions.specs.Family.{Family, Row, size, row_at, RowBelow}
use Rattle.numbers.specs.Products.{Below, plus_product-below, plus_products-below, transposed-below, transposed_sum-below}
use Rattle.tree_model.specs.Level.{span}
use Rattle.tree_model.specs.Tree.{Matrix, Pair, F₀, F₁, leaf, join, node, expand_pair, up, expand_at}
use Rattle.tree_model.specs.Tree.{first_terms, adjoint_pair, left_pair, right_pair, down, root_pair, adjoint_at}
use Rattle.tree_model.specs.TreeBelow.{MatrixBelow, PairBelow}

-- ---- lists
one_below : (m x : ℕ) → x < m → Below m (x ∷ [])
one_below m x p zero = p
one_below m x p (suc i) = omega arith

two-below : (m x y : ℕ) → x < m → y < m → Below m (x ∷ y ∷ [])
two-below m x y p q zero = p
two-below m x y p q (suc i) = one_below m y q i

three-below : (m x y z : ℕ) → x < m → y < m → z < m → Below m (x ∷ y ∷ z ∷ [])
three-below m x y z p q r zero = p
three-below m x y z p q r (suc i) = two-below m y z q r i

pub append-below : (m : ℕ) (xs ys : List ℕ) → Below m xs → Below m ys → Below m (xs ++ ys)
append-below m [] ys p q i = q i
append-below m (x ∷ xs) ys p q zero = p 0
append-below m (x ∷ xs) ys p q (suc i) = append-below m xs ys (λ j. p (suc j)) q i

take_below : (m n : ℕ) (xs : List ℕ) → Below m xs → Below m (take n xs)
take_below m zero xs h i = omega (arith, h 0)
take_below m (suc n) [] h i = h i
take_below m (suc n) (x ∷ xs) h zero = h 0
take_below m (suc n) (x ∷ xs) h (suc i) = take_below m n xs (λ j. h (suc j)) i

-- ---- matrices
pub leaf-below : (m : ℕ) (p q : Row) → RowBelow m p → MatrixBelow m (leaf m p q)
unfolding leaf
leaf-below m p q h =
    record {
      b00 = three-below m _ _ _ h.c_below pos pos;
      b01 = three-below m _ _ _ h.b_below h.a_below pos;
      b10 = three-below m _ _ _ (mod-lt _ pos) (mod-lt _ pos) pos;
      b11 = three-below m _ _ _ (mod-lt _ pos) (mod-lt _ pos) (mod-lt _ pos);
    }
  where
    pos : 0 < m
    pos = omega (arith, h.a_below)

pub join-below : (m n : ℕ) → 0 < m → (right left : Matrix) → MatrixBelow m (join m n right left)
unfolding join
join-below m n pos right left =
    record {
      b00 = plus_products-below m n pos _ _ _ _ _;
      b01 = plus_products-below m n pos _ _ _ _ _;
      b10 = plus_products-below m n pos _ _ _ _ _;
      b11 = plus_products-below m n pos _ _ _ _ _;
    }

pub node-below : (f : Family) → ((i : ℕ) → RowBelow f.m (row_at f i)) → (l t : ℕ) → MatrixBelow f.m (node f l t)
unfolding node
node-below f row zero t = leaf-below f.m (row_at f (suc t)) (row_at f (suc (suc t))) (row (suc t))
node-below f row (suc l) t = join-below f.m (suc (span (suc l))) (omega (arith, (row 0).a_below)) _ _

-- ---- up the tree
pub expand_pair-below : (m n : ℕ) → 0 < m → (left right : Pair) (x : Matrix) → PairBelow m (expand_pair m n left right x)
unfolding expand_pair
expand_pair-below m n pos left right x = record { b0 = plus_products-below m n pos _ _ _ _ _; b1 = plus_products-below m n pos _ _ _ _ _ }

pub up-below : (f : Family) (u : List ℕ) → Below f.m u → (l t : ℕ) → PairBelow f.m (up f u l t)
unfolding up
up-below f u h zero t =
    record { b0 = two-below f.m _ _ (h t) (omega (arith, h 0)); b1 = two-below f.m _ _ (h (suc t)) (omega (arith, h 0)) }
up-below f u h (suc l) t = expand_pair-below f.m (span (suc l)) (omega (arith, h 0)) _ _ _

pub expand_at-below : (f : Family) → 0 < f.m → (l : ℕ) (u : List ℕ) → Below f.m (expand_at f l u)
unfolding expand_at
expand_at-below f pos l u = plus_product-below f.m (size f) pos (up f u l 0).v0 (up f u l 0).v1 (F₁ f)

-- ---- down the tree
pub first_terms-below : (m n : ℕ) (v : Pair) → PairBelow m v → PairBelow m (first_terms n v)
unfolding first_terms
first_terms-below m n v h = record { b0 = take_below m n v.v0 h.b0; b1 = take_below m n v.v1 h.b1 }

pub adjoint_pair-below : (m n : ℕ) → 0 < m → (x : Matrix) (v : Pair) → PairBelow m (adjoint_pair m n x v)
unfolding adjoint_pair
adjoint_pair-below m n pos x v = record { b0 = transposed_sum-below m n pos _ _ _ _; b1 = transposed_sum-below m n pos _ _ _ _ }

pub root_pair-below : (f : Family) → 0 < f.m → (l : ℕ) (u : List ℕ) → PairBelow f.m (root_pair f l u)
unfolding root_pair
root_pair-below f pos l u = record { b0 = transposed-below f.m (span l) pos F₀ u; b1 = transposed-below f.m (span l) pos (F₁ f) u }

pub down-below : (f : Family) (l t : ℕ) (v : Pair) → PairBelow f.m v → Below f.m (down f l t v)
unfolding down
down-below f zero t v h = two-below f.m _ _ (h.b0 0) (h.b1 0)
down-below f (suc l) t v h = append-below f.m (down f l t (left_pair l v)) (down f l (t + span l) (right_pair f l t v))
    (down-below f l t (left_pair l v) (first_terms-below f.m (span l) v h))
    (down-below f l (t + span l) (right_pair f l t v) (adjoint_pair-below f.m (span l) (omega (arith, h.b0 0)) (node f l t) v))

pub adjoint_at-below : (f : Family) → 0 < f.m → (l : ℕ) (u : List ℕ) → Below f.m (adjoint_at f l u)
unfolding adjoint_at
adjoint_at-below f pos l u = take_below f.m (size f) (down f l 0 (root_pair f l u))
    (down-below f l 0 (root_pair f l u) (root_pair-below f pos l u))
