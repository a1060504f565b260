-- The subproduct tree on lists of numbers: what code is proved equal to, list for list. Definitions only.
--   padded f          f closed by zero rows, with which the tree is filled up
--   Matrix, Pair      2 by 2 and 1 by 2 matrices of polynomials, each entry a list
--   node f l t        the matrix over the span l rows that follow row t + 1; its four lists have span l + 1 numbers
--   up f u l t        the pair of Figure 1 over entries t, t + 1, .. of the curve u; its two lists have span l numbers
--   down f l t v      the span l entries t, t + 1, .. of the answer of Figure 2, from a pair v of lists of span l numbers
--   tree_expand f u, tree_adjoint f u  the answers: n numbers, by the least tree that covers n
-- Figure 2 cuts v_1 at the bound of v_0, by a slip: here both lists keep span l terms. For n = 1 Expand, Adjoint and Decompose
-- build no tree and answer from F_0 alone. The report, Figures 1 and 2. Assumes nothing.
use Rattle.std.specs.Prelude.{List, [], ◌∷◌, ◌++◌, ℕ, zero, suc, ◌+◌, ◌*◌, ◌%◌, get_or, take}
use Rattle.definitions.specs.Family.{Family, Row, rows, size, row_at}
use Rattle.numbers.specs.Products.{plus_product, plus_products, transposed, transposed_sum}
use Rattle.theory.specs.Closing.{closed_by}
use Rattle.tree_model.specs.Level.{span, level_for}

abbrev pub padded : Family → Family
padded f = closed_by (record { a = 0; b = 0; c = 0 }) f

-- F_0 and F_1, the lowest power first
abbrev pub F₀ : List ℕ
F₀ = 1 ∷ []

abbrev pub F₁ : Family → List ℕ
F₁ f = (row_at f 0).b ∷ (row_at f 0).a ∷ []

-- the answer by the tree, and for n = 1 that of F_0 alone
unfoldable pub with_tree : Family → List ℕ → List ℕ → List ℕ
with_tree f u answer = elim (rows f) [ zero ↦ get_or u 0 0 % f.m ∷ [] | suc r ↦ answer ]

-- ---- the tree
pub record Matrix : Type 0 where
  pub e00 : List ℕ
  pub e01 : List ℕ
  pub e10 : List ℕ
  pub e11 : List ℕ

-- over one pair of rows p and q: the matrix of q times that of p, where the matrix of p is 0, 1 over c, a x + b
unfoldable pub leaf : ℕ → Row → Row → Matrix
leaf m p q = record {
  e00 = p.c ∷ 0 ∷ 0 ∷ [];
  e01 = p.b ∷ p.a ∷ 0 ∷ [];
  e10 = q.b * p.c % m ∷ q.a * p.c % m ∷ 0 ∷ [];
  e11 = (q.c + q.b * p.b) % m ∷ (q.b * p.a + q.a * p.b) % m ∷ q.a * p.a % m ∷ [];
}

-- the right half times the left half, n coefficients of each entry
unfoldable pub join : ℕ → ℕ → Matrix → Matrix → Matrix
join m n right left = record {
  e00 = plus_products m n [] right.e00 left.e00 right.e01 left.e10;
  e01 = plus_products m n [] right.e00 left.e01 right.e01 left.e11;
  e10 = plus_products m n [] right.e10 left.e00 right.e11 left.e10;
  e11 = plus_products m n [] right.e10 left.e01 right.e11 left.e11;
}

-- M^(t+1, t+1+span l) of the report: row t + 2 stands at place t + 1
unfoldable pub node : Family → ℕ → ℕ → Matrix
node f zero t = leaf f.m (row_at f (suc t)) (row_at f (suc (suc t)))
node f (suc l) t = join f.m (suc (span (suc l))) (node f l (t + span l)) (node f l t)

-- ---- Expand, up the tree
pub record Pair : Type 0 where
  pub v0 : List ℕ
  pub v1 : List ℕ

-- the left half's pair and the right half's times the left half's matrix, n coefficients of each entry
unfoldable pub expand_pair : ℕ → ℕ → Pair → Pair → Matrix → Pair
expand_pair m n left right matrix = record {
  v0 = plus_products m n left.v0 right.v0 matrix.e00 right.v1 matrix.e10;
  v1 = plus_products m n left.v1 right.v0 matrix.e01 right.v1 matrix.e11;
}

unfoldable pub up : Family → List ℕ → ℕ → ℕ → Pair
up f u zero t = record { v0 = get_or u t 0 ∷ 0 ∷ []; v1 = get_or u (suc t) 0 ∷ 0 ∷ [] }
up f u (suc l) t = expand_pair f.m (span (suc l)) (up f u l t) (up f u l (t + span l)) (node f l t)

-- v_0 F_0 + v_1 F_1 of the root
unfoldable pub expand_at : Family → ℕ → List ℕ → List ℕ
expand_at f l u = plus_product f.m (size f) (up f u l 0).v0 (up f u l 0).v1 (F₁ f)

unfoldable pub tree_expand : Family → List ℕ → List ℕ
tree_expand f u = with_tree f u (expand_at (padded f) (level_for (size f)) u)

-- ---- Adjoint, down the tree
-- the left half takes the first n terms
unfoldable pub first_terms : ℕ → Pair → Pair
first_terms n v = record { v0 = take n v.v0; v1 = take n v.v1 }

-- the right half takes n terms of the transposed products with the left half's matrix
unfoldable pub adjoint_pair : ℕ → ℕ → Matrix → Pair → Pair
adjoint_pair m n matrix v = record {
  v0 = transposed_sum m n matrix.e00 v.v0 matrix.e01 v.v1;
  v1 = transposed_sum m n matrix.e10 v.v0 matrix.e11 v.v1;
}

-- the pairs of the two halves of the node of level l + 1
abbrev pub left_pair : ℕ → Pair → Pair
left_pair l v = first_terms (span l) v

abbrev pub right_pair : Family → ℕ → ℕ → Pair → Pair
right_pair f l t v = adjoint_pair f.m (span l) (node f l t) v

unfoldable pub down : Family → ℕ → ℕ → Pair → List ℕ
down f zero t v = get_or v.v0 0 0 ∷ get_or v.v1 0 0 ∷ []
down f (suc l) t v = down f l t (left_pair l v) ++ down f l (t + span l) (right_pair f l t v)

-- the root's pair: the transposed products of u with F_0 and F_1
unfoldable pub root_pair : Family → ℕ → List ℕ → Pair
root_pair f l u = record { v0 = transposed f.m (span l) F₀ u; v1 = transposed f.m (span l) (F₁ f) u }

unfoldable pub adjoint_at : Family → ℕ → List ℕ → List ℕ
adjoint_at f l u = take (size f) (down f l 0 (root_pair f l u))

unfoldable pub tree_adjoint : Family → List ℕ → List ℕ
tree_adjoint f u = with_tree f u (adjoint_at (padded f) (level_for (size f)) u)
