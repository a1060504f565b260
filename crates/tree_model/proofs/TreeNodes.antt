-- What the matrices of the tree are.
--   Transition f pos n t x   the matrix x takes F_t, F_{t+1} to F_{t+n}, F_{t+n+1}, over the residues modulo m
-- Proved: the leaf over a pair of rows does with n = 2; if the left half does and then the right half does, so does the right half
-- times the left half; hence every node does with the number of its rows. These rest on `node` of Tree, which edits of specs/ change. The
-- report, section 2, before Figure 1: the matrices M^(i,j) and their associativity. Assumes nothing.
use Rattle.std.specs.Prelude.{◌≡◌, List, [], ◌∷◌, length}
use Rattle.std.proofs.Common.{sym, ◌∙◌, ap₂}
use Rattle.std.proofs.Math.Path.{ap}
use Prim.Native.Nat.{ℕ, zero, suc, ◌<◌, ◌+◌ as ◌+ℕ◌}
use native.Mathlib.Omega.{arith}
use Rattle.algebra.specs.Residues.{Zmod, res, res-zero, res_one, res-add, res-mul, res-mod}
use Rattle.algebra.specs.Ring.{CommRing}
use Rattle.algebra.specs.Series.{Ser}
use Rattle.algebra.specs.Solver.{ring, reify}
use Rattle.algebra.specs.Variable.{C, X, C-zero, C-one, C-add, C-mul}
use Rattle.definitions.specs.Family.{Family, Row, row_at}
use Rattle.numbers.specs.Products.{plus_products}
use Rattle.theory.specs.Bridge.{rows_of}
use Rattle.theory.specs.Recurrence.{poly, poly-zero, poly-one, poly-step}
use Rattle.tree_model.specs.Level.{span}
use Rattle.tree_model.specs.ListSeries.{series, series-cons, series-one, series-products}
use Rattle.tree_model.specs.Tree.{F₀, F₁, Matrix, leaf, join, node}
use Rattle.tree_model.specs.TreeLengths.{MatrixLength, node-length}

-- ---- the entries of a leaf as polynomials
module _ (m : ℕ) (pos : 0 < m) where
  abbrev R : CommRing
  R = Zmod m pos

  abbrev A : CommRing
  A = Ser R

  open A use {Car as Series, zero as 0#, add as ◌+◌, mul as ◌*◌}

  infixl 65 ◌+◌
  infixl 70 ◌*◌
  abbrev K : ℕ → Series
  K x = C R (res m pos x)

  K-zero : K 0 ≡ 0#
  K-zero = ap (C R) (res-zero m pos) ∙ C-zero R

  three-series : (x y z : ℕ) → series m pos (x ∷ y ∷ z ∷ []) ≡ K x + X R * (K y + X R * K z)
  three-series x y z = series-cons m pos x (y ∷ z ∷ [])
      ∙ ap (λ s. K x + X R * s) (series-cons m pos y (z ∷ []) ∙ ap (λ s. K y + X R * s) (series-one m pos z))

  -- the matrices of q and of p multiplied out
  record LeafSeries (p q : Row) (x : Matrix) : Type 0 where
    s00 : series m pos x.e00 ≡ K p.c
    s01 : series m pos x.e01 ≡ K p.a * X R + K p.b
    s10 : series m pos x.e10 ≡ (K q.a * X R + K q.b) * K p.c
    s11 : series m pos x.e11 ≡ (K q.a * X R + K q.b) * (K p.a * X R + K p.b) + K q.c

  leaf-series : (p q : Row) → LeafSeries p q (leaf m p q)
  unfolding leaf
  leaf-series p q = record {
    s00 = three-series _ _ _ ∙ simp (K-zero) (ring A (K p.c ∷ X R ∷ []) (search reify depth 20) tt);
    s01 = three-series _ _ _ ∙ simp (K-zero) (ring A (K p.a ∷ K p.b ∷ X R ∷ []) (search reify depth 20) tt);
    s10 = three-series _ _ _ ∙ simp (K-zero, res-mod m pos, res-mul m pos, C-mul R)
        (ring A (K p.c ∷ K q.a ∷ K q.b ∷ X R ∷ []) (search reify depth 20) tt);
    s11 = three-series _ _ _ ∙ simp (res-mod m pos, res-add m pos, res-mul m pos, C-add R, C-mul R)
        (ring A (K p.a ∷ K p.b ∷ K q.a ∷ K q.b ∷ K q.c ∷ X R ∷ []) (search reify depth 20) tt);
  }

-- ---- the nodes
module _ (f : Family) (pos : 0 < f.m) where
  abbrev Q : CommRing
  Q = Zmod f.m pos

  abbrev B : CommRing
  B = Ser Q

  open B use {Car as Series, add as ◌+◌, mul as ◌*◌}

  infixl 65 ◌+◌
  infixl 70 ◌*◌
  abbrev pub F : ℕ → Series
  F j = poly Q (rows_of f pos) (suc j)

  -- a number as a constant
  abbrev κ : ℕ → Series
  κ = K f.m pos

  abbrev S : List ℕ → Series
  S = series f.m pos

  pub record Transition (n t : ℕ) (x : Matrix) : Type 0 where
    pub first : F (t +ℕ n) ≡ S x.e00 * F t + S x.e01 * F (suc t)
    pub second : F (suc (t +ℕ n)) ≡ S x.e10 * F t + S x.e11 * F (suc t)

  module _ (t : ℕ) where
    abbrev p : Row
    p = row_at f (suc t)

    abbrev q : Row
    q = row_at f (suc (suc t))

    two-on : t +ℕ 2 ≡ suc (suc t)
    two-on = omega arith

    leaf-transition : Transition 2 t (leaf f.m p q)
    leaf-transition = let s = leaf-series f.m pos p q in record {
      first = ap F two-on ∙ poly-step Q (rows_of f pos) (suc t)
          ∙ ring B (κ p.a ∷ κ p.b ∷ κ p.c ∷ X Q ∷ F t ∷ F (suc t) ∷ []) (search reify depth 20) tt
          ∙ sym (ap₂ (λ x y. x * F t + y * F (suc t)) s.s00 s.s01);
      second = ap (λ k. F (suc k)) two-on ∙ poly-step Q (rows_of f pos) (suc (suc t))
          ∙ ap (λ z. κ q.a * (X Q * z) + κ q.b * z + κ q.c * F (suc t)) (poly-step Q (rows_of f pos) (suc t))
          ∙ ring B (κ p.a ∷ κ p.b ∷ κ p.c ∷ κ q.a ∷ κ q.b ∷ κ q.c ∷ X Q ∷ F t ∷ F (suc t) ∷ []) (search reify depth 20) tt
          ∙ sym (ap₂ (λ x y. x * F t + y * F (suc t)) s.s10 s.s11);
    }

  -- a row x, y of the right half's matrix against F_{t+n}, F_{t+n+1} is that row times the left half's matrix against F_t, F_{t+1}
  join-row : (n t : ℕ) (x y : List ℕ) (left : Matrix) → length x ≡ suc n → length y ≡ suc n → MatrixLength (suc n) left
      → Transition n t left
      → S x * F (t +ℕ n) + S y * F (suc (t +ℕ n))
      ≡ S (plus_products f.m (suc (n +ℕ n)) [] x left.e00 y left.e10) * F t
      + S (plus_products f.m (suc (n +ℕ n)) [] x left.e01 y left.e11) * F (suc t)
  join-row n t x y left hx hy hl l = ap₂ (λ u v. S x * u + S y * v) l.first l.second
      ∙ ring B (S x ∷ S y ∷ S left.e00 ∷ S left.e01 ∷ S left.e10 ∷ S left.e11 ∷ F t ∷ F (suc t) ∷ []) (search reify depth 20) tt
      ∙ sym (ap₂ (λ u v. u * F t + v * F (suc t))
      (series-products f.m pos (suc (n +ℕ n)) x left.e00 y left.e10 (omega arith) (omega arith))
      (series-products f.m pos (suc (n +ℕ n)) x left.e01 y left.e11 (omega arith) (omega arith)))

  join-transition : (n t : ℕ) (right left : Matrix) → MatrixLength (suc n) right → MatrixLength (suc n) left → Transition n t left
      → Transition n (t +ℕ n) right
      → Transition (n +ℕ n) t (join f.m (suc (n +ℕ n)) right left)
  unfolding join
  join-transition n t right left hr hl l r = record {
    first = ap F halves ∙ r.first ∙ join-row n t right.e00 right.e01 left hr.l00 hr.l01 hl l;
    second = ap (λ k. F (suc k)) halves ∙ r.second ∙ join-row n t right.e10 right.e11 left hr.l10 hr.l11 hl l;
  }
    where
      halves : t +ℕ (n +ℕ n) ≡ t +ℕ n +ℕ n
      halves = omega arith

  pub node-transition : (l t : ℕ) → Transition (span l) t (node f l t)
  unfolding node span
  node-transition zero t = leaf-transition t
  node-transition (suc l) t = join-transition (span l) t (node f l (t +ℕ span l)) (node f l t)
      (node-length f l (t +ℕ span l)) (node-length f l t) (node-transition l t) (node-transition l (t +ℕ span l))

  -- ---- F_0 and F_1 as the tree has them
  pub first-series : F 0 ≡ S F₀
  first-series = poly-one Q (rows_of f pos) ∙ sym (C-one Q) ∙ ap (C Q) (sym (res_one f.m pos)) ∙ sym (series-one f.m pos 1)

  pub second-series : F 1 ≡ S (F₁ f)
  second-series = poly-step Q (rows_of f pos) 0
      ∙ ap₂ (λ x y. κ (row_at f 0).a * (X Q * x) + κ (row_at f 0).b * x + κ (row_at f 0).c * y)
      (poly-one Q (rows_of f pos)) (poly-zero Q (rows_of f pos))
      ∙ ring B (κ (row_at f 0).a ∷ κ (row_at f 0).b ∷ κ (row_at f 0).c ∷ X Q ∷ []) (search reify depth 20) tt
      ∙ sym (series-cons f.m pos (row_at f 0).b ((row_at f 0).a ∷ [])
      ∙ ap (λ s. κ (row_at f 0).b + X Q * s) (series-one f.m pos (row_at f 0).a))
