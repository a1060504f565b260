-- The tree's Expand is Expand, for every modulus but 0, every family of equally long lists and every list of n numbers.
--   Combination f pos u n t v   v_0 F_t + v_1 F_{t+1} is the sum of u_j F_j over the n places from t on
-- Proved: the pairs that `up` makes are such combinations, the root's among them, so that v_0 F_0 + v_1 F_1 is the sum of all; the
-- padding adds nothing, since the curve is zero there. No inverse is needed. These rest on TreeNodes of proofs/. The report, Figure 1 and
-- equation (4). Assumes nothing.
use Rattle.std.specs.Prelude.{◌≡◌, List, [], ◌∷◌, length, get_or}
use Rattle.std.proofs.Math.Path.{sym, ap, ap₂}
use Rattle.std.proofs.Common.{◌∙◌, add_assoc, add-zero, zero-add, add-one, arith}
use Prim.Native.Nat.{ℕ, zero, suc, ◌<◌, ◌≤◌, ◌+◌ as ◌+ℕ◌}
use Rattle.algebra.specs.Residues.{Zmod}
use Rattle.algebra.specs.Ring
use Rattle.algebra.specs.Ring.{CommRing}
use Rattle.algebra.specs.Series.{Ser, co, co-sum}
use Rattle.algebra.specs.Solver.{ring, reify}
use Rattle.algebra.specs.Sum.{sum, sum-empty, sum-last, sum-cong, sum-split, sum-cut}
use Rattle.algebra.specs.Variable.{C, co-C-mul}
use Rattle.definitions.specs.Conversion.{expand}
use Rattle.definitions.specs.Family.{Family, Accepted, Curve, size}
use Rattle.theory.specs.Alone.{expand-alone}
use Rattle.theory.specs.Bridge.{entries, entries-past, rows_of, entries-expand, expand-curve}
use Rattle.theory.specs.Closing.{EqualLengths, accepted-lengths, expand-close}
use Rattle.theory.specs.Curves.{curves-equal-residues}
use Rattle.theory.specs.Recurrence.{term, co-poly, poly-one}
use Rattle.tree_model.specs.Level.{span, level_for}
use Rattle.tree_model.proofs.Level.{level-covers}
use Rattle.tree_model.specs.ListSeries.{series, series-one-zero, series-plus_products, co-plus_product}
use Rattle.tree_model.specs.Tree.{padded, F₁, Matrix, Pair, node, expand_pair, up, expand_at, tree_expand}
use Rattle.tree_model.proofs.TreeBelow.{expand_at-below}
use Rattle.tree_model.specs.TreeClauses.{with_tree-cases}
use Rattle.tree_model.specs.TreeLengths.{MatrixLength, PairLength, node-length, up-length, expand_at-length}
use Rattle.tree_model.proofs.TreeNodes.{F as series-F, Transition, node-transition, second-series}

module _ (f : Family) (pos : 0 < f.m) (u : List ℕ) where
  abbrev Q : CommRing
  Q = Zmod f.m pos

  abbrev B : CommRing
  B = Ser Q

  open Q use {Car, mul as ◌⊗◌}
  open B use {Car as Series, add as ◌+◌, mul as ◌*◌}

  infixl 65 ◌+◌
  infixl 70 ◌⊗◌ ◌*◌
  abbrev S : List ℕ → Series
  S = series f.m pos

  abbrev E : List ℕ → ℕ → Car
  E = entries f.m pos

  abbrev F : ℕ → Series
  F = series-F f pos

  -- u_j F_j
  abbrev part : ℕ → Series
  part j = C Q (E u j) * F j

  abbrev Combination : ℕ → ℕ → Pair → Type 0
  Combination n t v = S v.v0 * F t + S v.v1 * F (suc t) ≡ sum B n (λ j. part (t +ℕ j))

  leaf-combination : (t : ℕ) → Combination 2 t (record { v0 = get_or u t 0 ∷ 0 ∷ []; v1 = get_or u (suc t) 0 ∷ 0 ∷ [] })
  leaf-combination t = ap₂ (λ x y. x * F t + y * F (suc t)) (series-one-zero f.m pos (get_or u t 0))
      (series-one-zero f.m pos (get_or u (suc t) 0))
      ∙ ap₂ ◌+◌ (ap part (sym (add-zero t))) (ap part (sym (add-one t))) ∙ sym (two-parts (λ j. part (t +ℕ j)))
    where
      two-parts : (g : ℕ → Series) → sum B 2 g ≡ g 0 + g 1
      two-parts g = sum-last B 1 g ∙ ap (λ s. s + g 1) (sum-last B 0 g ∙ ap (λ s. s + g 0) (sum-empty B g) ∙ Ring.zero-add B (g 0))

  expand_pair-combination : (n t : ℕ) (left right : Pair) (x : Matrix) → PairLength n left → PairLength n right → MatrixLength (suc n) x
      → Transition f pos n t x
      → Combination n t left → Combination n (t +ℕ n) right → Combination (n +ℕ n) t (expand_pair f.m (n +ℕ n) left right x)
  unfolding expand_pair
  expand_pair-combination n t left right x hl hr hx m l r =
      ap₂ (λ x y. x * F t + y * F (suc t))
      (series-plus_products f.m pos (n +ℕ n) left.v0 right.v0 x.e00 right.v1 x.e10
      (omega arith) (omega arith) (omega arith))
      (series-plus_products f.m pos (n +ℕ n) left.v1 right.v0 x.e01 right.v1 x.e11
      (omega arith) (omega arith) (omega arith))
      ∙ ring B (S left.v0 ∷ S left.v1 ∷ S right.v0 ∷ S right.v1
      ∷ S x.e00 ∷ S x.e01 ∷ S x.e10 ∷ S x.e11 ∷ F t ∷ F (suc t) ∷ []) (search reify depth 20) tt
      ∙ ap₂ ◌+◌ l
      (ap₂ (λ x y. S right.v0 * x + S right.v1 * y) (sym m.first) (sym m.second)
      ∙ r ∙ sum-cong B n (λ j _. ap part (add_assoc t n j)))
      ∙ sym (sum-split B n n (λ j. part (t +ℕ j)))

  up-combination : (l t : ℕ) → Combination (span l) t (up f u l t)
  unfolding up span
  up-combination zero t = leaf-combination t
  up-combination (suc l) t = expand_pair-combination (span l) t (up f u l t) (up f u l (t +ℕ span l)) (node f l t)
      (up-length f u l t) (up-length f u l (t +ℕ span l)) (node-length f l t)
      (node-transition f pos l t) (up-combination l t) (up-combination l (t +ℕ span l))

  -- ---- at the root
  root-sum : (l : ℕ) → S (up f u l 0).v0 + S (up f u l 0).v1 * S (F₁ f) ≡ sum B (span l) part
  root-sum l = ap (λ x. x + S v₁ * S (F₁ f)) (sym (B.mul-one (S v₀)))
      ∙ sym (ap₂ (λ x y. S v₀ * x + S v₁ * y) (poly-one Q (rows_of f pos)) (second-series f pos))
      ∙ up-combination l 0 ∙ sum-cong B (span l) (λ j _. ap part (zero-add j))
    where
      v₀ : List ℕ
      v₀ = (up f u l 0).v0

      v₁ : List ℕ
      v₁ = (up f u l 0).v1

  co-part : (j i : ℕ) → co Q (part j) i ≡ E u j ⊗ term Q (rows_of f pos) (suc j) i
  co-part j i = co-C-mul Q (E u j) (F j) i ∙ ap (λ t. E u j ⊗ t) (co-poly Q (rows_of f pos) (suc j) i)

  -- what lies past the curve adds nothing
  sum-parts : (n i : ℕ) → length u ≡ size f → size f ≤ n → i < size f → co Q (sum B n part) i ≡ E (expand f u) i
  sum-parts n i hu hn hi = co-sum Q n part i ∙ sum-cong Q n (λ j _. co-part j i) ∙ sum-cut Q (size f) n _ hn past
      ∙ sym (entries-expand f pos u i hi)
    where
      past : (j : ℕ) → size f ≤ j → E u j ⊗ term Q (rows_of f pos) (suc j) i ≡ Q.zero
      past j h = ap (λ t. t ⊗ term Q (rows_of f pos) (suc j) i) (entries-past f.m pos u j (omega arith))
          ∙ Ring.zero-mul Q (term Q (rows_of f pos) (suc j) i)

  co-root : (l i : ℕ) → i < size f → E (expand_at f l u) i ≡ co Q (S (up f u l 0).v0 + S (up f u l 0).v1 * S (F₁ f)) i
  unfolding expand_at
  co-root l i h = co-plus_product f.m pos (size f) (up f u l 0).v0 (up f u l 0).v1 (F₁ f) i h

  pub expand_at-expand : (l : ℕ) → length u ≡ size f → size f ≤ span l → expand_at f l u ≡ expand f u
  expand_at-expand l hu hl = curves-equal-residues f (expand_at f l u) (expand f u)
      (record { long = expand_at-length f l u; below = λ i _. expand_at-below f pos l u i }) (expand-curve f pos u) pos
      (λ i h. co-root l i h ∙ ap (λ s. co Q s i) (root-sum l) ∙ sum-parts (span l) i hu hl h)

pub tree-expand : (f : Family) → 0 < f.m → EqualLengths f → (u : List ℕ) → length u ≡ size f → tree_expand f u ≡ expand f u
unfolding tree_expand
tree-expand f pos equal u long = with_tree-cases (λ x. x ≡ expand f u) f u _ (λ e. sym (expand-alone f u e))
    (λ _. expand_at-expand (padded f) pos u (level_for (size f)) long (level-covers (size f)) ∙ expand-close f equal _ u)

pub tree-expand-accepted : (f : Family) → Accepted f → (u : List ℕ) → Curve f u → tree_expand f u ≡ expand f u
tree-expand-accepted f acc u curve = tree-expand f (omega (arith, acc.modulus.least)) (accepted-lengths f acc) u curve.long
