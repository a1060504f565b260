-- The tree's Adjoint is Adjoint, for every modulus but 0, every family of equally long lists and every list of n numbers.
--   Terms f pos u n k xs    the n first numbers of xs are those of u against F_k, x F_k, x^2 F_k, ..
--   Values f pos u n t v    the two lists of the pair v are such terms for F_t and F_{t+1}
-- Proved: the root's pair has such terms, as many as the tree has rows; with 2 n of them at a node the left half has n by cutting
-- and the right half n by transposed products; at the leaves the first of them are Adjoint's entries. No inverse is needed. These rest on
-- TreeNodes of proofs/. The report, Figure 2, with the length of v_1 repaired. Assumes nothing.
use Rattle.std.specs.Prelude.{◌≡◌, List, [], ◌∷◌, ◌++◌, length, get_or}
use Rattle.std.proofs.Common.{sym, ◌∙◌, add-one, arith, get_or-append-add, get_or-take}
use Rattle.std.proofs.Math.Path.{ap}
use Prim.Native.Nat.{ℕ, zero, suc, ◌<◌, ◌≤◌, ◌+◌ as ◌+ℕ◌, ◌-◌ as ◌-ℕ◌}
use Rattle.std.proofs.Math.Decide.{dec_lt}
use Rattle.std.proofs.Math.Nat
use Rattle.std.proofs.Math.ListN.{get_or-append}
use Rattle.algebra.specs.Residues.{Zmod, res}
use Rattle.algebra.specs.Ring.{CommRing}
use Rattle.algebra.specs.Series.{Ser}
use Rattle.algebra.specs.Sum.{sum-cong}
use Rattle.definitions.specs.Conversion.{adjoint}
use Rattle.definitions.specs.Family.{Family, Accepted, Curve, size}
use Rattle.numbers.specs.Products.{transposed, transposed_sum}
use Rattle.theory.specs.Alone.{adjoint-alone}
use Rattle.theory.specs.Bridge.{entries, entries-past, rows_of, entries-adjoint, adjoint-curve}
use Rattle.theory.specs.Closing.{EqualLengths, accepted-lengths, adjoint-close}
use Rattle.theory.specs.Curves.{curves-equal-residues}
use Rattle.theory.specs.Recurrence.{co-poly}
use Rattle.tree_model.specs.Level.{span, level_for}
use Rattle.tree_model.proofs.Level.{level-covers}
use Rattle.tree_model.specs.ListPairing.{transposed-pairing, transposed_sum-pairing}
use Rattle.tree_model.specs.ListSeries.{series}
use Rattle.tree_model.specs.Pairing.{pairing, pairing-here, pairing-one}
use Rattle.tree_model.specs.Tree.{padded, F₀, F₁, Matrix, Pair, node, first_terms, adjoint_pair}
use Rattle.tree_model.specs.Tree.{left_pair, right_pair, down, root_pair, adjoint_at, tree_adjoint}
use Rattle.tree_model.proofs.TreeBelow.{adjoint_at-below}
use Rattle.tree_model.specs.TreeClauses.{with_tree-cases}
use Rattle.tree_model.specs.TreeLengths.{MatrixLength, node-length, down-length, adjoint_at-length}
use Rattle.tree_model.proofs.TreeNodes.{F as series-F, Transition, node-transition, first-series, second-series}

module _ (f : Family) (pos : 0 < f.m) (u : List ℕ) (long : length u ≡ size f) where
  abbrev Q : CommRing
  Q = Zmod f.m pos

  abbrev B : CommRing
  B = Ser Q

  open Q use {Car, zero as 𝟘, mul as ◌⊗◌}
  open B use {Car as Series, one as 1#, add as ◌+◌, mul as ◌*◌}

  infixl 65 ◌+◌
  infixl 70 ◌⊗◌ ◌*◌
  abbrev S : List ℕ → Series
  S = series f.m pos

  abbrev E : List ℕ → ℕ → Car
  E = entries f.m pos

  abbrev F : ℕ → Series
  F = series-F f pos

  -- u against x^t q
  abbrev form : Series → ℕ → Car
  form = pairing Q (size f) (E u)

  past : (i : ℕ) → size f ≤ i → E u i ≡ 𝟘
  past i h = entries-past f.m pos u i (omega arith)

  -- ---- going down
  abbrev Terms : ℕ → ℕ → List ℕ → Type 0
  Terms n k xs = (i : ℕ) → i < n → E xs i ≡ form (F k) i

  record Values (n t : ℕ) (v : Pair) : Type 0 where
    first : Terms n t v.v0
    second : Terms n (suc t) v.v1

  first_terms-values : (n t : ℕ) (v : Pair) → Values (n +ℕ n) t v → Values n t (first_terms n v)
  unfolding first_terms
  first_terms-values n t v h = record {
    first = λ i g. ap (res f.m pos) (get_or-take n v.v0 i 0 g) ∙ h.first i (omega arith);
    second = λ i g. ap (res f.m pos) (get_or-take n v.v1 i 0 g) ∙ h.second i (omega arith);
  }

  -- a row x, y of a matrix of n + 1 terms reaches term n - 1 + n of the pair, which has 2 n
  adjoint_pair-terms : (n t k : ℕ) (x y : List ℕ) (v : Pair) → length x ≡ suc n → length y ≡ suc n → F k ≡ S x * F t + S y * F (suc t)
      → Values (n +ℕ n) t v
      → Terms n k (transposed_sum f.m n x v.v0 y v.v1)
  adjoint_pair-terms n t k x y v hx hy e h i g =
      transposed_sum-pairing f.m pos (size f) (E u) past n x v.v0 y v.v1 (F t) (F (suc t)) i g
      (λ j l. h.first (i +ℕ j) (omega arith)) (λ j l. h.second (i +ℕ j) (omega arith))
      ∙ ap (λ s. form s i) (sym e)

  adjoint_pair-values : (n t : ℕ) (x : Matrix) (v : Pair) → MatrixLength (suc n) x → Transition f pos n t x → Values (n +ℕ n) t v
      → Values n (t +ℕ n) (adjoint_pair f.m n x v)
  unfolding adjoint_pair
  adjoint_pair-values n t x v l m h = record {
    first = adjoint_pair-terms n t (t +ℕ n) x.e00 x.e01 v l.l00 l.l01 m.first h;
    second = adjoint_pair-terms n t (suc (t +ℕ n)) x.e10 x.e11 v l.l10 l.l11 m.second h;
  }

  -- ---- the answers: u against F_t, F_{t+1}, ..
  abbrev Answers : ℕ → ℕ → List ℕ → Type 0
  Answers n t xs = (i : ℕ) → i < n → E xs i ≡ form (F (t +ℕ i)) 0

  leaf-answers : (t : ℕ) (v : Pair) → Values 2 t v → Answers 2 t (get_or v.v0 0 0 ∷ get_or v.v1 0 0 ∷ [])
  leaf-answers t v h zero g = h.first 0 (omega arith) ∙ ap (λ k. form (F k) 0) (sym (Nat.add-zero t))
  leaf-answers t v h (suc zero) g = h.second 0 (omega arith) ∙ ap (λ k. form (F k) 0) (sym (add-one t))
  leaf-answers t v h (suc (suc i)) g = absurd (omega arith)

  append-answers : (n t : ℕ) (xs ys : List ℕ) → length xs ≡ n → Answers n t xs → Answers n (t +ℕ n) ys → Answers (n +ℕ n) t (xs ++ ys)
  append-answers n t xs ys l p q i g = at (dec_lt i n)
    where
      at : Dec (i < n) → E (xs ++ ys) i ≡ form (F (t +ℕ i)) 0
      at (yes h) = ap (res f.m pos) (get_or-append xs ys 0 i (omega arith)) ∙ p i h
      at (no h) = let place : i ≡ length xs +ℕ (i -ℕ n) = omega arith in let whole : t +ℕ n +ℕ (i -ℕ n) ≡ t +ℕ i = omega arith in
          ap (E (xs ++ ys)) place ∙ ap (res f.m pos) (get_or-append-add xs ys (i -ℕ n) 0) ∙ q (i -ℕ n) (omega arith)
          ∙ ap (λ k. form (F k) 0) whole

  down_answers : (l t : ℕ) (v : Pair) → Values (span l) t v → Answers (span l) t (down f l t v)
  unfolding down span
  down_answers zero t v h = leaf-answers t v h
  down_answers (suc l) t v h = append-answers (span l) t (down f l t (left_pair l v)) (down f l (t +ℕ span l) (right_pair f l t v))
      (down-length f l t (left_pair l v))
      (down_answers l t (left_pair l v) (first_terms-values (span l) t v h))
      (down_answers l (t +ℕ span l) (right_pair f l t v)
      (adjoint_pair-values (span l) t (node f l t) v (node-length f l t) (node-transition f pos l t) h))

  -- ---- at the root
  root-terms : (n k : ℕ) (p : List ℕ) → F k ≡ S p → Terms n k (transposed f.m n p u)
  root-terms n k p e i g =
      transposed-pairing f.m pos (size f) (E u) past n p u 1# i g (λ j _. sym (pairing-one Q (size f) (E u) past (i +ℕ j)))
      ∙ ap (λ s. form s i) (B.mul-one (S p) ∙ sym e)

  root-values : (l : ℕ) → Values (span l) 0 (root_pair f l u)
  unfolding root_pair
  root-values l =
      record { first = root-terms (span l) 0 F₀ (first-series f pos); second = root-terms (span l) 1 (F₁ f) (second-series f pos) }

  form-adjoint : (j : ℕ) → j < size f → form (F j) 0 ≡ E (adjoint f u) j
  form-adjoint j h = pairing-here Q (size f) (E u) (F j)
      ∙ sum-cong Q (size f) (λ i _. ap (λ x. E u i ⊗ x) (co-poly Q (rows_of f pos) (suc j) i))
      ∙ sym (entries-adjoint f pos u j h)

  adjoint_at-entry : (l i : ℕ) → i < size f → size f ≤ span l → E (adjoint_at f l u) i ≡ E (adjoint f u) i
  unfolding adjoint_at
  adjoint_at-entry l i h hl = ap (res f.m pos) (get_or-take (size f) (down f l 0 (root_pair f l u)) i 0 h)
      ∙ down_answers l 0 (root_pair f l u) (root-values l) i (omega arith)
      ∙ ap (λ k. form (F k) 0) (Nat.zero-add i) ∙ form-adjoint i h

  pub adjoint_at-adjoint : (l : ℕ) → size f ≤ span l → adjoint_at f l u ≡ adjoint f u
  adjoint_at-adjoint l hl = curves-equal-residues f (adjoint_at f l u) (adjoint f u)
      (record { long = adjoint_at-length f l u hl; below = λ i _. adjoint_at-below f pos l u i }) (adjoint-curve f pos u) pos
      (λ i h. adjoint_at-entry l i h hl)

pub tree-adjoint : (f : Family) → 0 < f.m → EqualLengths f → (u : List ℕ) → length u ≡ size f → tree_adjoint f u ≡ adjoint f u
unfolding tree_adjoint
tree-adjoint f pos equal u long = with_tree-cases (λ x. x ≡ adjoint f u) f u _ (λ e. sym (adjoint-alone f u e))
    (λ _. adjoint_at-adjoint (padded f) pos u long (level_for (size f)) (level-covers (size f)) ∙ adjoint-close f equal _ u)

pub tree-adjoint-accepted : (f : Family) → Accepted f → (u : List ℕ) → Curve f u → tree_adjoint f u ≡ adjoint f u
tree-adjoint-accepted f acc u curve = tree-adjoint f (omega (arith, acc.modulus.least)) (accepted-lengths f acc) u curve.long
