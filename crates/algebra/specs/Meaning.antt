-- What expressions and normal forms mean in a ring, and that normalising keeps the meaning.
--   value R ρ e : the value of e where variable i is the i-th element of ρ
--   total R ρ s : the value of a normal form
-- Proves `value_same`: two expressions whose difference cancels have the same value.
-- Assumes nothing.
use Rattle.std.specs.Prelude.{◌≡◌}
use Rattle.std.proofs.Math.Path.{refl, sym, ap, ap₂}
use Rattle.std.proofs.Common.{◌∙◌, subst}
use mathlib.Core.List.{List, [], ◌∷◌}
use Prim.Native.Nat.{ℕ, zero, suc, ◌+◌, ◌*◌, compare, Ordering}
use Prim.Native.Nat.compare
use Rattle.algebra.specs.Expression.{Expr, var, lit, add, mul, neg, Poly, done, term, order, insert, merge, add_term}
use Rattle.algebra.specs.Expression.{plus, negate, add_scaled, times, normal, cancelled, left_over, Nothing, Same}
use Rattle.algebra.specs.Numeral.{numeral, numeral-zero, numeral-one, numeral-add, numeral-mul}
use Rattle.algebra.specs.Ring
use Rattle.algebra.specs.Ring.{CommRing}

-- ---- comparisons
abbrev IsEq : Ordering → Type 0
IsEq Ordering.lt = ⊥
IsEq Ordering.eq = Unit {0}
IsEq Ordering.gt = ⊥

-- a property of a choice by comparison, from the property of each of the three
choose : {A : Type 0} (P : A → Type 0) {x y z : A} (o : Ordering) → P x → (IsEq o → P y) → P z
    → P (elim o as (λ _. A) [ Ordering.lt ↦ x | Ordering.eq ↦ y | Ordering.gt ↦ z ])
choose P Ordering.lt l e g = l
choose P Ordering.eq l e g = e tt
choose P Ordering.gt l e g = g

compare-eq : (m n : ℕ) → IsEq (compare m n) → m ≡ n
compare-eq zero zero t = refl
compare-eq zero (suc n) t = absurd (subst IsEq (compare.zero-suc n) t)
compare-eq (suc m) zero t = absurd (subst IsEq (compare.suc-zero m) t)
compare-eq (suc m) (suc n) t = ap suc (compare-eq m n (subst IsEq (compare.suc-suc m n) t))

order-eq : (m n : List ℕ) → IsEq (order m n) → m ≡ n
order-eq [] [] = λ t. refl
order-eq [] (j ∷ n) = absurd
order-eq (i ∷ m) [] = absurd
order-eq (i ∷ m) (j ∷ n) = choose (λ o. IsEq o → i ∷ m ≡ j ∷ n) (compare i j) absurd
    (λ e t. ap₂ ◌∷◌ (compare-eq i j e) (order-eq m n t)) absurd

module _ (R : CommRing) where
  open R use {Car, zero as 𝟘, one as 𝟙, add as ◌⊕◌, mul as ◌⊗◌, neg as ⊖◌}
  open R use {add_assoc, add_comm, add-zero, add-neg, mul_assoc, mul-one, mul-add}

  infixl 65 ◌⊕◌
  infixl 70 ◌⊗◌
  infix 75 ⊖◌
  -- ---- values
  abbrev pub atom : List Car → ℕ → Car
  atom [] i = 𝟘
  atom (x ∷ ρ) zero = x
  atom (x ∷ ρ) (suc i) = atom ρ i

  abbrev pub value : List Car → Expr → Car
  value ρ (var i) = atom ρ i
  value ρ (lit k) = numeral R k
  value ρ (add a b) = value ρ a ⊕ value ρ b
  value ρ (mul a b) = value ρ a ⊗ value ρ b
  value ρ (neg a) = ⊖ value ρ a

  monomial : List Car → List ℕ → Car
  monomial ρ [] = 𝟙
  monomial ρ (i ∷ m) = atom ρ i ⊗ monomial ρ m

  coefficient : ℕ → ℕ → Car
  coefficient p q = numeral R p ⊕ ⊖ numeral R q

  total : List Car → Poly → Car
  total ρ done = 𝟘
  total ρ (term p q m s) = coefficient p q ⊗ monomial ρ m ⊕ total ρ s

  -- ---- coefficients
  coefficient-whole : (k : ℕ) → coefficient k 0 ≡ numeral R k
  unfolding coefficient
  coefficient-whole k = ap (λ t. numeral R k ⊕ ⊖ t) (numeral-zero R) ∙ ap (λ t. numeral R k ⊕ t) (Ring.neg-zero R) ∙ add-zero (numeral R k)

  coefficient-add : (p q p' q' : ℕ) → coefficient (p + p') (q + q') ≡ coefficient p q ⊕ coefficient p' q'
  unfolding coefficient
  coefficient-add p q p' q' = ap₂ (λ s t. s ⊕ ⊖ t) (numeral-add R p p') (numeral-add R q q')
      ∙ ap (λ t. (numeral R p ⊕ numeral R p') ⊕ t) (Ring.neg-add R (numeral R q) (numeral R q'))
      ∙ Ring.add-interchange R (numeral R p) (numeral R p') (⊖ numeral R q) (⊖ numeral R q')

  coefficient-neg : (p q : ℕ) → coefficient q p ≡ ⊖ coefficient p q
  unfolding coefficient
  coefficient-neg p q = add_comm (numeral R q) (⊖ numeral R p)
      ∙ sym (Ring.neg-add R (numeral R p) (⊖ numeral R q) ∙ ap (λ t. ⊖ numeral R p ⊕ t) (Ring.neg-neg R (numeral R q)))

  sub-mul-sub : (a b c d : Car) → (a ⊕ ⊖ b) ⊗ (c ⊕ ⊖ d) ≡ (a ⊗ c ⊕ b ⊗ d) ⊕ ⊖ (a ⊗ d ⊕ b ⊗ c)
  sub-mul-sub a b c d = mul-add (a ⊕ ⊖ b) c (⊖ d) ∙ ap₂ ◌⊕◌ left right ∙ Ring.add-interchange R (a ⊗ c) (⊖ (b ⊗ c)) (b ⊗ d) (⊖ (a ⊗ d))
      ∙ ap (λ t. (a ⊗ c ⊕ b ⊗ d) ⊕ t) (add_comm (⊖ (b ⊗ c)) (⊖ (a ⊗ d)) ∙ sym (Ring.neg-add R (a ⊗ d) (b ⊗ c)))
    where
      left : (a ⊕ ⊖ b) ⊗ c ≡ a ⊗ c ⊕ ⊖ (b ⊗ c)
      left = Ring.add-mul R a (⊖ b) c ∙ ap (λ t. a ⊗ c ⊕ t) (Ring.neg-mul R b c)

      right : (a ⊕ ⊖ b) ⊗ ⊖ d ≡ b ⊗ d ⊕ ⊖ (a ⊗ d)
      right = Ring.mul-neg R (a ⊕ ⊖ b) d ∙ ap ⊖◌ (Ring.add-mul R a (⊖ b) d ∙ add_comm (a ⊗ d) (⊖ b ⊗ d)) ∙ Ring.neg-add R (⊖ b ⊗ d) (a ⊗ d)
          ∙ ap (λ t. t ⊕ ⊖ (a ⊗ d)) (ap ⊖◌ (Ring.neg-mul R b d) ∙ Ring.neg-neg R (b ⊗ d))

  coefficient-mul : (p q p' q' : ℕ) → coefficient (p * p' + q * q') (p * q' + q * p') ≡ coefficient p q ⊗ coefficient p' q'
  unfolding coefficient
  coefficient-mul p q p' q' = simp (coefficient, numeral-add R, numeral-mul R)
      (sym (sub-mul-sub (numeral R p) (numeral R q) (numeral R p') (numeral R q')))

  module _ (ρ : List Car) where
    -- ---- monomials
    monomial-insert : (i : ℕ) (m : List ℕ) → monomial ρ (insert i m) ≡ atom ρ i ⊗ monomial ρ m
    unfolding monomial
    monomial-insert i [] = refl
    monomial-insert i (j ∷ m) = choose (λ t. monomial ρ t ≡ atom ρ i ⊗ monomial ρ (j ∷ m)) (compare i j) refl (λ e. refl)
        (ap (λ t. atom ρ j ⊗ t) (monomial-insert i m) ∙ Ring.mul_left_comm R (atom ρ j) (atom ρ i) (monomial ρ m))

    monomial-merge : (m n : List ℕ) → monomial ρ (merge m n) ≡ monomial ρ m ⊗ monomial ρ n
    unfolding monomial
    monomial-merge [] n = sym (Ring.one-mul R (monomial ρ n))
    monomial-merge (i ∷ m) n = monomial-insert i (merge m n) ∙ ap (λ t. atom ρ i ⊗ t) (monomial-merge m n)
        ∙ sym (mul_assoc (atom ρ i) (monomial ρ m) (monomial ρ n))

    -- ---- normal forms
    total-add_term : (p q : ℕ) (m : List ℕ) (s : Poly) → total ρ (add_term p q m s) ≡ coefficient p q ⊗ monomial ρ m ⊕ total ρ s
    unfolding total
    total-add_term p q m done = refl
    total-add_term p q m (term p' q' m' s) = choose (λ t. total ρ t ≡ c ⊗ monomial ρ m ⊕ (c' ⊗ monomial ρ m' ⊕ total ρ s))
        (order m m') refl alike
        (ap (λ t. c' ⊗ monomial ρ m' ⊕ t) (total-add_term p q m s)
        ∙ Ring.add_left_comm R (c' ⊗ monomial ρ m') (c ⊗ monomial ρ m) (total ρ s))
      where
        c : Car
        c = coefficient p q

        c' : Car
        c' = coefficient p' q'

        alike : IsEq (order m m') → coefficient (p + p') (q + q') ⊗ monomial ρ m ⊕ total ρ s
            ≡ c ⊗ monomial ρ m ⊕ (c' ⊗ monomial ρ m' ⊕ total ρ s)
        alike e = ap (λ t. t ⊗ monomial ρ m ⊕ total ρ s) (coefficient-add p q p' q')
            ∙ ap (λ t. t ⊕ total ρ s) (Ring.add-mul R c c' (monomial ρ m))
            ∙ add_assoc (c ⊗ monomial ρ m) (c' ⊗ monomial ρ m) (total ρ s)
            ∙ ap (λ n. c ⊗ monomial ρ m ⊕ (c' ⊗ monomial ρ n ⊕ total ρ s)) (order-eq m m' e)

    total-plus : (s t : Poly) → total ρ (plus s t) ≡ total ρ s ⊕ total ρ t
    unfolding total
    total-plus done t = sym (Ring.zero-add R (total ρ t))
    total-plus (term p q m s) t = total-add_term p q m (plus s t) ∙ ap (λ u. coefficient p q ⊗ monomial ρ m ⊕ u) (total-plus s t)
        ∙ sym (add_assoc (coefficient p q ⊗ monomial ρ m) (total ρ s) (total ρ t))

    total-negate : (s : Poly) → total ρ (negate s) ≡ ⊖ total ρ s
    unfolding total
    total-negate done = sym (Ring.neg-zero R)
    total-negate (term p q m s) =
        ap₂ ◌⊕◌ (ap (λ t. t ⊗ monomial ρ m) (coefficient-neg p q) ∙ Ring.neg-mul R (coefficient p q) (monomial ρ m)) (total-negate s)
        ∙ sym (Ring.neg-add R (coefficient p q ⊗ monomial ρ m) (total ρ s))

    total-add_scaled : (p q : ℕ) (m : List ℕ) (s t : Poly)
        → total ρ (add_scaled p q m s t) ≡ coefficient p q ⊗ monomial ρ m ⊗ total ρ s ⊕ total ρ t
    unfolding total
    total-add_scaled p q m done t =
        sym (ap (λ u. u ⊕ total ρ t) (Ring.mul-zero R (coefficient p q ⊗ monomial ρ m)) ∙ Ring.zero-add R (total ρ t))
    total-add_scaled p q m (term p' q' m' s) t = total-add_term (p * p' + q * q') (p * q' + q * p') (merge m m') (add_scaled p q m s t)
        ∙ ap₂ ◌⊕◌ factors (total-add_scaled p q m s t)
        ∙ sym (add_assoc (k ⊗ k') (k ⊗ total ρ s) (total ρ t)) ∙ ap (λ u. u ⊕ total ρ t) (sym (mul-add k k' (total ρ s)))
      where
        k : Car
        k = coefficient p q ⊗ monomial ρ m

        k' : Car
        k' = coefficient p' q' ⊗ monomial ρ m'

        factors : coefficient (p * p' + q * q') (p * q' + q * p') ⊗ monomial ρ (merge m m') ≡ k ⊗ k'
        factors = ap₂ ◌⊗◌ (coefficient-mul p q p' q') (monomial-merge m m')
            ∙ Ring.mul-interchange R (coefficient p q) (coefficient p' q') (monomial ρ m) (monomial ρ m')

    total-times : (s t : Poly) → total ρ (times s t) ≡ total ρ s ⊗ total ρ t
    unfolding total
    total-times done t = sym (Ring.zero-mul R (total ρ t))
    total-times (term p q m s) t = total-add_scaled p q m t (times s t)
        ∙ ap (λ u. coefficient p q ⊗ monomial ρ m ⊗ total ρ t ⊕ u) (total-times s t)
        ∙ sym (Ring.add-mul R (coefficient p q ⊗ monomial ρ m) (total ρ s) (total ρ t))

    total-cancelled : (s : Poly) → total ρ (cancelled s) ≡ total ρ s
    unfolding total coefficient
    total-cancelled done = refl
    total-cancelled (term p q m s) = choose (λ t. total ρ t ≡ coefficient p q ⊗ monomial ρ m ⊕ total ρ s) (compare p q)
        (ap (λ t. coefficient p q ⊗ monomial ρ m ⊕ t) (total-cancelled s))
        (λ e. total-cancelled s ∙ sym (ap (λ t. t ⊕ total ρ s) (none e) ∙ Ring.zero-add R (total ρ s)))
        (ap (λ t. coefficient p q ⊗ monomial ρ m ⊕ t) (total-cancelled s))
      where
        none : IsEq (compare p q) → coefficient p q ⊗ monomial ρ m ≡ 𝟘
        none e = ap (λ t. t ⊗ monomial ρ m) (ap (λ t. numeral R t ⊕ ⊖ numeral R q) (compare-eq p q e) ∙ add-neg (numeral R q))
            ∙ Ring.zero-mul R (monomial ρ m)

    -- ---- expressions
    value-normal : (e : Expr) → value ρ e ≡ total ρ (normal e)
    unfolding total monomial
    value-normal (var i) = sym (add-zero (coefficient 1 0 ⊗ (atom ρ i ⊗ 𝟙))
        ∙ ap₂ ◌⊗◌ (coefficient-whole 1 ∙ numeral-one R) (mul-one (atom ρ i)) ∙ Ring.one-mul R (atom ρ i))
    value-normal (lit k) = sym (add-zero (coefficient k 0 ⊗ 𝟙) ∙ mul-one (coefficient k 0) ∙ coefficient-whole k)
    value-normal (add a b) = ap₂ ◌⊕◌ (value-normal a) (value-normal b) ∙ sym (total-plus (normal a) (normal b))
    value-normal (mul a b) = ap₂ ◌⊗◌ (value-normal a) (value-normal b) ∙ sym (total-times (normal a) (normal b))
    value-normal (neg a) = ap ⊖◌ (value-normal a) ∙ sym (total-negate (normal a))

    total-nothing : (s : Poly) → Nothing s → total ρ s ≡ 𝟘
    unfolding total
    total-nothing done h = refl
    total-nothing (term p q m s) h = elim h [ ]

    pub value_same : (a b : Expr) → Same a b → value ρ a ≡ value ρ b
    value_same a b h = Ring.eq-of-sub R (value ρ a) (value ρ b)
        (value-normal (add a (neg b)) ∙ sym (total-cancelled (normal (add a (neg b)))) ∙ total-nothing (left_over a b) h)
