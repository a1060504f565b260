-- A list against a power series, over any commutative ring.
--   pairing R n u q t   the sum over k of q_k u_{t+k}: the linear form that takes x^i to u_i, at x^t q
-- The numbers u_i are n in all, and u is zero from n on. Proved: pairing is linear in q, x q counts as q one place on, and 1 gives u
-- itself. These are the transposed products of the report, section 2. Assumes nothing.
use Rattle.std.specs.Prelude.{◌≡◌}
use Rattle.std.proofs.Math.Path.{sym, ap, ap₂}
use Rattle.std.proofs.Common.{◌∙◌, arith}
use Prim.Native.Nat.{ℕ, suc, ◌≤◌, ◌+◌ as ◌+ℕ◌}
use Rattle.std.proofs.Math.Nat
use Rattle.algebra.specs.Ring
use Rattle.algebra.specs.Ring.{CommRing}
use Rattle.algebra.specs.Series.{Ser, co, co-zero, co-one-zero, co-one-suc, co-add}
use Rattle.algebra.specs.Sum.{sum, sum_first, sum-last, sum-cong, sum-vanish, sum-add, sum-mul-left}
use Rattle.algebra.specs.Variable.{C, X, co-C-mul, co-X-mul-zero, co-X-mul-suc}

module _ (R : CommRing) (n : ℕ) (u : ℕ → CommRing.Car R) where
  open R use {Car, zero as 𝟘, add as ◌⊕◌, mul as ◌⊗◌}
  open Ser R use {Car as Series, zero as 0#, one as 1#, add as ◌+◌, mul as ◌*◌}

  infixl 65 ◌⊕◌ ◌+◌
  infixl 70 ◌⊗◌ ◌*◌
  pub pairing : Series → ℕ → Car
  pairing q t = sum R n (λ k. co R q k ⊗ u (t +ℕ k))

  -- at t = 0 the coefficients of q against u
  pub pairing-here : (q : Series) → pairing q 0 ≡ sum R n (λ k. u k ⊗ co R q k)
  unfolding pairing
  pairing-here q = sum-cong R n (λ k _. R.mul_comm (co R q k) (u (0 +ℕ k)) ∙ ap (λ i. u i ⊗ co R q k) (Nat.zero-add k))

  pub pairing-zero : (t : ℕ) → pairing 0# t ≡ 𝟘
  unfolding pairing
  pairing-zero t = sum-vanish R n (λ k _. ap (λ c. c ⊗ u (t +ℕ k)) (co-zero R k) ∙ Ring.zero-mul R (u (t +ℕ k)))

  pub pairing-add : (p q : Series) (t : ℕ) → pairing (p + q) t ≡ pairing p t ⊕ pairing q t
  unfolding pairing
  pairing-add p q t = sum-cong R n (λ k _. ap (λ c. c ⊗ u (t +ℕ k)) (co-add R p q k) ∙ Ring.add-mul R (co R p k) (co R q k) (u (t +ℕ k)))
      ∙ sum-add R n (λ k. co R p k ⊗ u (t +ℕ k)) (λ k. co R q k ⊗ u (t +ℕ k))

  pub pairing-scale : (c : Car) (q : Series) (t : ℕ) → pairing (C R c * q) t ≡ c ⊗ pairing q t
  unfolding pairing
  pairing-scale c q t = sum-cong R n (λ k _. ap (λ d. d ⊗ u (t +ℕ k)) (co-C-mul R c q k) ∙ R.mul_assoc c (co R q k) (u (t +ℕ k)))
      ∙ sum-mul-left R n c (λ k. co R q k ⊗ u (t +ℕ k))

  module _ (past : (i : ℕ) → n ≤ i → u i ≡ 𝟘) where
    -- the term at n is zero, so that the first can be taken off without one less at the end
    pairing-first : (q : Series) (t : ℕ) → pairing q t ≡ co R q 0 ⊗ u (t +ℕ 0) ⊕ sum R n (λ k. co R q (suc k) ⊗ u (t +ℕ suc k))
    unfolding pairing
    pairing-first q t = sym (R.add-zero (pairing q t)) ∙ ap (λ x. pairing q t ⊕ x) (sym end) ∙ sym (sum-last R n term) ∙ sum_first R n term
      where
        term : ℕ → Car
        term k = co R q k ⊗ u (t +ℕ k)

        end : term n ≡ 𝟘
        end = ap (λ x. co R q n ⊗ x) (past (t +ℕ n) (omega arith)) ∙ Ring.mul-zero R (co R q n)

    pub pairing-X : (q : Series) (t : ℕ) → pairing (X R * q) t ≡ pairing q (suc t)
    unfolding pairing
    pairing-X q t = pairing-first (X R * q) t
        ∙ ap₂ ◌⊕◌ (ap (λ c. c ⊗ u (t +ℕ 0)) (co-X-mul-zero R q) ∙ Ring.zero-mul R (u (t +ℕ 0)))
        (sum-cong R n (λ k _. ap₂ ◌⊗◌ (co-X-mul-suc R q k) (ap u (Nat.add-suc t k ∙ sym (Nat.suc-add t k)))))
        ∙ Ring.zero-add R (pairing q (suc t))

    pub pairing-one : (t : ℕ) → pairing 1# t ≡ u t
    pairing-one t = pairing-first 1# t
        ∙ ap₂ ◌⊕◌ (ap₂ ◌⊗◌ (co-one-zero R) (ap u (Nat.add-zero t)) ∙ Ring.one-mul R (u t))
        (sum-vanish R n (λ k _. ap (λ c. c ⊗ u (t +ℕ suc k)) (co-one-suc R k) ∙ Ring.zero-mul R (u (t +ℕ suc k))))
        ∙ R.add-zero (u t)
