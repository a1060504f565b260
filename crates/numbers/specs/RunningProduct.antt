-- Products that run along a list modulo m, and the inverses that they share.
--   running_product m v k  v_0 .. v_{k-1} modulo m, 1 if k is 0
-- Proved: how it begins and goes on; it is below m; if it has an inverse then so has each of its factors, and from that one
-- inverse come those of the last factor and of the running product before it. Assumes nothing.
use Rattle.std.specs.Prelude.{◌≡◌}
use Rattle.std.proofs.Math.Path.{refl, sym, ap}
use Rattle.std.proofs.Common.{◌∙◌, ⊎_elim, eq-or-lt_of_le, le_of_suc-le-suc, mul_assoc, mul_comm, add-one, arith}
use Prim.Native.Nat.{ℕ, zero, suc, ◌+◌, ◌*◌, ◌%◌, ◌<◌, ◌≤◌}
use Rattle.std.proofs.Math.Nat.{mod-lt, mod-mod}
use Rattle.algebra.specs.Residues.{mod-mul-mod, mul-mod-mod}
use Rattle.definitions.specs.Number.{HasInverse, inverse}
use Rattle.numbers.specs.Inverse.{inverse-right, inverse-unique, has-inverse-remainder, product-has-inverse}

unfoldable pub running_product : ℕ → (ℕ → ℕ) → ℕ → ℕ
running_product m v zero = 1
running_product m v (suc k) = running_product m v k * v k % m

module _ (m : ℕ) (v : ℕ → ℕ) where
  pub running_none : 1 ≡ running_product m v 0
  unfolding running_product
  running_none = refl

  pub running-next : (k r s : ℕ) → r ≡ running_product m v k → s ≡ r * v k % m → s ≡ running_product m v (k + 1)
  unfolding running_product
  running-next k r s e f = f ∙ ap (λ t. t * v k % m) e ∙ rw (add-one k)

  pub running-below : 2 ≤ m → (k : ℕ) → running_product m v k < m
  unfolding running_product
  running-below two zero = two
  running-below two (suc k) = mod-lt _ (omega arith)

  -- both factors of a running product
  pub running-factors : (k : ℕ) → HasInverse m (running_product m v (suc k)) → HasInverse m (running_product m v k) × HasInverse m (v k)
  unfolding running_product
  running-factors k h =
      (product-has-inverse m (running_product m v k) (v k)).0
      (has-inverse-remainder m (running_product m v k * v k % m) (running_product m v k * v k) (mod-mod (running_product m v k * v k) m) h)

  pub running-each : (n : ℕ) → HasInverse m (running_product m v n) → (i : ℕ) → i < n → HasInverse m (v i)
  running-each zero h i l = absurd (omega arith)
  running-each (suc n) h i l =
      let both = running-factors n h in
      ⊎_elim (λ (same : i ≡ n). rw same both.1) (running-each n both.0 i) (eq-or-lt_of_le {n = i} {m = n} (le_of_suc-le-suc l))

  -- one inverse for two
  module _ (one : 1 < m) (k : ℕ) (h : HasInverse m (running_product m v (suc k))) where
    abbrev R : ℕ
    R = running_product m v k

    abbrev I : ℕ
    I = inverse m (running_product m v (suc k))

    whole : R * v k * I % m ≡ 1
    unfolding running_product
    whole = sym (mod-mul-mod (R * v k) I m) ∙ inverse-right m (running_product m v (suc k)) (omega arith) h

    pub last-inverse : I * R % m ≡ inverse m (v k)
    last-inverse =
        let regrouped : v k * (I * R) ≡ R * v k * I =
        mul_comm (v k) (I * R) ∙ ap (λ t. t * v k) (mul_comm I R) ∙ mul_assoc R I (v k)
        ∙ ap (λ t. R * t) (mul_comm I (v k)) ∙ sym (mul_assoc R (v k) I) in
        inverse-unique m (v k) (I * R % m) one (mod-lt _ (omega arith)) (mul-mod-mod (v k) (I * R) m ∙ ap (λ t. t % m) regrouped ∙ whole)

    pub earlier-inverse : I * v k % m ≡ inverse m R
    earlier-inverse =
        let regrouped : R * (I * v k) ≡ R * v k * I = ap (λ t. R * t) (mul_comm I (v k)) ∙ sym (mul_assoc R (v k) I) in
        inverse-unique m R (I * v k % m) one (mod-lt _ (omega arith)) (mul-mod-mod R (I * v k) m ∙ ap (λ t. t % m) regrouped ∙ whole)
