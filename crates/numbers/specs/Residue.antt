-- What `definitions` computes with numbers modulo m is what the ring of residues computes.
--   bridge : the equations by which `simp` carries `res m pos` from a number to the residues of its parts
-- Proved: the residues of sums, multiples, negatives and inverses; a number has an inverse if and only if its residue is a unit;
-- lists of one length with entries below m are equal if the residues of their entries are.
-- `pos : 0 < m` is a parameter of all of it, since the ring takes it. That residues are equal just if the remainders are, and numbers
-- below m with equal residues, are `mod-of-res`, `res-of-mod` and `res-injective` of `algebra`, Residues.
-- Assumes nothing.
use Rattle.std.specs.Prelude.{◌≡◌, List, ◌↔◌, ℕ, ◌*◌, ◌-◌, ◌%◌, ◌<◌, length, get_or}
use Rattle.std.proofs.Math.Path.{refl}
use Rattle.std.proofs.Common.{sym, ◌∙◌, ap, ext_get_or}
use Rattle.std.proofs.Math.Nat.{mod-mod}
use Rattle.algebra.specs.Residues.{Zmod, res, res-zero, res_one, res-add, res-mul, res-mod}
use Rattle.algebra.specs.Residues.{res-neg, res-sum, res-injective, res-of-mod, inverse-of-unit}
use Rattle.algebra.specs.Sum as Sum
use Rattle.algebra.specs.Unit.{IsUnit}
use Rattle.definitions.specs.Number.{sum, negative, HasInverse, inverse}
use Rattle.numbers.specs.Inverse.{inverse-right}
use Rattle.numbers.specs.Lists.{Each}

-- the negative depends on the remainder only
pub negative-mod : (m x : ℕ) → negative m (x % m) ≡ negative m x
unfolding negative
negative-mod m x = ap (λ t. m - t) (mod-mod x m)

module _ (m : ℕ) (pos : 0 < m) where
  pub residue-sum : (n : ℕ) (f : ℕ → ℕ) → res m pos (sum n f) ≡ Sum.sum (Zmod m pos) n (λ i. res m pos (f i))
  unfolding sum
  residue-sum n f = res-sum m pos (λ n. sum n f) f refl (λ n. refl) n

  pub residue-negative : (x : ℕ) → res m pos (negative m x) ≡ (Zmod m pos).neg (res m pos x)
  unfolding negative
  residue-negative x = res-neg m pos x

  pub residue-multiple : (x y z : ℕ) → y % m ≡ z * x % m → res m pos y ≡ (Zmod m pos).mul (res m pos z) (res m pos x)
  residue-multiple x y z e = res-of-mod m pos y (z * x) e ∙ res-mul m pos z x

  pub residue-product-one : (x y : ℕ) → x * y % m ≡ 1 → (Zmod m pos).mul (res m pos x) (res m pos y) ≡ (Zmod m pos).one
  residue-product-one x y e = sym (res-mul m pos x y) ∙ sym (res-mod m pos (x * y)) ∙ ap (res m pos) e ∙ res_one m pos

  pub residue-inverse : (x : ℕ) → HasInverse m x → (Zmod m pos).mul (res m pos x) (res m pos (inverse m x)) ≡ (Zmod m pos).one
  residue-inverse x h = residue-product-one x (inverse m x) (inverse-right m x pos h)

  pub residue-unit : (x : ℕ) → 1 < m → HasInverse m x ↔ IsUnit (Zmod m pos) (res m pos x)
  unfolding HasInverse
  residue-unit x h = (λ p. (res m pos p.0, residue-product-one x p.0 p.1), inverse-of-unit m pos x h)

  pub lists-equal : (s t : List ℕ) → length s ≡ length t → Each (λ x. x < m) s 0 → Each (λ x. x < m) t 0
      → ((i : ℕ) → i < length s → res m pos (get_or s i 0) ≡ res m pos (get_or t i 0)) → s ≡ t
  lists-equal s t l p q e = ext_get_or 0 s t l (λ i h. res-injective m pos (get_or s i 0) (get_or t i 0) (p i h) (q i (rw (← l) h)) (e i h))

pub ruleset bridge = (res-mod, res-add, res-mul, res-zero, res_one, residue-sum, residue-negative)
