-- The residues modulo m, a commutative ring, for every m with 0 < m.
--   Zmod m pos : the ring; it stays shut
--   res m pos x : the residue of the number x
--   val m pos a : the number below m whose residue is a
-- Proves that res keeps 0, 1, +, *, %, negatives and sums, that residues are equal just if the remainders are,
-- and that a number whose residue is a unit has an inverse modulo m. `pos : 0 < m` is a parameter of all of it:
-- two proofs of it are not equal by computation, so a statement about Zmod should quantify over the proof.
-- Assumes nothing.
use Rattle.std.specs.Prelude.{◌≡◌}
use Rattle.std.proofs.Math.Path.{refl, sym, ap}
use Rattle.std.proofs.Common.{◌∙◌, mod-lt, arith}
use mathlib.Core.HLevel.{Σ_prop_path, Σ_set, hedberg, prop→set}
use Prim.Native.Nat.{ℕ, zero, suc, ◌+◌, ◌*◌, ◌-◌, ◌/◌, ◌%◌, ◌<◌}
use Rattle.std.proofs.Math.Bridge.{le_prop}
use Rattle.std.proofs.Math.Decide.{ℕ_discrete}
use Rattle.std.proofs.Math.Nat.{mod-add-mod, add-mod-mod, mod-add-div, add-mul-mod_self_left, mod-eq_of_lt, mod_self, mod-mod, zero-mod, add_assoc, add_comm, add-zero, mul_assoc, mul_comm, mul-one, mul-add}
use Rattle.algebra.specs.Ring
use Rattle.algebra.specs.Ring.{CommRing}
use Rattle.algebra.specs.Sum.{sum, sum-empty, sum-last}
use Rattle.algebra.specs.Unit.{IsUnit}

-- ---- remainders of products
pub mod-mul-mod : (a b m : ℕ) → (a % m * b) % m ≡ (a * b) % m
mod-mul-mod a b m = sym (ap (λ t. t % m) split ∙ add-mul-mod_self_left (a % m * b) m (a / m * b))
  where
    split : a * b ≡ a % m * b + m * (a / m * b)
    split = ap (λ t. t * b) (sym (mod-add-div a m)) ∙ omega arith

pub mul-mod-mod : (a b m : ℕ) → (a * (b % m)) % m ≡ (a * b) % m
mul-mod-mod a b m = ap (λ t. t % m) (mul_comm a (b % m)) ∙ mod-mul-mod b a m ∙ ap (λ t. t % m) (mul_comm b a)

module _ (m : ℕ) (pos : 0 < m) where
  -- ---- the ring, on the numbers below m
  abbrev Below : Type 0
  Below = (x : ℕ) × (x < m)

  abbrev remainder : ℕ → Below
  remainder x = (x % m, mod-lt x pos)

  below_eq : {a b : Below} → a.0 ≡ b.0 → a ≡ b
  below_eq p = Σ_prop_path (λ x. le_prop) p

  add-complement : (a : Below) → a.0 + (m - a.0) ≡ m
  add-complement a = let h : a.0 < m = a.1 in omega arith

  pub Zmod : CommRing
  unfolding ℕ_discrete
  Zmod = record {
    Car = Below;
    is_set = Σ_set (hedberg ℕ_discrete) (λ x. prop→set le_prop);
    zero = remainder 0;
    one = remainder 1;
    add = λ a b. remainder (a.0 + b.0);
    mul = λ a b. remainder (a.0 * b.0);
    neg = λ a. remainder (m - a.0);
    add_assoc = λ a b c. below_eq (mod-add-mod (a.0 + b.0) m c.0 ∙ ap (λ t. t % m) (add_assoc a.0 b.0 c.0)
        ∙ sym (add-mod-mod a.0 (b.0 + c.0) m));
    add_comm = λ a b. below_eq (ap (λ t. t % m) (add_comm a.0 b.0));
    add-zero = λ a. below_eq (add-mod-mod a.0 0 m ∙ ap (λ t. t % m) (add-zero a.0) ∙ mod-eq_of_lt a.1);
    add-neg = λ a. below_eq (add-mod-mod a.0 (m - a.0) m ∙ ap (λ t. t % m) (add-complement a) ∙ mod_self m ∙ sym (zero-mod m));
    mul_assoc = λ a b c. below_eq (mod-mul-mod (a.0 * b.0) c.0 m ∙ ap (λ t. t % m) (mul_assoc a.0 b.0 c.0)
        ∙ sym (mul-mod-mod a.0 (b.0 * c.0) m));
    mul_comm = λ a b. below_eq (ap (λ t. t % m) (mul_comm a.0 b.0));
    mul-one = λ a. below_eq (mul-mod-mod a.0 1 m ∙ ap (λ t. t % m) (mul-one a.0) ∙ mod-eq_of_lt a.1);
    mul-add = λ a b c. below_eq (mul-mod-mod a.0 (b.0 + c.0) m ∙ ap (λ t. t % m) (mul-add a.0 b.0 c.0)
        ∙ sym (mod-add-mod (a.0 * b.0) m ((a.0 * c.0) % m) ∙ add-mod-mod (a.0 * b.0) (a.0 * c.0) m));
  }

  -- ---- residues and numbers
  pub res : ℕ → Zmod.Car
  unfolding Zmod
  res x = remainder x

  pub val : Zmod.Car → ℕ
  unfolding Zmod
  val a = a.0

  pub val-res : (x : ℕ) → val (res x) ≡ x % m
  unfolding val res
  val-res x = refl

  pub res-val : (a : Zmod.Car) → res (val a) ≡ a
  unfolding val res Zmod
  res-val a = below_eq (mod-eq_of_lt a.1)

  pub val_injective : {a b : Zmod.Car} → val a ≡ val b → a ≡ b
  unfolding val Zmod
  val_injective p = below_eq p

  -- ---- equal residues
  pub res-of-mod : (x y : ℕ) → x % m ≡ y % m → res x ≡ res y
  res-of-mod x y p = val_injective (val-res x ∙ p ∙ sym (val-res y))

  pub mod-of-res : (x y : ℕ) → res x ≡ res y → x % m ≡ y % m
  mod-of-res x y e = sym (val-res x) ∙ ap val e ∙ val-res y

  pub res-injective : (x y : ℕ) → x < m → y < m → res x ≡ res y → x ≡ y
  res-injective x y p q e = sym (mod-eq_of_lt p) ∙ mod-of-res x y e ∙ mod-eq_of_lt q

  -- ---- the operations
  pub res-zero : res 0 ≡ Zmod.zero
  unfolding res Zmod
  res-zero = refl

  pub res_one : res 1 ≡ Zmod.one
  unfolding res Zmod
  res_one = refl

  pub res-add : (x y : ℕ) → res (x + y) ≡ Zmod.add (res x) (res y)
  unfolding res Zmod
  res-add x y = below_eq (sym (mod-add-mod x m (y % m) ∙ add-mod-mod x y m))

  pub res-mul : (x y : ℕ) → res (x * y) ≡ Zmod.mul (res x) (res y)
  unfolding res Zmod
  res-mul x y = below_eq (sym (mod-mul-mod x (y % m) m ∙ mul-mod-mod x y m))

  pub res-mod : (x : ℕ) → res (x % m) ≡ res x
  res-mod x = res-of-mod (x % m) x (mod-mod x m)

  pub res-self : res m ≡ Zmod.zero
  res-self = res-of-mod m 0 (mod_self m ∙ sym (zero-mod m)) ∙ res-zero

  pub res-neg : (x : ℕ) → res (m - x % m) ≡ Zmod.neg (res x)
  res-neg x = sym (Ring.neg_unique Zmod (res x) (res (m - x % m)) (ap (λ t. Zmod.add t (res (m - x % m))) (sym (res-mod x))
      ∙ sym (res-add (x % m) (m - x % m)) ∙ ap res whole ∙ res-self))
    where
      whole : x % m + (m - x % m) ≡ m
      whole = let h : x % m < m = mod-lt x pos in omega arith

  -- sums of numbers, however they are defined: s n is the sum of f 0, .., f (n - 1)
  pub res-sum : (s f : ℕ → ℕ) → s 0 ≡ 0 → ((n : ℕ) → s (suc n) ≡ s n + f n) → (n : ℕ) → res (s n) ≡ sum Zmod n (λ i. res (f i))
  res-sum s f s-zero s-suc zero = ap res s-zero ∙ res-zero ∙ sym (sum-empty Zmod (λ i. res (f i)))
  res-sum s f s-zero s-suc (suc n) = ap res (s-suc n) ∙ res-add (s n) (f n) ∙ ap (λ t. Zmod.add t (res (f n))) (res-sum s f s-zero s-suc n)
      ∙ sym (sum-last Zmod n (λ i. res (f i)))

  pub inverse-of-unit : (x : ℕ) → 1 < m → IsUnit Zmod (res x) → (y : ℕ) × (x * y % m ≡ 1)
  inverse-of-unit x h (a, e) =
      (val a, mod-of-res (x * val a) 1 (res-mul x (val a) ∙ ap (Zmod.mul (res x)) (res-val a) ∙ e ∙ sym res_one) ∙ mod-eq_of_lt h)
