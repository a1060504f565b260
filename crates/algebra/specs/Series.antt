-- Formal power series over a commutative ring, a commutative ring again.
--   Ser R : the ring of power series over R; it stays shut, so that `Solver` meets its operations as they stand
--   gen R f : the series with coefficients f 0, f 1, ..
--   co R s n : the coefficient of s at x^n
-- Proves that a series is its coefficients (`ser-ext`, `co-gen`), and the coefficients of sums and products.
-- Assumes nothing.
use Rattle.std.specs.Prelude.{◌≡◌}
use Rattle.std.proofs.Math.Path.{refl, sym, ap, fun_ext}
use Rattle.std.proofs.Common.{◌∙◌}
use mathlib.Core.HLevel.{→_set}
use Prim.Native.Nat.{ℕ, zero, suc, ◌-◌}
use Rattle.algebra.specs.Diagonal.{diag, diag-zero, diag-first, diag-cong, diag-vanish, diag-add, diag-mul-left}
use Rattle.algebra.specs.Diagonal.{diag-mul-right, diag-flip, diag-assoc, diag-sum}
use Rattle.algebra.specs.Ring
use Rattle.algebra.specs.Ring.{CommRing}
use Rattle.algebra.specs.Sum.{sum, sum-empty, sum-last}

module _ (R : CommRing) where
  open R use {Car, zero as 𝟘, one as 𝟙, add as ◌⊕◌, mul as ◌⊗◌, neg as ⊖◌}

  infixl 65 ◌⊕◌
  infixl 70 ◌⊗◌
  infix 75 ⊖◌
  -- ---- the ring, on functions
  abbrev constant_one : ℕ → Car
  constant_one zero = 𝟙
  constant_one (suc n) = 𝟘

  -- by a diagonal sum, so that no subtraction enters the laws
  convolution : (ℕ → Car) → (ℕ → Car) → ℕ → Car
  convolution f g n = diag R n (λ i j. f i ⊗ g j)

  convolution-comm : (f g : ℕ → Car) → convolution f g ≡ convolution g f
  unfolding convolution
  convolution-comm f g = fun_ext λ n. diag-cong R n (λ i j e. R.mul_comm (f i) (g j)) ∙ diag-flip R n (λ i j. g i ⊗ f j)

  convolution-assoc : (f g h : ℕ → Car) → convolution (convolution f g) h ≡ convolution f (convolution g h)
  unfolding convolution
  convolution-assoc f g h = fun_ext λ n. diag-cong R n (λ s k e. sym (diag-mul-right R s (λ i j. f i ⊗ g j) (h k)))
      ∙ diag-assoc R n (λ i j k. f i ⊗ g j ⊗ h k)
      ∙ diag-cong R n (λ i t e. diag-cong R t (λ j k e. R.mul_assoc (f i) (g j) (h k)) ∙ diag-mul-left R t (f i) (λ j k. g j ⊗ h k))

  convolution-one : (f : ℕ → Car) (n : ℕ) → convolution constant_one f n ≡ f n
  unfolding convolution
  convolution-one f zero = diag-zero R (λ i j. constant_one i ⊗ f j) ∙ Ring.one-mul R (f 0)
  convolution-one f (suc n) = diag-first R n (λ i j. constant_one i ⊗ f j)
      ∙ ap (λ t. 𝟙 ⊗ f (suc n) ⊕ t) (diag-vanish R n (λ i j e. Ring.zero-mul R (f j)))
      ∙ R.add-zero (𝟙 ⊗ f (suc n)) ∙ Ring.one-mul R (f (suc n))

  convolution-add : (f g h : ℕ → Car) → convolution f (λ n. g n ⊕ h n) ≡ (λ n. convolution f g n ⊕ convolution f h n)
  unfolding convolution
  convolution-add f g h = fun_ext λ n. diag-cong R n (λ i j e. R.mul-add (f i) (g j) (h j))
      ∙ diag-add R n (λ i j. f i ⊗ g j) (λ i j. f i ⊗ h j)

  pub Ser : CommRing
  Ser = record {
    Car = ℕ → Car;
    is_set = →_set R.is_set;
    zero = λ n. 𝟘;
    one = constant_one;
    add = λ f g n. f n ⊕ g n;
    mul = convolution;
    neg = λ f n. ⊖ f n;
    add_assoc = λ f g h. fun_ext λ n. R.add_assoc (f n) (g n) (h n);
    add_comm = λ f g. fun_ext λ n. R.add_comm (f n) (g n);
    add-zero = λ f. fun_ext λ n. R.add-zero (f n);
    add-neg = λ f. fun_ext λ n. R.add-neg (f n);
    mul_assoc = convolution-assoc;
    mul_comm = convolution-comm;
    mul-one = λ f. convolution-comm f constant_one ∙ fun_ext (convolution-one f);
    mul-add = convolution-add;
  }

  -- ---- a series is its coefficients
  pub gen : (ℕ → Car) → Ser.Car
  unfolding Ser
  gen f = f

  pub co : Ser.Car → ℕ → Car
  unfolding Ser
  co f = f

  pub co-gen : (f : ℕ → Car) (n : ℕ) → co (gen f) n ≡ f n
  unfolding co gen
  co-gen f n = refl

  pub ser-ext : {f g : Ser.Car} → ((n : ℕ) → co f n ≡ co g n) → f ≡ g
  unfolding co Ser
  ser-ext h = fun_ext h

  -- ---- the coefficients of what the ring's operations make
  pub co-zero : (n : ℕ) → co Ser.zero n ≡ 𝟘
  unfolding co Ser
  co-zero n = refl

  pub co-one-zero : co Ser.one 0 ≡ 𝟙
  unfolding co Ser
  co-one-zero = refl

  pub co-one-suc : (n : ℕ) → co Ser.one (suc n) ≡ 𝟘
  unfolding co Ser
  co-one-suc n = refl

  pub co-add : (f g : Ser.Car) (n : ℕ) → co (Ser.add f g) n ≡ co f n ⊕ co g n
  unfolding co Ser
  co-add f g n = refl

  pub co-neg : (f : Ser.Car) (n : ℕ) → co (Ser.neg f) n ≡ ⊖ co f n
  unfolding co Ser
  co-neg f n = refl

  pub co-mul : (f g : Ser.Car) (n : ℕ) → co (Ser.mul f g) n ≡ diag R n (λ i j. co f i ⊗ co g j)
  unfolding co Ser convolution
  co-mul f g n = refl

  pub co-mul-sum : (f g : Ser.Car) (n : ℕ) → co (Ser.mul f g) n ≡ sum R (suc n) (λ i. co f i ⊗ co g (n - i))
  co-mul-sum f g n = co-mul f g n ∙ diag-sum R n (λ i j. co f i ⊗ co g j)

  pub co-mul-zero : (f g : Ser.Car) → co (Ser.mul f g) 0 ≡ co f 0 ⊗ co g 0
  co-mul-zero f g = co-mul f g 0 ∙ diag-zero R (λ i j. co f i ⊗ co g j)

  pub co-sum : (n : ℕ) (f : ℕ → Ser.Car) (k : ℕ) → co (sum Ser n f) k ≡ sum R n (λ i. co (f i) k)
  co-sum zero f k = ap (λ s. co s k) (sum-empty Ser f) ∙ co-zero k ∙ sym (sum-empty R (λ i. co (f i) k))
  co-sum (suc n) f k = ap (λ s. co s k) (sum-last Ser n f) ∙ co-add (sum Ser n f) (f n) k ∙ ap (λ t. t ⊕ co (f n) k) (co-sum n f k)
      ∙ sym (sum-last R n (λ i. co (f i) k))
