-- Remainders of whole numbers, and the map of rings from the whole numbers to the residues modulo m.
--   image m p z     the residue of z; p says that m is not zero
--   reduction m p   the map of rings that takes z to it
-- Proved: a remainder is below its modulus, has the residue of its number, and is the one number that does (remainder_is); two numbers that
-- differ by a multiple of m leave the same (remainder-apart), and so does the remainder modulo a multiple of m (remainder-multiple).
-- Assumes nothing.
use mathlib.Core.List.{List, [], ◌∷◌, map}
use Rattle.std.specs.Prelude.{◌≡◌, ℤ, pos, negsuc, ◌+ℤ◌, ◌*ℤ◌, get_or}
use Rattle.std.proofs.Common.{sym, ◌∙◌, ap, mod-lt, arith}
use Rattle.std.proofs.Math.Path.{ap₂}
use Prim.Native.Nat.{ℕ, zero, suc, ◌+◌, ◌*◌, ◌-◌, ◌%◌, ◌<◌}
use Rattle.std.proofs.Math.Nat.{zero-mod, mod-mod_of_dvd, dvd-mul_right, mul-mod_right}
use Rattle.algebra.specs.Map.{RingMap}
use Rattle.algebra.specs.Residues.{Zmod, res, res-zero, res_one, res-add, res-mul, res-mod, res-neg, res-of-mod, mod-of-res, res-injective}
use Rattle.algebra.specs.Ring.{CommRing}
use Rattle.algebra.specs.Solver.{ring, linear, scaled, both, reify}
use Rattle.definitions.specs.Number.{negative}
use Rattle.joining.specs.Whole.{remainder}
use Rattle.wholes.specs.Integers.{up, down, whole, add-law, mul-law}

pub remainder-lt : (m : ℕ) → 0 < m → (z : ℤ) → remainder m z < m
unfolding remainder
remainder-lt m p (pos n) = mod-lt n p
remainder-lt m p (negsuc n) = mod-lt (negative m (suc n)) p

-- an entry of a list of remainders, where what is read past its end is below m too
pub remainders-below : (m : ℕ) → 0 < m → (xs : List ℤ) (i d : ℕ) → d < m → get_or (map (remainder m) xs) i d < m
remainders-below m p [] i d h = h
remainders-below m p (x ∷ xs) zero d h = remainder-lt m p x
remainders-below m p (x ∷ xs) (suc i) d h = remainders-below m p xs i d h

module _ (m : ℕ) (p : 0 < m) where
  abbrev R : CommRing
  R = Zmod m p

  open R use {Car, zero as 𝟘, one as 𝟙, add as ◌⊕◌, mul as ◌⊗◌, neg as ⊖◌}

  infixl 65 ◌⊕◌
  infixl 70 ◌⊗◌
  infix 75 ⊖◌
  abbrev ι : ℕ → Car
  ι x = res m p x

  unfoldable pub image : ℤ → Car
  image z = ι (up z) ⊕ ⊖ ι (down z)

  image-one : image (pos 1) ≡ 𝟙
  unfolding image
  image-one = ap₂ (λ s t. s ⊕ ⊖ t) (res_one m p) (res-zero m p) ∙ ring R [] (search reify depth 20) tt

  image-add : (z w : ℤ) → image (z +ℤ w) ≡ image z ⊕ image w
  unfolding image
  image-add z w =
      linear R (ι (up z) ∷ ι (down z) ∷ ι (up w) ∷ ι (down w) ∷ ι (up (z +ℤ w)) ∷ ι (down (z +ℤ w)) ∷ []) (scaled R 𝟙 law)
      (search reify depth 20) tt
    where
      law : ι (up (z +ℤ w)) ⊕ (ι (down z) ⊕ ι (down w)) ≡ ι (up z) ⊕ ι (up w) ⊕ ι (down (z +ℤ w))
      law = simp (← res-add m p) (ap (res m p) (add-law z w))

  image-mul : (z w : ℤ) → image (z *ℤ w) ≡ image z ⊗ image w
  unfolding image
  image-mul z w =
      linear R (ι (up z) ∷ ι (down z) ∷ ι (up w) ∷ ι (down w) ∷ ι (up (z *ℤ w)) ∷ ι (down (z *ℤ w)) ∷ []) (scaled R 𝟙 law)
      (search reify depth 20) tt
    where
      law : ι (up (z *ℤ w)) ⊕ (ι (up z) ⊗ ι (down w) ⊕ ι (down z) ⊗ ι (up w))
          ≡ ι (up z) ⊗ ι (up w) ⊕ ι (down z) ⊗ ι (down w) ⊕ ι (down (z *ℤ w))
      law = simp (← res-mul m p, ← res-add m p) (ap (res m p) (mul-law z w))

  pub reduction : RingMap whole R
  reduction = record { to = image; to_one = image-one; to-add = image-add; to-mul = image-mul }

  -- ---- remainders have the residue of their number
  residue-of : (z : ℤ) → ι (remainder m z) ≡ image z
  unfolding remainder negative image
  residue-of (pos n) = linear R (ι n ∷ ι (n % m) ∷ ι 0 ∷ []) (both R (scaled R 𝟙 (res-mod m p n)) (scaled R 𝟙 (res-zero m p)))
      (search reify depth 20) tt
  residue-of (negsuc n) =
      linear R (ι (suc n) ∷ ι (negative m (suc n) % m) ∷ ι 0 ∷ [])
      (both R (scaled R 𝟙 (res-mod m p (m - suc n % m) ∙ res-neg m p (suc n))) (scaled R (⊖ 𝟙) (res-zero m p)))
      (search reify depth 20) tt

  pub remainder-image : (z : ℤ) → ι (remainder m z) ≡ reduction.to z
  unfolding reduction
  remainder-image z = residue-of z

  -- a number below m with the image of z is its remainder
  pub remainder_is : (z : ℤ) (x : ℕ) → x < m → ι x ≡ image z → remainder m z ≡ x
  remainder_is z x l e = res-injective m p (remainder m z) x (remainder-lt m p z) l (residue-of z ∙ sym e)

  -- a number that differs from z by a multiple of m leaves the same
  pub remainder-apart : (z : ℤ) (u w : ℕ) → w % m ≡ 0 → up z + w ≡ u + down z → remainder m z ≡ u % m
  unfolding image
  remainder-apart z u w e law = remainder_is z (u % m) (mod-lt u p)
      (res-mod m p u
      ∙ linear R (ι (up z) ∷ ι (down z) ∷ ι u ∷ ι w ∷ []) (both R (scaled R (⊖ 𝟙) apart) (scaled R 𝟙 none)) (search reify depth 20) tt)
    where
      apart : ι (up z) ⊕ ι w ≡ ι u ⊕ ι (down z)
      apart = simp (← res-add m p) (ap (res m p) law)

      none : ι w ≡ 𝟘
      none = res-of-mod m p w 0 (e ∙ sym (zero-mod m)) ∙ res-zero m p

  -- the remainder modulo a multiple of m leaves the same
  pub remainder-multiple : (q : ℕ) → 0 < m * q → (z : ℤ) → remainder (m * q) z % m ≡ remainder m z
  unfolding remainder negative
  remainder-multiple q h (pos n) = mod-mod_of_dvd m n (dvd-mul_right m q)
  remainder-multiple q h (negsuc n) =
      mod-mod_of_dvd m (m * q - suc n % (m * q)) (dvd-mul_right m q)
      ∙ mod-of-res m p (m * q - suc n % (m * q)) (m - suc n % m)
      (linear R (ι (m * q - suc n % (m * q)) ∷ ι (suc n % (m * q)) ∷ ι (suc n) ∷ ι (m - suc n % m) ∷ [])
      (both R (both R (scaled R 𝟙 whole-none) (scaled R (⊖ 𝟙) again)) (scaled R (⊖ 𝟙) (res-neg m p (suc n)))) (search reify depth 20) tt)
    where
      again : ι (suc n % (m * q)) ≡ ι (suc n)
      again = res-of-mod m p (suc n % (m * q)) (suc n) (mod-mod_of_dvd m (suc n) (dvd-mul_right m q))

      all : m * q - suc n % (m * q) + suc n % (m * q) ≡ m * q
      all = let l : suc n % (m * q) < m * q = mod-lt (suc n) h in omega arith

      whole-none : ι (m * q - suc n % (m * q)) ⊕ ι (suc n % (m * q)) ≡ 𝟘
      whole-none = sym (res-add m p (m * q - suc n % (m * q)) (suc n % (m * q))) ∙ ap (res m p) all
          ∙ res-of-mod m p (m * q) 0 (mul-mod_right m q ∙ sym (zero-mod m)) ∙ res-zero m p
