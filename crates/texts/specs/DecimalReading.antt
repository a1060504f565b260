-- Decimal numbers as they are read.
--   DecimalFront t x rest   t begins with the 32-bit number x, and rest is what follows
-- Proved: which bytes are digits; a number that is written before a byte that is no digit is read back (read-decimal), and a
-- number that is read stood there so written (decimal-read).
-- Assumes nothing.
use Rattle.std.specs.Prelude.{◌≡◌, refl, Bool, true, false, ◌&&◌, List, [], ◌∷◌, ◌++◌, ℕ, zero, suc, ◌+◌, ◌*◌, ◌-◌, ◌/◌, ◌%◌, ◌<◌, ◌≤◌, eqb}
use Rattle.std.specs.Prelude.{leb, ltb}
use Rattle.std.proofs.Common.{sym, ◌∙◌, ap, append_assoc}
use native.Mathlib.Omega.{arith}
use borrow.Author.Tests.{eqb-false, eqb-true, le-leb, leb-true, lt-leb, ltb-false, ltb-true, ne_eqb}
use Rattle.definitions.specs.Text.{greatest_number, nought, decimal}
use Rattle.definitions.specs.Reading.{got, bad, pick, is_digit, read_digits, read_number}
use Rattle.texts.specs.Decimal.{decimal-small, decimal-large, decimal-more}

-- what is got is not bad
pub got-not-bad : {A : Type 0} {x : A} {t : List ℕ} → bad ≡ got x t → ⊥
got-not-bad e = let z : ◌≡◌ {A = ℕ} 0 1 = cc in omega arith

pub digit-true : (b : ℕ) → 48 ≤ b → b ≤ 57 → is_digit b ≡ true
unfolding is_digit
digit-true b l h = rw (le-leb 48 b, le-leb b 57)

digit-range : (b : ℕ) → is_digit b ≡ true → (48 ≤ b) × (b ≤ 57)
unfolding is_digit
digit-range b e = split (leb 48 b) (leb b 57) refl refl e
  where
    split : (x y : Bool) → leb 48 b ≡ x → leb b 57 ≡ y → (x && y) ≡ true → (48 ≤ b) × (b ≤ 57)
    split true true p q e = (leb-true 48 b p, leb-true b 57 q)
    split true false p q e = absurd (let z : ◌≡◌ {A = ℕ} 0 1 = cc in omega arith)
    split false y p q e = absurd (let z : ◌≡◌ {A = ℕ} 0 1 = cc in omega arith)

pub digit-below : (b : ℕ) → b < 48 → is_digit b ≡ false
unfolding is_digit
digit-below b h = rw (lt-leb 48 b)

pub digit-above : (b : ℕ) → 57 < b → is_digit b ≡ false
unfolding is_digit
digit-above b h =
    let l : 48 ≤ b = omega arith in
    rw (le-leb 48 b, lt-leb b 57)

-- ---- a number is read back
module _ (x : ℕ) (t : List ℕ) where
  digits_more : (d : ℕ) → d < 10 → x * 10 + d ≤ greatest_number → read_digits x ((nought + d) ∷ t) ≡ read_digits (x * 10 + d) t
  unfolding read_digits
  digits_more d h l =
      let e : 48 + d - 48 ≡ d = omega arith in
      rw (digit-true (48 + d) (omega arith) (omega arith), e, le-leb (x * 10 + d) greatest_number)

  digits-stop : (b : ℕ) → is_digit b ≡ false → read_digits x (b ∷ t) ≡ got x (b ∷ t)
  unfolding read_digits
  digits-stop b e = rw e

  number-begins : 0 < x → x < 10 → read_number ((nought + x) ∷ t) ≡ read_digits x t
  unfolding read_number
  number-begins p h =
      let n : 48 + x ≡ 48 → ⊥ = omega arith in
      let e : 48 + x - 48 ≡ x = omega arith in
      rw (digit-true (48 + x) (omega arith) (omega arith), ne_eqb (48 + x) 48 n, e)

read-nought : (t : List ℕ) → read_number (nought ∷ t) ≡ got 0 t
unfolding read_number is_digit
read-nought t = refl

-- k bounds how often x is divided by ten
read-within : (k x : ℕ) (t : List ℕ) → x ≤ k → 0 < x → x ≤ greatest_number → read_number (decimal x ++ t) ≡ read_digits x t
read-within zero x t h p l = absurd (omega arith)
read-within (suc k) x t h p l =
    split (ltb x 10) refl (λ g. read-within k (x / 10) ((nought + x % 10) ∷ t) (omega arith) (omega arith) (omega arith))
  where
    split : (b : Bool) → ltb x 10 ≡ b
        → (10 ≤ x → read_number (decimal (x / 10) ++ (nought + x % 10) ∷ t) ≡ read_digits (x / 10) ((nought + x % 10) ∷ t))
        → read_number (decimal x ++ t) ≡ read_digits x t
    split true e tens = rw (decimal-small x (ltb-true x 10 e)) (number-begins x t p (ltb-true x 10 e))
    split false e tens =
        let g = ltb-false x 10 e in
        let v : x / 10 * 10 + x % 10 ≡ x = omega arith in
        ap (λ ds. read_number (ds ++ t)) (decimal-large x g)
        ∙ ap read_number (append_assoc (decimal (x / 10)) ((nought + x % 10) ∷ []) t) ∙ tens g
        ∙ digits_more (x / 10) t (x % 10) (omega arith) (omega arith) ∙ ap (λ y. read_digits y t) v

pub read-decimal : (x b : ℕ) (t : List ℕ) → x ≤ greatest_number → is_digit b ≡ false → read_number (decimal x ++ b ∷ t) ≡ got x (b ∷ t)
read-decimal zero b t h e = rw (decimal-small 0 (omega arith)) (read-nought (b ∷ t))
read-decimal (suc x) b t h e = read-within (suc x) (suc x) (b ∷ t) (omega arith) (omega arith) h ∙ digits-stop (suc x) t b e

-- ---- what is read stood there
pub record DecimalFront (t : List ℕ) (x : ℕ) (rest : List ℕ) : Type 0 where
  pub text : t ≡ decimal x ++ rest
  pub writable : x ≤ greatest_number

digits-read : (t : List ℕ) (x y : ℕ) (rest : List ℕ) → 0 < x → x ≤ greatest_number → read_digits x t ≡ got y rest
    → DecimalFront (decimal x ++ t) y rest
unfolding read_digits
digits-read [] x y rest p h e = let q : x ≡ y = cc in record { text = cc; writable = omega arith }
digits-read (b ∷ t) x y rest p h e =
    split (is_digit b) (leb (x * 10 + (b - 48)) greatest_number) refl refl (λ q g f. digits-read t (x * 10 + (b - 48)) y rest q g f) e
  where
    split : (d l : Bool) → is_digit b ≡ d → leb (x * 10 + (b - 48)) greatest_number ≡ l
        → (0 < x * 10 + (b - 48) → x * 10 + (b - 48) ≤ greatest_number → read_digits (x * 10 + (b - 48)) t ≡ got y rest
        → DecimalFront (decimal (x * 10 + (b - 48)) ++ t) y rest)
        → pick d (pick l (read_digits (x * 10 + (b - 48)) t) bad) (got x (b ∷ t)) ≡ got y rest → DecimalFront (decimal x ++ b ∷ t) y rest
    split true true d l next e =
        let g = digit-range b d in
        let i = next (omega arith) (leb-true _ _ l) e in
        let q : 48 + (b - 48) ≡ b = omega arith in
        record {
          text =
              sym (append_assoc (decimal x) (b ∷ []) t) ∙ ap (λ c. (decimal x ++ c ∷ []) ++ t) (sym q)
              ∙ ap (λ ds. ds ++ t) (sym (decimal-more x (b - 48) p (omega arith))) ∙ i.text;
          writable = i.writable;
        }
    split true false d l next e = absurd (got-not-bad e)
    split false l d g next e = let q : x ≡ y = cc in record { text = cc; writable = omega arith }

pub decimal-read : (t : List ℕ) (x : ℕ) (rest : List ℕ) → read_number t ≡ got x rest → DecimalFront t x rest
unfolding read_number
decimal-read [] x rest e = absurd (got-not-bad e)
decimal-read (b ∷ t) x rest e = split (is_digit b) (eqb b 48) refl refl e
  where
    split : (d z : Bool) → is_digit b ≡ d → eqb b 48 ≡ z → pick d (pick z (got 0 t) (read_digits (b - 48) t)) bad ≡ got x rest
        → DecimalFront (b ∷ t) x rest
    split true true d z e =
        let q : 0 ≡ x = cc in
        let k : b ≡ 48 = eqb-true b 48 z in
        record { text = ap (λ c. c ∷ t) k ∙ ap (λ ds. ds ++ t) (sym (decimal-small 0 (omega arith))) ∙ cc; writable = omega arith }
    split true false d z e =
        let g = digit-range b d in
        let n = eqb-false b 48 z in
        let q : 48 + (b - 48) ≡ b = omega arith in
        let i = digits-read t (b - 48) x rest (omega arith) (omega arith) e in
        record {
          text = ap (λ c. c ∷ t) (sym q) ∙ ap (λ ds. ds ++ t) (sym (decimal-small (b - 48) (omega arith))) ∙ i.text;
          writable = i.writable;
        }
    split false z d g e = absurd (got-not-bad e)
