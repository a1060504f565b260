-- Decimal numbers as they are written.
-- Proved: the digits of a number below ten, and of any other the digits of its tens and then its last one; what one digit more
-- writes; a number has a digit, and a 32-bit number at most ten.
-- Assumes nothing.
use Rattle.std.specs.Prelude.{◌≡◌, refl, Bool, true, false, [], ◌∷◌, ◌++◌, ℕ, zero, suc, ◌+◌, ◌*◌, ◌/◌, ◌%◌, ◌<◌, ◌≤◌, ltb, length}
use Rattle.std.proofs.Common.{sym, ◌∙◌, ap, arith, length-append, le-ltb, lt-ltb, ltb-false, ltb-true}
use Rattle.definitions.specs.Text.{greatest_number, nought, decimal_within, decimal}

small-within : (k x : ℕ) → x < 10 → decimal_within k x ≡ (nought + x) ∷ []
unfolding decimal_within
small-within zero x h = refl
small-within (suc k) x h = rw (lt-ltb x 10, decimal_within)

large-within : (k x : ℕ) → 10 ≤ x → decimal_within (suc k) x ≡ decimal_within k (x / 10) ++ (nought + x % 10) ∷ []
unfolding decimal_within
large-within k x h = rw (le-ltb x 10, decimal_within)

-- any bound from x on gives the same digits
within-equal : (k j x : ℕ) → x ≤ k → x ≤ j → decimal_within k x ≡ decimal_within j x
within-equal zero j x h l = small-within zero x (omega arith) ∙ sym (small-within j x (omega arith))
within-equal (suc k) zero x h l = small-within (suc k) x (omega arith) ∙ sym (small-within zero x (omega arith))
within-equal (suc k) (suc j) x h l = split (ltb x 10) refl (λ g. within-equal k j (x / 10) (omega arith) (omega arith))
  where
    split : (b : Bool) → ltb x 10 ≡ b → (10 ≤ x → decimal_within k (x / 10) ≡ decimal_within j (x / 10))
        → decimal_within (suc k) x ≡ decimal_within (suc j) x
    split true e tens = small-within (suc k) x (ltb-true x 10 e) ∙ sym (small-within (suc j) x (ltb-true x 10 e))
    split false e tens =
        let g = ltb-false x 10 e in
        large-within k x g ∙ ap (λ ds. ds ++ (nought + x % 10) ∷ []) (tens g) ∙ sym (large-within j x g)

pub decimal-small : (x : ℕ) → x < 10 → decimal x ≡ (nought + x) ∷ []
unfolding decimal
decimal-small x h = small-within x x h

pub decimal-large : (x : ℕ) → 10 ≤ x → decimal x ≡ decimal (x / 10) ++ (nought + x % 10) ∷ []
unfolding decimal
decimal-large x h = split x refl
  where
    split : (k : ℕ) → x ≡ k → decimal_within x x ≡ decimal_within (x / 10) (x / 10) ++ (nought + x % 10) ∷ []
    split zero e = absurd (omega arith)
    split (suc k) e =
        ap (λ i. decimal_within i x) e ∙ large-within k x h
        ∙ ap (λ ds. ds ++ (nought + x % 10) ∷ []) (within-equal k (x / 10) (x / 10) (omega arith) (omega arith))

pub decimal-more : (x d : ℕ) → 0 < x → d < 10 → decimal (x * 10 + d) ≡ decimal x ++ (nought + d) ∷ []
decimal-more x d p h =
    let tens : (x * 10 + d) / 10 ≡ x = omega arith in
    let last : (x * 10 + d) % 10 ≡ d = omega arith in
    decimal-large (x * 10 + d) (omega arith) ∙ rw (tens, last)

length-decimal-small : (x : ℕ) → x < 10 → length (decimal x) ≡ 1
length-decimal-small x h = ap length (decimal-small x h)

pub length-decimal-large : (x : ℕ) → 10 ≤ x → length (decimal x) ≡ length (decimal (x / 10)) + 1
length-decimal-large x h = ap length (decimal-large x h) ∙ length-append (decimal (x / 10)) ((nought + x % 10) ∷ [])

pub decimal-not-empty : (x : ℕ) → 0 < length (decimal x)
decimal-not-empty x = split (ltb x 10) refl
  where
    split : (b : Bool) → ltb x 10 ≡ b → 0 < length (decimal x)
    split true e = omega (arith, length-decimal-small x (ltb-true x 10 e))
    split false e = omega (arith, length-decimal-large x (ltb-false x 10 e))

pub length-decimal : (x : ℕ) → x ≤ greatest_number → length (decimal x) ≤ 10
length-decimal x h = bounded 9 x (omega arith)
  where
    bound : ℕ → ℕ
    bound zero = 10
    bound (suc k) = 10 * bound k

    bounded : (k x : ℕ) → x < bound k → length (decimal x) ≤ k + 1
    bounded zero x h = omega (arith, length-decimal-small x h)
    bounded (suc k) x h = split (ltb x 10) refl (bounded k (x / 10))
      where
        split : (b : Bool) → ltb x 10 ≡ b → (x / 10 < bound k → length (decimal (x / 10)) ≤ k + 1) → length (decimal x) ≤ suc k + 1
        split true e tens = omega (arith, length-decimal-small x (ltb-true x 10 e))
        split false e tens = omega (arith, length-decimal-large x (ltb-false x 10 e), tens (omega arith))
