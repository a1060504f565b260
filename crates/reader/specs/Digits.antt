-- One step of reading a number, by the byte that stands at a place.
--   Digits t at first value i   the digits from place at on, after those of first, are read up to place i, and make value
-- Proved: how reading digits begins, goes on and ends, and how a number begins. Assumes nothing.
use Rattle.std.specs.Prelude.{◌≡◌, refl, false, List, ℕ, ◌+◌, ◌*◌, ◌-◌, ◌<◌, ◌≤◌, drop, None}
use Rattle.std.proofs.Math.Path.{sym, ap}
use Rattle.std.proofs.Common.{◌∙◌, subst}
use Rattle.std.proofs.Math.Numerals.{add-one}
use native.Mathlib.Omega.{arith}
use Rattle.std.proofs.Math.ListN.{length, get_or, drop_of_length-le}
use Rattle.std.proofs.Math.Seq.{drop-cons}
use borrow.Author.Tests.{le-leb, lt-leb, ne_eqb}
use Rattle.definitions.specs.Text.{greatest_number}
use Rattle.definitions.specs.Reading.{bad, is_digit, read_digits, read_number}
use Rattle.texts.specs.DecimalReading.{digit-true}
use Rattle.reader.specs.Places.{found, placed, place-drop}

pub record Digits (t : List ℕ) (at first value i : ℕ) : Type 0 where
  pub inside : i ≤ length t
  pub small : value ≤ greatest_number
  pub same : read_digits first (drop at t) ≡ read_digits value (drop i t)

module _ (t : List ℕ) (at first : ℕ) where
  pub digits-start : at ≤ length t → first ≤ greatest_number → Digits t at first first at
  digits-start h l = record { inside = h; small = l; same = refl }

  module _ (value i : ℕ) (d : Digits t at first value i) where
    pub digits-past : length t ≤ i → found value i ≡ placed (length t) (read_digits first (drop at t))
    unfolding read_digits
    digits-past h = rw (d.same, drop_of_length-le t {i = i} h) (ap (found value) (omega arith))

    -- at the end of the text
    pub digits-all : length t ≤ i → found value (length t) ≡ placed (length t) (read_digits first (drop at t))
    digits-all h = ap (found value) (omega (arith, d.inside)) ∙ digits-past h

    module _ (l : i < length t) where
      pub digits-end : is_digit (get_or t i 0) ≡ false → found value i ≡ placed (length t) (read_digits first (drop at t))
      unfolding read_digits
      digits-end e =
          sym (ap (placed (length t)) d.same ∙ ap (λ q. placed (length t) (read_digits value q)) (drop-cons t i 0 l)
          ∙ (rw e (ap (λ q. found value (length t - length q)) (sym (drop-cons t i 0 l))
          ∙ ap (found value) (place-drop t i (omega arith)))))

      module _ (low : 48 ≤ get_or t i 0) (high : get_or t i 0 ≤ 57) where
        abbrev next : ℕ
        next = value * 10 + (get_or t i 0 - 48)

        pub digits-large : greatest_number < next → None ≡ placed (length t) (read_digits first (drop at t))
        unfolding read_digits
        digits-large g = rw (d.same, drop-cons t i 0, digit-true (get_or t i 0) low high, lt-leb next greatest_number)

        pub digits-next : next ≤ greatest_number → Digits t at first next (i + 1)
        unfolding read_digits
        digits-next g = record {
          inside = omega arith;
          small = g;
          same = d.same ∙ rw (drop-cons t i 0, digit-true (get_or t i 0) low high, le-leb next greatest_number, add-one);
        }

        -- under another name for the number
        pub digits-on : (v : ℕ) → v ≡ next → v ≤ greatest_number → Digits t at first v (i + 1)
        digits-on v e g = subst (λ w. Digits t at first w (i + 1)) (sym e) (digits-next (omega arith))

module _ (t : List ℕ) (at : ℕ) where
  pub number_past : length t ≤ at → read_number (drop at t) ≡ bad
  unfolding read_number
  number_past h = rw (drop_of_length-le t)

  module _ (l : at < length t) where
    pub number-other : is_digit (get_or t at 0) ≡ false → read_number (drop at t) ≡ bad
    unfolding read_number
    number-other e = rw (drop-cons t at 0, e)

    pub number-nought : get_or t at 0 ≡ 48 → found 0 (at + 1) ≡ placed (length t) (read_number (drop at t))
    unfolding read_number is_digit
    number-nought e = sym (rw (drop-cons t at 0, e, ← add-one at) (ap (found 0) (place-drop t (at + 1) (omega arith))))

    pub number-first : 48 < get_or t at 0 → get_or t at 0 ≤ 57 → read_number (drop at t) ≡ read_digits (get_or t at 0 - 48) (drop (at + 1) t)
    unfolding read_number
    number-first low high =
        let n : get_or t at 0 ≡ 48 → ⊥ = omega arith in
        rw (drop-cons t at 0, digit-true (get_or t at 0) (omega arith) high, ne_eqb (get_or t at 0) 48, add-one at)
