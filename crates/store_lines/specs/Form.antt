-- The lines of the store that are of the form.
-- Proved: what is written is read (read-store), and what is read stood there so written (store-read); what is printed for such a line of at most
-- 128 numbers (printed-store), which put behind the other key brings the list back (printed-back); what is printed for a line has at most
-- eleven times its bytes (printed-short). Assumes nothing.
use Rattle.std.specs.Prelude.{Bool, true, false, ◌≡◌, ℕ, zero, suc, ◌*◌, ◌<◌, ◌≤◌, ltb, get_or}
use mathlib.Core.List.{List, [], ◌∷◌, ◌++◌}
use Rattle.std.proofs.Math.Path.{refl, ap}
use Rattle.std.proofs.Common.{◌∙◌, ltb-true, ltb-false, length-append}
use native.Mathlib.Omega.{arith}
use Rattle.std.proofs.Math.ListN.{length}
use Rattle.definitions.specs.Reading.{Front, got, bad, read_key, read_numbers, read_line}
use Rattle.definitions.specs.Text.{greatest_number, decimal_within, decimal, spaced, numbers, line, refusal_text, AllWritable}
use Rattle.definitions.specs.TextCall.{most_bytes}
use Rattle.numbers.specs.Lists.{table-entry}
use Rattle.texts.specs.AnswerTexts.{all-writable, length-line, length-numbers}
use Rattle.texts.specs.Decimal.{decimal-not-empty}
use Rattle.texts.specs.LinesReading.{read-numbers-line, numbers-line-read}
use Rattle.texts.specs.NumbersReading.{length-spaced}
use Rattle.parity.specs.Orders.{source, arranged-length, arranged-table, arranged-back}
use Rattle.storing.specs.Calls.{most_entries}
use Rattle.storing.specs.Order.{arranged, opposite}
use Rattle.storing.specs.Printing.{Asked, asked, malformed, key, store_line, or_asked, read_store, printed_line}
use Rattle.storing.specs.declared.Direction.{Direction}
use Rattle.store_lines.specs.Printed.{printed-1, printed-2, printed-5, printed-list}

-- ---- written and read
other_key : (xs : List ℕ) → read_line (key Direction.EvenFirst) read_numbers (store_line Direction.EvenBack xs) ≡ bad
unfolding read_line read_key store_line line
other_key xs = refl

pub read-store : (d : Direction) (xs : List ℕ) → AllWritable xs → read_store (store_line d xs) ≡ asked d xs
unfolding read_store store_line
read-store Direction.EvenFirst xs h = rw (read-numbers-line (key Direction.EvenFirst) xs [] h)
read-store Direction.EvenBack xs h = rw (other_key xs, read-numbers-line (key Direction.EvenBack) xs [] h)

pub record Stands (l : List ℕ) (d : Direction) (xs : List ℕ) : Type 0 where
  pub text : l ≡ store_line d xs
  pub writable : AllWritable xs

asked-list : {d e : Direction} {xs ys : List ℕ} → asked d xs ≡ asked e ys → xs ≡ ys
asked-list e = cc

asked-direction : {d e : Direction} {xs ys : List ℕ} → asked d xs ≡ asked e ys → d ≡ e
asked-direction e = cc

asked-not-malformed : {d : Direction} {xs : List ℕ} → malformed ≡ asked d xs → ⊥
asked-not-malformed e = let z : ◌≡◌ {A = ℕ} 0 1 = cc in omega arith

module _ (l : List ℕ) (d : Direction) (xs : List ℕ) where
  -- the line was read by the key of e, or by none before
  by_key : (e : Direction) (f : Front (List ℕ)) (other : Asked) → read_line (key e) read_numbers l ≡ f → or_asked e f other ≡ asked d xs
      → (other ≡ asked d xs → Stands l d xs) → Stands l d xs
  unfolding store_line
  by_key e (got ys []) other read is next =
      let p = numbers-line-read (key e) l ys [] read in
      let same : ys ≡ xs = asked-list is in
      let way : e ≡ d = asked-direction is in
      record {
        text = p.text ∙ ap (λ zs. line (key e) (numbers zs) []) same ∙ ap (λ o. line (key o) (numbers xs) []) way;
        writable = rw same at p.writable;
      }
  by_key e (got ys (b ∷ rest)) other read is next = next is
  by_key e bad other read is next = next is

  pub store-read : read_store l ≡ asked d xs → Stands l d xs
  unfolding read_store
  store-read is =
      by_key Direction.EvenFirst _ _ refl is (λ other. by_key Direction.EvenBack _ _ refl other (λ none. absurd (asked-not-malformed none)))

-- ---- printed, and back
key-short : (d : Direction) → length (key d) ≤ 5
key-short Direction.EvenFirst = omega arith
key-short Direction.EvenBack = omega arith

arranged-writable : (d : Direction) (xs : List ℕ) → AllWritable xs → AllWritable (arranged d xs)
arranged-writable d xs h = all-writable (arranged d xs) each
  where
    entry : (ys : List ℕ) → AllWritable ys → (i : ℕ) → get_or ys i 0 ≤ greatest_number
    entry [] all i = omega arith
    entry (y ∷ ys) all zero = all.0
    entry (y ∷ ys) all (suc i) = entry ys all.1 i

    each : (i : ℕ) → i < length (arranged d xs) → get_or (arranged d xs) i 0 ≤ greatest_number
    each i l =
        let is : get_or (arranged d xs) i 0 ≡ get_or xs (source d (length xs) i) 0 =
        ap (λ ys. get_or ys i 0) (arranged-table d xs)
        ∙ table-entry (length xs) (λ k. get_or xs (source d (length xs) k) 0) i 0 (omega (arith, arranged-length d xs)) in
        omega (arith, is, entry xs h (source d (length xs) i))

module _ (d : Direction) (xs : List ℕ) (few : length xs ≤ most_entries) (writable : AllWritable xs) where
  short : length (store_line d xs) ≤ most_bytes
  unfolding store_line
  short = omega (arith, length-line (key d) (numbers xs) [], length-numbers xs writable, key-short d)

  pub printed-store : printed_line (store_line d xs) ≡ line [] (numbers (arranged d xs)) []
  printed-store = printed-list (store_line d xs) short d xs (read-store d xs writable) few

pub printed-back : (d : Direction) (xs : List ℕ) → length xs ≤ most_entries → AllWritable xs
    → printed_line (key (opposite d) ++ printed_line (store_line d xs)) ≡ line [] (numbers xs) []
unfolding store_line line
printed-back d xs few writable =
    ap (λ t. printed_line (key (opposite d) ++ t)) (printed-store d xs few writable)
    ∙ printed-store (opposite d) (arranged d xs) (omega (arith, arranged-length d xs)) (arranged-writable d xs writable)
    ∙ ap (λ ys. line [] (numbers ys) []) (arranged-back d xs)

-- ---- how long an answer is
numbers-long : (xs : List ℕ) → length xs ≤ length (numbers xs)
unfolding numbers
numbers-long [] = omega arith
numbers-long (x ∷ xs) = omega (arith, length-append (decimal x) (spaced xs), decimal-not-empty x, length-spaced xs)

refusal-length : (length (refusal_text 1) ≡ 10) × (length (refusal_text 2) ≡ 10) × (length (refusal_text 5) ≡ 10)
unfolding refusal_text line decimal decimal_within
refusal-length = (refl, refl, refl)

module _ (l : List ℕ) (some : 0 < length l) where
  one-refusal : (k : ℕ) → length (refusal_text k) ≡ 10 → printed_line l ≡ refusal_text k → length (printed_line l) ≤ 11 * length l
  one-refusal k ten is = omega (arith, ten, ap length is)

  list-short : (d : Direction) (xs : List ℕ) → read_store l ≡ asked d xs → printed_line l ≡ line [] (numbers (arranged d xs)) []
      → length (printed_line l) ≤ 11 * length l
  unfolding store_line
  list-short d xs read is =
      let s = store-read l d xs read in
      omega (
        arith,
        ap length is,
        length-line [] (numbers (arranged d xs)) [],
        length-numbers (arranged d xs) (arranged-writable d xs s.writable),
        arranged-length d xs,
        ap length s.text,
        length-line (key d) (numbers xs) [],
        numbers-long xs,
      )

  pub printed-short : length (printed_line l) ≤ 11 * length l
  printed-short = by_length (ltb most_bytes (length l)) refl
    where
      by_count : length l ≤ most_bytes → (d : Direction) (xs : List ℕ) → read_store l ≡ asked d xs → (e : Bool) → ltb most_entries (length xs) ≡ e
          → length (printed_line l) ≤ 11 * length l
      by_count h d xs read true e =
          one-refusal 5 refusal-length.2 (printed-5 l h d xs read (ltb-true most_entries (length xs) e))
      by_count h d xs read false e = list-short d xs read (printed-list l h d xs read (ltb-false most_entries (length xs) e))

      by_form : length l ≤ most_bytes → (a : Asked) → read_store l ≡ a → length (printed_line l) ≤ 11 * length l
      by_form h malformed read = one-refusal 2 refusal-length.1 (printed-2 l h read)
      by_form h (asked d xs) read = by_count h d xs read (ltb most_entries (length xs)) refl

      by_length : (e : Bool) → ltb most_bytes (length l) ≡ e → length (printed_line l) ≤ 11 * length l
      by_length true e = one-refusal 1 refusal-length.0 (printed-1 l (ltb-true most_bytes (length l) e))
      by_length false e = by_form (ltb-false most_bytes (length l) e) (read_store l) refl
