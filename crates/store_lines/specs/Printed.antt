-- What is printed for a line, by the test that decides.
--   printed_room  room for what is printed for a line: 128 numbers of ten digits, each with a space before it, and byte 10
-- Proved: printed-1, printed-2, printed-5 and printed-list; the same put into an output, and found at its front (front-printed); what is
-- kept of a line with room for 8,193 bytes decides what is printed for it (printed-kept). Assumes nothing.
use Rattle.std.specs.Prelude.{Bool, true, false, ◌≡◌, refl, ℕ, ◌*◌, ◌<◌, ◌≤◌, ltb, length, take, drop}
use mathlib.Core.List.{List, [], ◌∷◌}
use Rattle.std.proofs.Common.{sym, ◌∙◌, arith, length-take, take_all, take_at, lt-ltb, le-ltb, ltb-true, ltb-false}
use Rattle.std.proofs.Math.Path.{ap}
use Rattle.definitions.specs.Printing.{shown}
use Rattle.definitions.specs.Refusals.{verdict, test}
use Rattle.definitions.specs.Text.{decimal, numbers, line, refusal_key, refusal_text}
use Rattle.definitions.specs.TextCall.{most_bytes, text_length_test}
use Rattle.acceptance.specs.Verdicts.{verdict-here, verdict-next}
use Rattle.lines.specs.Pieces.{kept}
use Rattle.storing.specs.Calls.{most_entries, entry_count_test}
use Rattle.storing.specs.Order.{arranged}
use Rattle.storing.specs.Printing.{asked, malformed, read_store, asked_tests, line_tests, line_reply, printed_line}
use Rattle.storing.specs.declared.Direction.{Direction}
use Rattle.writer.specs.Lines.{line_room}
use Rattle.writer.specs.Putting.{Put, put_as, put_front}

abbrev pub printed_room : ℕ
printed_room = 1409

module _ (l : List ℕ) where
  pub printed-1 : most_bytes < length l → printed_line l ≡ refusal_text 1
  unfolding printed_line line_tests text_length_test shown
  printed-1 h = ap shown
      (verdict-here (text_length_test (length l)) (asked_tests (read_store l)) (line_reply (read_store l)) (lt-ltb most_bytes (length l) h))

  module _ (h : length l ≤ most_bytes) where
    short : printed_line l ≡ shown (verdict (asked_tests (read_store l)) (line_reply (read_store l)))
    unfolding printed_line line_tests text_length_test
    short = ap shown (verdict-next (text_length_test (length l)) (asked_tests (read_store l)) (line_reply (read_store l)) (le-ltb most_bytes (length l) h))

    pub printed-2 : read_store l ≡ malformed → printed_line l ≡ refusal_text 2
    unfolding asked_tests line_reply shown verdict
    printed-2 e = short ∙ ap (λ a. shown (verdict (asked_tests a) (line_reply a))) e

    module _ (d : Direction) (xs : List ℕ) (e : read_store l ≡ asked d xs) where
      counted : printed_line l ≡ shown (verdict (entry_count_test (length xs) ∷ []) (line_reply (asked d xs)))
      unfolding asked_tests
      counted = short ∙ ap (λ a. shown (verdict (asked_tests a) (line_reply a))) e
          ∙ ap shown (verdict-next (test 2 false) (entry_count_test (length xs) ∷ []) (line_reply (asked d xs)) refl)

      pub printed-5 : most_entries < length xs → printed_line l ≡ refusal_text 5
      unfolding entry_count_test shown
      printed-5 k = counted
          ∙ ap shown (verdict-here (entry_count_test (length xs)) [] (line_reply (asked d xs)) (lt-ltb most_entries (length xs) k))

      pub printed-list : length xs ≤ most_entries → printed_line l ≡ line [] (numbers (arranged d xs)) []
      unfolding entry_count_test shown verdict line_reply
      printed-list k = counted
          ∙ ap shown (verdict-next (entry_count_test (length xs)) [] (line_reply (asked d xs)) (le-ltb most_entries (length xs) k))

-- ---- put into an output
pub put-refusal : (old : List ℕ) (at number : ℕ) (new : List ℕ) (next : ℕ) (text : List ℕ)
    → Put old at (line refusal_key (decimal number) []) (line_room refusal_key 10) new next → text ≡ refusal_text number
    → Put old at text printed_room new next
unfolding refusal_text
put-refusal old at number new next text p e = put_as old at _ _ new next p text printed_room (sym e) (omega arith)

pub put-list : (old : List ℕ) (at : ℕ) (xs : List ℕ) (new : List ℕ) (next : ℕ) (d : Direction) (ys : List ℕ)
    → Put old at (line [] (numbers ys) []) (line_room [] (11 * length ys)) new next → ys ≡ arranged d xs → length ys ≤ most_entries
    → Put old at (line [] (numbers (arranged d xs)) []) printed_room new next
put-list old at xs new next d ys p e h =
    put_as old at _ _ new next p (line [] (numbers (arranged d xs)) []) printed_room (ap (λ zs. line [] (numbers zs) []) e) (omega arith)

pub put-printed : (old : List ℕ) (at : ℕ) (text : List ℕ) (new : List ℕ) (next : ℕ) (d : Direction) (xs ys : List ℕ)
    → Put old at (line [] (numbers (arranged d ys)) []) printed_room new next → ys ≡ xs → text ≡ line [] (numbers (arranged d xs)) []
    → Put old at text printed_room new next
put-printed old at text new next d xs ys p same e =
    put_as old at _ _ new next p text printed_room (ap (λ zs. line [] (numbers (arranged d zs)) []) same ∙ sym e) (omega arith)

-- and found at its front
pub front-printed : (old text new : List ℕ) (end : ℕ) → Put old 0 text printed_room new end → take end new ≡ text
front-printed old text new end p =
    let w = put_front old text printed_room new end p printed_room (omega arith) in
    ap (take end) w.written ∙ take_at text (drop end old) end (sym w.answer)

-- ---- what is kept of a line
pub printed-kept : (l : List ℕ) → printed_line (kept 8193 l) ≡ printed_line l
printed-kept l = split (ltb most_bytes (length l)) refl
  where
    split : (e : Bool) → ltb most_bytes (length l) ≡ e → printed_line (kept 8193 l) ≡ printed_line l
    split true e =
        let long : most_bytes < length l = ltb-true most_bytes (length l) e in
        printed-1 (kept 8193 l) (simp length-take (omega arith)) ∙ sym (printed-1 l long)
    split false e = ap printed_line (take_all 8193 l (omega (arith, ltb-false most_bytes (length l) e)))
