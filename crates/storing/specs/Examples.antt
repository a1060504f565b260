-- The definitions of the curve store, computed.
--   first, back        lists of no to six entries, and of numbers at the ends of 32 bits, put either way
--   order-tests        the number that each pair of lengths gives: 5 is tested before 7, and nothing else is
--   after-calls        what the output holds after a call that finishes, and after one that is refused
--   chebyshev          with every b zero an even curve has zeros in its odd part, an odd one in its even part; with another b the even one has not
--   printouts          lines beside what is printed for them: of the form, and of others by one slip each;  no_lines  bytes that are no line
--   bytes_counted      where 1 begins, and that it comes before 2 and 5; entries-counted  where 5 begins, and that 2 comes before it
--   inputs             inputs beside what is printed for them: no line, no last byte 10, a refusal among answers
-- Assumes nothing.
use Rattle.std.specs.Prelude.{List, [], ◌∷◌, ◌++◌, map, ◌≡◌, refl, ℕ, length, replicate}
use Prim.Native.String.{String}
use Rattle.definitions.specs.Answers.{after}
use Rattle.definitions.specs.Conversion.{expand}
use Rattle.definitions.specs.Family.{Family, family}
use Rattle.definitions.specs.Printing.{shown}
use Rattle.definitions.specs.Refusals.{Verdict, finished, refused, verdict}
use Rattle.definitions.specs.Text.{bytes, space, numbers, line, refusal_text}
use Rattle.definitions.specs.TextExamples.{verdict_on}
use Rattle.lines.specs.Lines.{lines_of, joined}
use Rattle.storing.specs.Order.{half, place, placed, even_first, even_back, arranged}
use Rattle.storing.specs.Calls.{entry_count_test, order_tests}
use Rattle.storing.specs.Printing.{store_line, read_store, asked_tests, line_tests, line_reply, printed_line, printed_input}
use Rattle.storing.specs.declared.Direction.{Direction}

-- what the output holds after a call; whoever unfolds these unfolds the definitions that they lead to
unfoldable pub order_outcome : Direction → List ℕ → List ℕ → List ℕ
unfolding verdict_on half place placed even_first even_back arranged entry_count_test order_tests
order_outcome d xs output = after (verdict (order_tests (length xs) (length output)) []) (arranged d xs) output

unfoldable pub input_outcome : List ℕ → List ℕ
unfolding order_outcome refusal_text shown lines_of joined store_line read_store asked_tests line_tests line_reply printed_line printed_input
input_outcome t = printed_input t

-- ---- lists
abbrev lists : List (List ℕ)
lists =
    []
    ∷ (7 ∷ [])
    ∷ (7 ∷ 8 ∷ [])
    ∷ (7 ∷ 8 ∷ 9 ∷ [])
    ∷ (0 ∷ 1 ∷ 2 ∷ 3 ∷ [])
    ∷ (0 ∷ 1 ∷ 2 ∷ 3 ∷ 4 ∷ [])
    ∷ (0 ∷ 1 ∷ 2 ∷ 3 ∷ 4 ∷ 5 ∷ [])
    ∷ (4294967295 ∷ 0 ∷ 4294967295 ∷ 1 ∷ [])
    ∷ []

first : map even_first lists
    ≡ []
    ∷ (7 ∷ [])
    ∷ (7 ∷ 8 ∷ [])
    ∷ (7 ∷ 9 ∷ 8 ∷ [])
    ∷ (0 ∷ 2 ∷ 1 ∷ 3 ∷ [])
    ∷ (0 ∷ 2 ∷ 4 ∷ 1 ∷ 3 ∷ [])
    ∷ (0 ∷ 2 ∷ 4 ∷ 1 ∷ 3 ∷ 5 ∷ [])
    ∷ (4294967295 ∷ 4294967295 ∷ 0 ∷ 1 ∷ [])
    ∷ []
unfolding input_outcome
first = refl

back : map even_back lists
    ≡ []
    ∷ (7 ∷ [])
    ∷ (7 ∷ 8 ∷ [])
    ∷ (7 ∷ 9 ∷ 8 ∷ [])
    ∷ (0 ∷ 2 ∷ 1 ∷ 3 ∷ [])
    ∷ (0 ∷ 3 ∷ 1 ∷ 4 ∷ 2 ∷ [])
    ∷ (0 ∷ 3 ∷ 1 ∷ 4 ∷ 2 ∷ 5 ∷ [])
    ∷ (4294967295 ∷ 4294967295 ∷ 0 ∷ 1 ∷ [])
    ∷ []
unfolding input_outcome
back = refl

-- ---- the calls
abbrev number : Verdict → ℕ
number (finished values) = 0
number (refused k) = k

pub record Lent : Type 0 where
  pub entries : ℕ
  pub output : ℕ

abbrev lend : ℕ → ℕ → Lent
lend entries output = record { entries = entries; output = output }

order-tests : map (λ l. number (verdict (order_tests l.entries l.output) []))
    (lend 129 128 ∷ lend 129 129 ∷ lend 4294967296 0 ∷ lend 128 129 ∷ lend 128 127 ∷ lend 0 1 ∷ lend 128 128 ∷ lend 127 127 ∷ lend 0 0 ∷ [])
    ≡ 5 ∷ 5 ∷ 5 ∷ 7 ∷ 7 ∷ 7 ∷ 0 ∷ 0 ∷ 0 ∷ []
unfolding input_outcome
order-tests = refl

after-calls : order_outcome Direction.EvenFirst (1 ∷ 2 ∷ 3 ∷ []) (9 ∷ 9 ∷ 9 ∷ []) ∷ order_outcome Direction.EvenBack (1 ∷ 3 ∷ 2 ∷ []) (9 ∷ 9 ∷ 9 ∷ [])
    ∷ order_outcome Direction.EvenFirst (1 ∷ 2 ∷ 3 ∷ []) (9 ∷ 8 ∷ []) ∷ order_outcome Direction.EvenBack (1 ∷ 2 ∷ []) (9 ∷ 8 ∷ 7 ∷ []) ∷ []
    ≡ (1 ∷ 3 ∷ 2 ∷ []) ∷ (1 ∷ 2 ∷ 3 ∷ []) ∷ (9 ∷ 8 ∷ []) ∷ (9 ∷ 8 ∷ 7 ∷ []) ∷ []
unfolding input_outcome
after-calls = refl

-- ---- zeros: T_i = 2 x T_{i-1} - T_{i-2} with T_1 = x, modulo 15, and the same with one b changed
abbrev chebyshev_with : ℕ → Family
chebyshev_with b = family 15 (1 ∷ 2 ∷ 2 ∷ 2 ∷ []) (0 ∷ 0 ∷ b ∷ 0 ∷ []) (0 ∷ 14 ∷ 14 ∷ 14 ∷ [])

chebyshev : map (λ u. even_first (expand (chebyshev_with 0) u)) ((1 ∷ 0 ∷ 1 ∷ 0 ∷ 1 ∷ []) ∷ (0 ∷ 1 ∷ 0 ∷ 2 ∷ 0 ∷ []) ∷ [])
    ≡ (1 ∷ 9 ∷ 8 ∷ 0 ∷ 0 ∷ []) ∷ (0 ∷ 0 ∷ 0 ∷ 10 ∷ 8 ∷ []) ∷ []
unfolding input_outcome
chebyshev = refl

chebyshev-changed : even_first (expand (chebyshev_with 1) (1 ∷ 0 ∷ 1 ∷ 0 ∷ 1 ∷ [])) ≡ 1 ∷ 9 ∷ 8 ∷ 13 ∷ 4 ∷ []
unfolding input_outcome
chebyshev-changed = refl

-- ---- lines
pub record Printout : Type 0 where
  pub line : String
  pub prints : String

infix 80 ◌prints◌
abbrev ◌prints◌ : String → String → Printout
line prints text = record { line = line; prints = text }

abbrev pub printouts : List Printout
printouts =
    "put=0 1 2 3 4\n" prints "0 2 4 1 3\n"
    ∷ "back=0 2 4 1 3\n" prints "0 1 2 3 4\n"
    ∷ "put=10 4294967295 0\n" prints "10 0 4294967295\n"
    ∷ "put=5\n" prints "5\n"
    ∷ "put=\n" prints "\n"
    ∷ "back=\n" prints "\n"
    ∷ "\n" prints "refused=2\n"
    ∷ "put=1 2" prints "refused=2\n"
    ∷ "put=1 2\r\n" prints "refused=2\n"
    ∷ "put=1 2 \n" prints "refused=2\n"
    ∷ "put= 1 2\n" prints "refused=2\n"
    ∷ "put=1  2\n" prints "refused=2\n"
    ∷ "put=1 02\n" prints "refused=2\n"
    ∷ "put=4294967296\n" prints "refused=2\n"
    ∷ "put=-1\n" prints "refused=2\n"
    ∷ "puts=1\n" prints "refused=2\n"
    ∷ "v=1 2\n" prints "refused=2\n"
    ∷ []

printouts-hold : map (λ p. printed_line (bytes p.line)) printouts ≡ map (λ p. bytes p.prints) printouts
unfolding input_outcome
printouts-hold = refl

-- bytes that are no line are malformed too: none, and more than one line
no_lines : map (λ t. printed_line (bytes t)) ("" ∷ "back=1\n\n" ∷ "put=1\nback=1\n" ∷ []) ≡ refusal_text 2 ∷ refusal_text 2 ∷ refusal_text 2 ∷ []
unfolding input_outcome
no_lines = refl

-- 8,192 bytes are looked at, and 8,193 are not, whatever stands in them: zeros; 11 and 4,093 times 1
bytes_counted : map printed_line (replicate 8192 48 ∷ replicate 8193 48 ∷ store_line Direction.EvenFirst (11 ∷ replicate 4093 1) ∷ [])
    ≡ refusal_text 2 ∷ refusal_text 1 ∷ refusal_text 1 ∷ []
unfolding input_outcome
bytes_counted = refl

-- 128 numbers are taken and 129 are not; a line of 129 with a space after them is malformed
entries-counted : map printed_line
    (store_line Direction.EvenFirst (replicate 128 1) ∷ store_line Direction.EvenBack (replicate 129 1)
    ∷ line (bytes "put=") (numbers (replicate 129 1) ++ space ∷ []) [] ∷ [])
    ≡ line [] (numbers (replicate 128 1)) [] ∷ refusal_text 5 ∷ refusal_text 2 ∷ []
unfolding input_outcome
entries-counted = refl

-- ---- inputs
abbrev pub inputs : List Printout
inputs =
    "" prints ""
    ∷ "put=1 2 3\n" prints "1 3 2\n"
    ∷ "put=1 2 3\nback=1 3 2\nput=\n" prints "1 3 2\n1 2 3\n\n"
    ∷ "put=1 2 3\nback=1 3 2" prints "1 3 2\nrefused=2\n"
    ∷ "\nput=7\n" prints "refused=2\n7\n"
    ∷ []

inputs-hold : map (λ p. printed_input (bytes p.line)) inputs ≡ map (λ p. bytes p.prints) inputs
unfolding input_outcome
inputs-hold = refl
