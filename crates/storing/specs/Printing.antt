-- What the program `store` is to print: for each line of its input one line, a list or a refusal.
--   Asked            what a line asks for: a direction and a list; or malformed
--   store_line d xs  the line that asks for the direction d of xs, defined by its writer; key d its key
--   read_store l     asked, with direction and list, if l is such a line of numbers of at most 4294967295, and malformed if not
--   line_tests l     1: over 8,192 bytes; 2: malformed; 5: more than 128 numbers
--   printed_line l   what is printed for the bytes l of a line
--   printed_input t  what is printed for an input: for each of its lines in turn
-- printed_line is defined for any bytes, and only of a line, or of one that the input's end leaves open, does the program print it. A line that is
-- malformed has no list, so no test follows 2 there; 7 is not tested, since the program lends an output as long as the list.
-- Item 7 of the change requests. Assumes nothing.
use Rattle.std.specs.Prelude.{true, false, List, [], ◌∷◌, map, ℕ, length}
use Rattle.definitions.specs.Printing.{shown}
use Rattle.definitions.specs.Reading.{Front, got, bad, read_numbers, read_line}
use Rattle.definitions.specs.Refusals.{Test, test, verdict}
use Rattle.definitions.specs.Text.{bytes, numbers, line}
use Rattle.definitions.specs.TextCall.{text_length_test}
use Rattle.lines.specs.Lines.{lines_of, joined}
use Rattle.storing.specs.Order.{arranged}
use Rattle.storing.specs.Calls.{entry_count_test}
use Rattle.storing.specs.declared.Direction.{Direction}

pub data Asked : Type 0 where
  asked : Direction → List ℕ → Asked
  malformed : Asked

abbrev pub key : Direction → List ℕ
key Direction.EvenFirst = bytes "put="
key Direction.EvenBack = bytes "back="

unfoldable pub store_line : Direction → List ℕ → List ℕ
store_line d xs = line (key d) (numbers xs) []

-- what was read as the line of a direction, if nothing follows it; the other reading if it is no such line
abbrev pub or_asked : Direction → Front (List ℕ) → Asked → Asked
or_asked d (got xs []) other = asked d xs
or_asked d (got xs (b ∷ rest)) other = other
or_asked d bad other = other

unfoldable pub read_store : List ℕ → Asked
read_store l =
    or_asked Direction.EvenFirst (read_line (key Direction.EvenFirst) read_numbers l)
    (or_asked Direction.EvenBack (read_line (key Direction.EvenBack) read_numbers l) malformed)

unfoldable pub asked_tests : Asked → List Test
asked_tests malformed = test 2 true ∷ []
asked_tests (asked d xs) = test 2 false ∷ entry_count_test (length xs) ∷ []

unfoldable pub line_tests : List ℕ → List Test
line_tests l = text_length_test (length l) ∷ asked_tests (read_store l)

-- a list as it stands after out=, and without that key
unfoldable pub line_reply : Asked → List ℕ
line_reply malformed = []
line_reply (asked d xs) = line [] (numbers (arranged d xs)) []

unfoldable pub printed_line : List ℕ → List ℕ
printed_line l = shown (verdict (line_tests l) (line_reply (read_store l)))

unfoldable pub printed_input : List ℕ → List ℕ
printed_input t = joined (map printed_line (lines_of t))
