-- The job text, the answer text and the refusal text, each defined by its writer. A text is a list of bytes.
--   bytes s                 the bytes of a quoted text of ASCII characters
--   decimal x               x in decimal digits, without a leading zero, 0 itself excepted
--   numbers xs              numbers with one space between two
--   line key content rest   a line: its key with the = after it, its content, byte 10; and then what follows the line
--   WrittenJob              what stands in a job text;  Writable  each of its numbers is at most 4294967295
--   job_text w              the six lines of a job;  answer_text op xs  the two lines of an answer
--   refusal_text number     the line of a refusal
--   Job, meant w            the job that a written job means
-- A text is of the form if it is the text of a written job that is writable.
-- The scope paper, 'The job text'. Assumes nothing.
use Rattle.std.specs.Prelude.{true, false, List, [], ◌∷◌, ◌++◌, ℕ, zero, suc, ◌+◌, ◌/◌, ◌%◌, ◌≤◌, ltb}
use Prim.Native.Char.{code}
use Prim.Native.String.{String, [] as empty, ◌∷◌ as ◌before◌}
use Rattle.definitions.specs.Family.{Family, family}
use Rattle.definitions.specs.declared.Operation.{Operation}

abbrev pub bytes : String → List ℕ
bytes empty = []
bytes (character before rest) = code character ∷ bytes rest

abbrev pub newline : ℕ
newline = 10

abbrev pub space : ℕ
space = 32

-- the byte of the digit 0; those of the others follow it
abbrev pub nought : ℕ
nought = 48

abbrev pub greatest_number : ℕ
greatest_number = 4294967295

-- x in digits, the most significant first; k bounds how often it is divided by ten
unfoldable pub decimal_within : ℕ → ℕ → List ℕ
decimal_within zero x = (nought + x) ∷ []
decimal_within (suc k) x = elim (ltb x 10) [ true ↦ (nought + x) ∷ [] | false ↦ decimal_within k (x / 10) ++ (nought + x % 10) ∷ [] ]

unfoldable pub decimal : ℕ → List ℕ
decimal x = decimal_within x x

-- a space before each number
unfoldable pub spaced : List ℕ → List ℕ
spaced [] = []
spaced (x ∷ xs) = space ∷ (decimal x ++ spaced xs)

unfoldable pub numbers : List ℕ → List ℕ
numbers [] = []
numbers (x ∷ xs) = decimal x ++ spaced xs

unfoldable pub line : List ℕ → List ℕ → List ℕ → List ℕ
line key content rest = key ++ (content ++ newline ∷ rest)

abbrev pub modulus_key : List ℕ
modulus_key = bytes "mod="

abbrev pub a_key : List ℕ
a_key = bytes "a="

abbrev pub b_key : List ℕ
b_key = bytes "b="

abbrev pub c_key : List ℕ
c_key = bytes "c="

abbrev pub operation_key : List ℕ
operation_key = bytes "op="

abbrev pub curve_key : List ℕ
curve_key = bytes "v="

abbrev pub result_key : List ℕ
result_key = bytes "out="

abbrev pub refusal_key : List ℕ
refusal_key = bytes "refused="

unfoldable pub name : Operation → List ℕ
name Operation.Expand = bytes "expand"
name Operation.Adjoint = bytes "adjoint"
name Operation.Decompose = bytes "decompose"
name Operation.Moments = bytes "moments"
name Operation.Norms = bytes "norms"

pub record WrittenJob : Type 0 where
  pub modulus : ℕ
  pub a : List ℕ
  pub b : List ℕ
  pub c : List ℕ
  pub operation : Operation
  pub curve : List ℕ

unfoldable pub job_text : WrittenJob → List ℕ
job_text w =
    line modulus_key (decimal w.modulus) (line a_key (numbers w.a) (line b_key (numbers w.b) (line c_key (numbers w.c)
    (line operation_key (name w.operation) (line curve_key (numbers w.curve) [])))))

unfoldable pub answer_text : Operation → List ℕ → List ℕ
answer_text operation xs = line operation_key (name operation) (line result_key (numbers xs) [])

unfoldable pub refusal_text : ℕ → List ℕ
refusal_text number = line refusal_key (decimal number) []

abbrev pub AllWritable : List ℕ → Type 0
AllWritable [] = Unit {0}
AllWritable (x ∷ xs) = (x ≤ greatest_number) × AllWritable xs

pub record Writable (w : WrittenJob) : Type 0 where
  pub modulus : w.modulus ≤ greatest_number
  pub a : AllWritable w.a
  pub b : AllWritable w.b
  pub c : AllWritable w.c
  pub curve : AllWritable w.curve

pub record Job : Type 0 where
  pub family : Family
  pub operation : Operation
  pub curve : List ℕ

-- nothing is lost: the written job has the family's rows, and its closing row is 1 1 1
abbrev pub meant : WrittenJob → Job
meant w = record { family = family w.modulus w.a w.b w.c; operation = w.operation; curve = w.curve }
