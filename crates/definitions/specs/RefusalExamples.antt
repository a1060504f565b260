-- The tests of each call in their order, by computation: an input with every fault, and then one fault after another mended.
--   Lent            what a call is lent: a family, a curve, and how long its output and its working list are
--   mended output   inputs whose faults are all from 3 on, then from 4 on, and so on to none; the output must be as long as stated
--   number v        the number of a verdict, and 0 for a finished one
-- plain-order, tree-order, moments-order, norms-order, text-order and writing-order: the number that each input gives. So no test of a call is left out,
-- none stands before one of a lower number, and each condition holds where it must; a test that a call skips gives way to the next.
-- first-order and closing-order: the tests on rows look at row 1, but for 18 and 11, and at the closing row. c-from: from which row on these
-- two look at the c.
-- curves-asked: which operations of a job take a curve, and which none. greatest-written: the greatest modulus in a text, and one more.
-- outputs-asked: the outputs that the call that writes a job takes.
-- Assumes nothing.
use Rattle.std.specs.Prelude.{◌≡◌, refl, true, false, List, [], ◌∷◌, ◌++◌, map, ℕ, suc, replicate}
use Prim.Native.String.{String}
use Rattle.definitions.specs.Family.{Row, Family, family, row_of}
use Rattle.definitions.specs.Refusals.{Test, Verdict, finished, refused, verdict, work_length, c_zero_test, c_inverse_test, family_rows}
use Rattle.definitions.specs.Refusals.{plain_tests, tree_tests, moments_tests, norms_tests}
use Rattle.definitions.specs.Figures.{handed, R}
use Rattle.definitions.specs.Text.{bytes, WrittenJob, meant, job_text}
use Rattle.definitions.specs.TextCall.{text_output_length, text_tests}
use Rattle.definitions.specs.JobWriting.{job_output_length, written_job, writing_tests}
use Rattle.definitions.specs.TextExamples.{verdict_on}
use Rattle.definitions.specs.declared.Operation.{Operation}

pub record Lent : Type 0 where
  pub family : Family
  pub curve : List ℕ
  pub output : ℕ
  pub work : ℕ

abbrev lend : Family → List ℕ → ℕ → ℕ → Lent
lend family curve output work = record { family = family; curve = curve; output = output; work = work }

-- two rows modulo 15, of which the first is 1 0 0
abbrev pub second : ℕ → ℕ → ℕ → Family
second a b c = family 15 (1 ∷ a ∷ []) (0 ∷ b ∷ []) (0 ∷ c ∷ [])

-- 15 is not below 15 and has no inverse; nor has 0, nor 3
abbrev pub many : List ℕ
many = replicate 128 15

abbrev pub mended : ℕ → List Lent
mended output =
    lend (family 1 many [] []) (15 ∷ []) 0 0
    ∷ lend (family 15 many [] []) (15 ∷ []) 0 0
    ∷ lend (family 15 many [] many) (15 ∷ []) 0 0
    ∷ lend (family 15 many many (15 ∷ many)) (15 ∷ []) 0 0
    ∷ lend (family 15 many many many) (15 ∷ []) 0 0
    ∷ lend (second 15 15 15) (15 ∷ []) 0 0
    ∷ lend (second 15 15 15) (15 ∷ 15 ∷ 15 ∷ 15 ∷ []) 0 0
    ∷ lend (second 15 15 15) (15 ∷ 15 ∷ 15 ∷ []) 0 0
    ∷ lend (second 15 15 15) (15 ∷ 15 ∷ 15 ∷ []) (suc output) 0
    ∷ lend (second 15 15 15) (15 ∷ 15 ∷ 15 ∷ []) output 16383
    ∷ lend (second 15 0 0) (15 ∷ 15 ∷ 15 ∷ []) output 16384
    ∷ lend (second 0 15 0) (15 ∷ 15 ∷ 15 ∷ []) output 16384
    ∷ lend (second 0 0 15) (15 ∷ 15 ∷ 15 ∷ []) output 16384
    ∷ lend (second 0 0 0) (15 ∷ 15 ∷ 15 ∷ []) output 16384
    ∷ lend (second 3 0 0) (15 ∷ 15 ∷ 15 ∷ []) output 16384
    ∷ lend (second 1 0 0) (15 ∷ 15 ∷ 15 ∷ []) output 16384
    ∷ lend (second 1 0 3) (15 ∷ 15 ∷ 15 ∷ []) output 16384
    ∷ lend (second 1 0 1) (0 ∷ 0 ∷ 15 ∷ []) output 16384
    ∷ lend (second 1 0 1) (0 ∷ 0 ∷ 14 ∷ []) output 16385
    ∷ []

abbrev pub number : Verdict → ℕ
number (finished values) = 0
number (refused k) = k

abbrev pub numbers : (Lent → List Test) → ℕ → List ℕ
numbers tests output = map (λ x. number (verdict (tests x) [])) (mended output)

pub plain-order : numbers (λ x. plain_tests x.family x.curve x.output) 3
    ≡ 3 ∷ 4 ∷ 4 ∷ 4 ∷ 5 ∷ 6 ∷ 6 ∷ 7 ∷ 7 ∷ 9 ∷ 9 ∷ 9 ∷ 9 ∷ 17 ∷ 10 ∷ 18 ∷ 11 ∷ 12 ∷ 0 ∷ []
unfolding handed
plain-order = refl

pub tree-order : numbers (λ x. tree_tests x.family x.curve x.output x.work) 3
    ≡ 3 ∷ 4 ∷ 4 ∷ 4 ∷ 5 ∷ 6 ∷ 6 ∷ 7 ∷ 7 ∷ 8 ∷ 9 ∷ 9 ∷ 9 ∷ 17 ∷ 10 ∷ 18 ∷ 11 ∷ 12 ∷ 0 ∷ []
unfolding handed tree_tests
tree-order = refl

pub moments-order : numbers (λ x. moments_tests x.family x.output x.work) 5
    ≡ 3 ∷ 4 ∷ 4 ∷ 4 ∷ 5 ∷ 7 ∷ 7 ∷ 7 ∷ 7 ∷ 8 ∷ 9 ∷ 9 ∷ 9 ∷ 17 ∷ 10 ∷ 18 ∷ 11 ∷ 0 ∷ 0 ∷ []
unfolding handed
moments-order = refl

pub norms-order : numbers (λ x. norms_tests x.family x.output) 3
    ≡ 3 ∷ 4 ∷ 4 ∷ 4 ∷ 5 ∷ 7 ∷ 7 ∷ 7 ∷ 7 ∷ 9 ∷ 9 ∷ 9 ∷ 9 ∷ 17 ∷ 10 ∷ 18 ∷ 11 ∷ 0 ∷ 0 ∷ []
unfolding handed
norms-order = refl

-- row 1 modulo 15, alone, with every fault and then one fault after another mended: the last two, a c that is 0 and one that is 3, are none
abbrev pub row : ℕ → ℕ → ℕ → Family
row a b c = family 15 (a ∷ []) (b ∷ []) (c ∷ [])

pub first-order : map (λ f. number (verdict (family_rows f) []))
    (row 15 0 0 ∷ row 0 15 0 ∷ row 0 0 15 ∷ row 0 0 0 ∷ row 3 0 0 ∷ row 1 0 0 ∷ row 1 0 3 ∷ [])
    ≡ 9 ∷ 9 ∷ 9 ∷ 17 ∷ 10 ∷ 0 ∷ 0 ∷ []
unfolding handed
first-order = refl

-- the closing row is row n: one row 1 0 1 modulo 15, closed by rows with every fault and then one fault after another mended
abbrev pub closed_by : Row → Family
closed_by row = record { m = 15; a = 1 ∷ []; b = 0 ∷ []; c = 1 ∷ []; close = row }

pub closing-order : map (λ row. number (verdict (family_rows (closed_by row)) []))
    (row_of 15 0 0 ∷ row_of 0 15 0 ∷ row_of 0 0 15 ∷ row_of 0 0 0 ∷ row_of 3 0 0 ∷ row_of 1 0 0 ∷ row_of 1 0 3 ∷ row_of 1 0 1 ∷ [])
    ≡ 9 ∷ 9 ∷ 9 ∷ 17 ∷ 10 ∷ 18 ∷ 11 ∷ 0 ∷ []
unfolding handed
closing-order = refl

-- 11 and 18 from the first row on, from the second on and from the closing row on, where the c are 0 3 1
pub c-from : (map (λ first. (c_inverse_test first (second 1 0 3)).holds) (0 ∷ 1 ∷ 2 ∷ []) ≡ true ∷ true ∷ false ∷ [])
    × (map (λ first. (c_zero_test first (second 1 0 3)).holds) (0 ∷ 1 ∷ 2 ∷ []) ≡ true ∷ false ∷ false ∷ [])
unfolding handed
c-from = (refl, refl)

abbrev pub written : Operation → Family → List ℕ → WrittenJob
written operation f u = written_job f.m f.a f.b f.c operation u

-- a longer output is taken
pub text-order : numbers (λ x. text_tests (job_text (written Operation.Expand x.family x.curve)) x.output x.work) text_output_length
    ≡ 3 ∷ 4 ∷ 4 ∷ 4 ∷ 5 ∷ 6 ∷ 6 ∷ 7 ∷ 8 ∷ 8 ∷ 9 ∷ 9 ∷ 9 ∷ 17 ∷ 10 ∷ 18 ∷ 11 ∷ 12 ∷ 0 ∷ []
unfolding verdict_on job_text
text-order = refl

-- the same of the call that writes the job
pub writing-order : numbers (λ x. writing_tests (meant (written Operation.Expand x.family x.curve)) x.output) job_output_length
    ≡ 3 ∷ 4 ∷ 4 ∷ 4 ∷ 5 ∷ 6 ∷ 6 ∷ 7 ∷ 9 ∷ 9 ∷ 9 ∷ 9 ∷ 9 ∷ 17 ∷ 10 ∷ 18 ∷ 11 ∷ 12 ∷ 0 ∷ []
unfolding verdict_on writing_tests
writing-order = refl

pub outputs-asked : map (λ output. number (verdict (writing_tests (meant (written Operation.Norms R [])) output) []))
    (0 ∷ 4096 ∷ 8191 ∷ 8192 ∷ 8193 ∷ []) ≡ 7 ∷ 7 ∷ 7 ∷ 0 ∷ 0 ∷ []
unfolding verdict_on writing_tests
outputs-asked = refl

-- each operation on R, without a curve and with one: of its text, and of the call that writes it
abbrev pub operations : List Operation
operations = Operation.Expand ∷ Operation.Adjoint ∷ Operation.Decompose ∷ Operation.Moments ∷ Operation.Norms ∷ []

abbrev pub asked_of : List ℕ → List ℕ
asked_of u = map (λ o. number (verdict (text_tests (job_text (written o R u)) text_output_length work_length) [])) operations

abbrev pub asked_to_write : List ℕ → List ℕ
asked_to_write u = map (λ o. number (verdict (writing_tests (meant (written o R u)) job_output_length) [])) operations

pub curves-asked : (asked_of [] ≡ 6 ∷ 6 ∷ 6 ∷ 0 ∷ 0 ∷ []) × (asked_of (3 ∷ 0 ∷ 1 ∷ []) ≡ 0 ∷ 0 ∷ 0 ∷ 6 ∷ 6 ∷ [])
    × (asked_to_write [] ≡ 6 ∷ 6 ∷ 6 ∷ 0 ∷ 0 ∷ []) × (asked_to_write (3 ∷ 0 ∷ 1 ∷ []) ≡ 0 ∷ 0 ∷ 0 ∷ 6 ∷ 6 ∷ [])
unfolding verdict_on job_text writing_tests
curves-asked = (refl, refl, refl, refl)

-- no curve, so that 6 is given before an inverse is searched for
abbrev pub of_modulus : String → List ℕ
of_modulus m = bytes "mod=" ++ (bytes m ++ bytes "\na=\nb=\nc=\nop=expand\nv=\n")

pub greatest-written : (verdict_on (of_modulus "2147483647") text_output_length work_length ≡ refused 6)
    × (verdict_on (of_modulus "2147483648") text_output_length work_length ≡ refused 3)
unfolding verdict_on
greatest-written = (refl, refl)
