-- The paper's job and its answer byte for byte, texts at the edges of the form, and what is printed for each, by computation.
--   verdict_on  what the text call hands out on a text and two lengths: its verdict, with the answer text's bytes as the values
--   samples     each text, with the lengths of output and working list, beside what it must hand out
--   printouts   texts beside what the program must print for them, each number that it can give once
--   jobs        jobs beside their texts, of each operation and of no rows
-- samples-hold, printouts-hold and jobs-written: every row of the table is right. job-written and job_read: the paper's job is written
-- and read so. bytes_counted and rows-counted: where 1 and 5 begin.
-- Assumes nothing.
use Rattle.std.specs.Prelude.{◌≡◌, refl, List, [], ◌∷◌, map, ℕ, replicate}
use Prim.Native.String.{String}
use Rattle.definitions.specs.Refusals.{Verdict, finished, refused, verdict, work_length}
use Rattle.definitions.specs.Figures.{handed}
use Rattle.definitions.specs.Text.{bytes, decimal_within, decimal, spaced, numbers, line}
use Rattle.definitions.specs.Text.{name, WrittenJob, job_text, answer_text, refusal_text}
use Rattle.definitions.specs.Reading.{found, read_key, is_digit, read_digits, read_number, read_on, read_some}
use Rattle.definitions.specs.Reading.{read_numbers, read_operation, ended, read_line, read_lines, read_job}
use Rattle.definitions.specs.TextCall.{text_output_length, text_length_test, curve_count, text_output_test, length_tests, size_tests}
use Rattle.definitions.specs.TextCall.{job_tests}
use Rattle.definitions.specs.TextCall.{form_tests, text_tests, converted, result, reply_to, reply}
use Rattle.definitions.specs.JobWriting.{written_job}
use Rattle.definitions.specs.Printing.{shown, printed}
use Rattle.definitions.specs.declared.Operation.{Operation}

-- the paper's job, and the same with another operation and another curve
abbrev pub paper_job_with : Operation → List ℕ → WrittenJob
paper_job_with operation u = written_job 7 (1 ∷ 2 ∷ []) (0 ∷ 3 ∷ []) (1 ∷ 5 ∷ []) operation u

abbrev pub paper_job : WrittenJob
paper_job = paper_job_with Operation.Expand (3 ∷ 0 ∷ 1 ∷ [])

abbrev pub paper_text : String
paper_text = "mod=7\na=1 2\nb=0 3\nc=1 5\nop=expand\nv=3 0 1\n"

pub job-written : job_text paper_job ≡ bytes paper_text
unfolding decimal_within decimal spaced numbers line name job_text
job-written = refl

pub job_read : read_job (bytes paper_text) ≡ found paper_job
unfolding name read_key is_digit read_digits read_number read_on read_some read_numbers read_operation ended read_line read_lines read_job
job_read = refl

-- ---- what is written
pub record Written : Type 0 where
  pub job : WrittenJob
  pub text : String

infix 80 ◌reads◌
abbrev ◌reads◌ : WrittenJob → String → Written
job reads text = record { job = job; text = text }

abbrev pub jobs : List Written
jobs =
    paper_job_with Operation.Adjoint (1 ∷ 3 ∷ 2 ∷ []) reads "mod=7\na=1 2\nb=0 3\nc=1 5\nop=adjoint\nv=1 3 2\n"
    ∷ paper_job_with Operation.Decompose (1 ∷ 3 ∷ 2 ∷ []) reads "mod=7\na=1 2\nb=0 3\nc=1 5\nop=decompose\nv=1 3 2\n"
    ∷ paper_job_with Operation.Moments [] reads "mod=7\na=1 2\nb=0 3\nc=1 5\nop=moments\nv=\n"
    ∷ paper_job_with Operation.Norms [] reads "mod=7\na=1 2\nb=0 3\nc=1 5\nop=norms\nv=\n"
    ∷ written_job 2147483647 [] [] [] Operation.Expand (2147483646 ∷ []) reads "mod=2147483647\na=\nb=\nc=\nop=expand\nv=2147483646\n"
    ∷ written_job 1001 (100 ∷ []) (0 ∷ []) (10 ∷ []) Operation.Adjoint (9 ∷ 1000 ∷ []) reads "mod=1001\na=100\nb=0\nc=10\nop=adjoint\nv=9 1000\n"
    ∷ []

pub jobs-written : map (λ j. job_text j.job) jobs ≡ map (λ j. bytes j.text) jobs
unfolding decimal_within decimal spaced numbers line name job_text
jobs-written = refl

-- ---- what is answered
pub record Sample : Type 0 where
  pub text : String
  pub output : ℕ
  pub work : ℕ
  pub hands : Verdict

infix 80 ◌gives◌
abbrev ◌gives◌ : String → Verdict → Sample
text gives hands = record { text = text; output = text_output_length; work = work_length; hands = hands }

-- whoever unfolds it unfolds the definitions that it leads to
unfoldable pub verdict_on : List ℕ → ℕ → ℕ → Verdict
unfolding handed decimal_within decimal spaced numbers line name answer_text read_key is_digit read_digits read_number read_on read_some
    read_numbers read_operation ended read_line read_lines read_job text_length_test curve_count text_output_test length_tests size_tests
    job_tests form_tests text_tests converted result reply_to reply
verdict_on t output work = verdict (text_tests t output work) (reply t)

abbrev pub verdict_of : Sample → Verdict
verdict_of s = verdict_on (bytes s.text) s.output s.work

abbrev pub samples : List Sample
samples =
    paper_text gives finished (bytes "op=expand\nout=1 3 2\n")
    ∷ "mod=7\na=1 2\nb=0 3\nc=1 5\nop=adjoint\nv=1 3 2\n" gives finished (bytes "op=adjoint\nout=1 3 4\n")
    ∷ "mod=7\na=1 2\nb=0 3\nc=1 5\nop=decompose\nv=1 3 2\n" gives finished (bytes "op=decompose\nout=3 0 1\n")
    ∷ "mod=7\na=1 2\nb=0 3\nc=1 5\nop=moments\nv=\n" gives finished (bytes "op=moments\nout=1 0 1 2 1\n")
    ∷ "mod=15\na=2\nb=1\nc=4\nop=norms\nv=\n" gives finished (bytes "op=norms\nout=8 14\n")
    ∷ "mod=7\na=\nb=\nc=\nop=expand\nv=4294967295\n" gives refused 12
    ∷ "mod=7\na=\nb=\nc=\nop=expand\nv=4294967296\n" gives refused 2
    ∷ "mod=7\na=\nb=\nc=\nop=expand\nv=01\n" gives refused 2
    ∷ "mod=7\na=1  2\nb=0 3\nc=1 5\nop=expand\nv=3 0 1\n" gives refused 2
    ∷ "mod=7\na=1 2 \nb=0 3\nc=1 5\nop=expand\nv=3 0 1\n" gives refused 2
    ∷ "mod=7\na=1 2\nb=0 3\nc=1 5\nop=expand\nv=3 0 1" gives refused 2
    ∷ "mod=7\na=1 2\nb=0 3\nc=1 5\nop=expand\nv=3 0 1\n\n" gives refused 2
    ∷ "mod=7\nb=0 3\na=1 2\nc=1 5\nop=expand\nv=3 0 1\n" gives refused 2
    ∷ "mod=7\na=1 2\nb=0 3\nc=1 5\nop=norm\nv=\n" gives refused 2
    ∷ "mod=\na=\nb=\nc=\nop=norms\nv=\n" gives refused 2
    ∷ "mod=1\na=1 2\nb=0\nc=1 5\nop=norms\nv=9\n" gives refused 3
    ∷ "mod=7\na=1 2\nb=0\nc=1 5\nop=norms\nv=9\n" gives refused 4
    ∷ "mod=7\na=1 2\nb=0 9\nc=1 5\nop=norms\nv=9\n" gives refused 6
    ∷ "mod=7\na=1 2\nb=0 9\nc=1 5\nop=expand\nv=9\n" gives refused 6
    ∷ "mod=7\na=1 0\nb=0 9\nc=1 5\nop=norms\nv=\n" gives refused 9
    ∷ "mod=7\na=1 0\nb=0 0\nc=1 0\nop=norms\nv=\n" gives refused 17
    ∷ "mod=15\na=1 6\nb=0 0\nc=1 0\nop=norms\nv=\n" gives refused 10
    ∷ "mod=7\na=1 2\nb=0 3\nc=1 0\nop=expand\nv=3 0 7\n" gives refused 18
    ∷ "mod=15\na=1 1\nb=0 0\nc=1 6\nop=expand\nv=15 0 0\n" gives refused 11
    ∷ record { text = paper_text; output = 4095; work = 16383; hands = refused 7 }
    ∷ record { text = paper_text; output = 4096; work = 16383; hands = refused 8 }
    ∷ []

pub samples-hold : map verdict_of samples ≡ map (λ s. s.hands) samples
unfolding verdict_on
samples-hold = refl

-- 8,192 bytes are looked at and 8,193 are not; 127 rows pass test 5, so that the missing curve gives 6, and 128 do not
abbrev pub job_of_rows : ℕ → WrittenJob
job_of_rows r = written_job 7 (replicate r 1) (replicate r 0) (replicate r 1) Operation.Expand []

pub bytes_counted : (verdict_on (replicate 8192 48) text_output_length work_length ≡ refused 2)
    × (verdict_on (replicate 8193 48) text_output_length work_length ≡ refused 1)
unfolding verdict_on
bytes_counted = (refl, refl)

pub rows-counted : (verdict_on (job_text (job_of_rows 127)) text_output_length work_length ≡ refused 6)
    × (verdict_on (job_text (job_of_rows 128)) text_output_length work_length ≡ refused 5)
unfolding verdict_on job_text
rows-counted = (refl, refl)

-- ---- what is printed
pub record Printout : Type 0 where
  pub input : List ℕ
  pub output : String

infix 80 ◌prints◌
abbrev ◌prints◌ : List ℕ → String → Printout
input prints output = record { input = input; output = output }

abbrev pub printouts : List Printout
printouts =
    bytes paper_text prints "op=expand\nout=1 3 2\n"
    ∷ bytes "mod=15\na=2\nb=1\nc=4\nop=norms\nv=\n" prints "op=norms\nout=8 14\n"
    ∷ replicate 8193 48 prints "refused=1\n"
    ∷ [] prints "refused=2\n"
    ∷ bytes "mod=1\na=1 2\nb=0\nc=1 5\nop=norms\nv=9\n" prints "refused=3\n"
    ∷ bytes "mod=7\na=1 2\nb=0\nc=1 5\nop=norms\nv=9\n" prints "refused=4\n"
    ∷ job_text (job_of_rows 128) prints "refused=5\n"
    ∷ bytes "mod=7\na=1 2\nb=0 9\nc=1 5\nop=expand\nv=9\n" prints "refused=6\n"
    ∷ bytes "mod=7\na=1 0\nb=0 9\nc=1 5\nop=norms\nv=\n" prints "refused=9\n"
    ∷ bytes "mod=7\na=1 0\nb=0 0\nc=1 0\nop=norms\nv=\n" prints "refused=17\n"
    ∷ bytes "mod=15\na=1 6\nb=0 0\nc=1 0\nop=norms\nv=\n" prints "refused=10\n"
    ∷ bytes "mod=7\na=1 2\nb=0 3\nc=1 0\nop=expand\nv=3 0 7\n" prints "refused=18\n"
    ∷ bytes "mod=15\na=1 1\nb=0 0\nc=1 6\nop=expand\nv=15 0 0\n" prints "refused=11\n"
    ∷ bytes "mod=7\na=\nb=\nc=\nop=expand\nv=4294967295\n" prints "refused=12\n"
    ∷ []

pub printouts-hold : map (λ p. printed p.input) printouts ≡ map (λ p. bytes p.output) printouts
unfolding verdict_on job_text refusal_text shown printed
printouts-hold = refl
