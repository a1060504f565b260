-- The text call: its tests in their order, what it hands out, and what it promises on every input.
--   length_tests, size_tests  3 to 7 and 3 to 8 of a job, over the modulus and how many numbers or bytes each list has
--   text_tests t output work  the tests over the bytes t and the lengths of the output and of the working list
--   result j                  the list that a job asks for
--   reply t                   the answer text of the job that stands in t
--   TextConverted             the promise: its answer is the length of the text written, or a refusal
-- A text that is not of the form has no job, so no test follows 2 there. The tests from 3 on are those of the other calls but for
-- the curve, which is empty for moments and norms, and the output, which may be longer.
-- The scope paper, 'The job text' and 'Who causes which refusal'. Assumes nothing.
use Rattle.std.specs.Prelude.{◌≡◌, true, false, List, [], ◌∷◌, ◌++◌, ℕ, suc, ltb, length, drop}
use Rattle.definitions.specs.Family.{Family}
use Rattle.definitions.specs.Conversion.{expand, adjoint, decompose}
use Rattle.definitions.specs.Orthogonality.{moments, norms}
use Rattle.definitions.specs.Refusals.{Test, test, verdict, curve_length_test, work_test, shape_tests, value_tests}
use Rattle.definitions.specs.Answers.{Valued, valued, after, cleared}
use Rattle.definitions.specs.Text.{Job, meant, answer_text}
use Rattle.definitions.specs.Reading.{Read, found, malformed, read_job}
use Rattle.definitions.specs.declared.Operation.{Operation}

abbrev pub most_bytes : ℕ
most_bytes = 8192

abbrev pub text_output_length : ℕ
text_output_length = 4096

-- the sender of the job text
unfoldable pub text_length_test : ℕ → Test
text_length_test bytes = test 1 (ltb most_bytes bytes)

-- how many numbers an operation takes beside a family of r rows
unfoldable pub curve_count : Operation → ℕ → ℕ
curve_count Operation.Expand r = suc r
curve_count Operation.Adjoint r = suc r
curve_count Operation.Decompose r = suc r
curve_count Operation.Moments r = 0
curve_count Operation.Norms r = 0

-- the writer of the station's program: a text is lent so many bytes at least
unfoldable pub text_output_test : ℕ → ℕ → Test
text_output_test least output = test 7 (ltb output least)

-- the stages of a job: its sizes, 3 to 7 and 3 to 8, which are known before a list is loaded, and then its values, 9 17 10 18 11 12
-- a, b, c and u: how many numbers each list has
unfoldable pub length_tests : ℕ → Operation → ℕ → ℕ → ℕ → ℕ → ℕ → ℕ → List Test
length_tests m operation a b c u least output =
    shape_tests m a b c ++ (curve_length_test (curve_count operation a) u ∷ text_output_test least output ∷ [])

unfoldable pub size_tests : ℕ → Operation → ℕ → ℕ → ℕ → ℕ → ℕ → ℕ → List Test
size_tests m operation a b c u output work = length_tests m operation a b c u text_output_length output ++ (work_test work ∷ [])

-- those of an operation on a family and a curve
abbrev pub lengths_of : Operation → Family → List ℕ → ℕ → ℕ → List Test
lengths_of operation f u least output =
    length_tests f.m operation (length f.a) (length f.b) (length f.c) (length u) least output

abbrev pub sizes_of : Operation → Family → List ℕ → ℕ → ℕ → List Test
sizes_of operation f u output work =
    size_tests f.m operation (length f.a) (length f.b) (length f.c) (length u) output work

unfoldable pub job_tests : Job → ℕ → ℕ → List Test
job_tests j output work = sizes_of j.operation j.family j.curve output work ++ value_tests j.family j.curve

unfoldable pub form_tests : Read → ℕ → ℕ → List Test
form_tests malformed output work = test 2 true ∷ []
form_tests (found w) output work = test 2 false ∷ job_tests (meant w) output work

unfoldable pub text_tests : List ℕ → ℕ → ℕ → List Test
text_tests t output work = text_length_test (length t) ∷ form_tests (read_job t) output work

unfoldable pub converted : Operation → Family → List ℕ → List ℕ
converted Operation.Expand f u = expand f u
converted Operation.Adjoint f u = adjoint f u
converted Operation.Decompose f u = decompose f u
converted Operation.Moments f u = moments f
converted Operation.Norms f u = norms f

unfoldable pub result : Job → List ℕ
result j = converted j.operation j.family j.curve

unfoldable pub reply_to : Read → List ℕ
reply_to malformed = []
reply_to (found w) = answer_text w.operation (result (meant w))

unfoldable pub reply : List ℕ → List ℕ
reply t = reply_to (read_job t)

-- t: the job text; r: the answer; output and output', work and work': the lists before and after
pub record TextConverted (t : List ℕ) (r : Valued) (output output' work work' : List ℕ) : Type 0 where
  pub answer : valued r ≡ verdict (text_tests t (length output) (length work)) (length (reply t) ∷ [])
  pub written : output' ≡ after (valued r) (reply t ++ drop (length (reply t)) output) output
  pub wiped : work' ≡ after (valued r) (cleared work) work
