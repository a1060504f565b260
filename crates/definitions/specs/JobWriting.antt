-- Writing a job text from a modulus, lists and an operation: the tests in their order, and what the call promises on every input.
--   written_job             what is to stand in the text
--   AcceptedJob j           what a job says that is written, and carried out: an accepted family, and as many numbers as the operation
--                           takes, all below the modulus
--   writing_tests j output  the tests over the job that is meant and the length of the output
--   JobWritten              the promise: the answer is the length of the text written, or a refusal
-- The tests are those that the text call makes of a job, but for its working list, which is not lent here, and for the output, which is
-- longer: so what is written is carried out. Request 1 of the change requests. Assumes nothing.
use Rattle.std.specs.Prelude.{◌≡◌, List, [], ◌∷◌, ◌++◌, ℕ, ◌<◌, length, drop, get_or}
use Rattle.definitions.specs.Family.{Accepted, rows}
use Rattle.definitions.specs.Refusals.{Test, verdict, value_tests}
use Rattle.definitions.specs.Answers.{Valued, valued, after}
use Rattle.definitions.specs.Text.{WrittenJob, Job, meant, job_text}
use Rattle.definitions.specs.TextCall.{curve_count, lengths_of}
use Rattle.definitions.specs.declared.Operation.{Operation}

abbrev pub job_output_length : ℕ
job_output_length = 8192

abbrev pub written_job : ℕ → List ℕ → List ℕ → List ℕ → Operation → List ℕ → WrittenJob
written_job m a b c operation u = record { modulus = m; a = a; b = b; c = c; operation = operation; curve = u }

pub record AcceptedJob (j : Job) : Type 0 where
  pub accepted : Accepted j.family
  pub curve_length : length j.curve ≡ curve_count j.operation (rows j.family)
  pub curve_below : (i : ℕ) → i < length j.curve → get_or j.curve i 0 < j.family.m

unfoldable pub writing_tests : Job → ℕ → List Test
writing_tests j output = lengths_of j.operation j.family j.curve job_output_length output ++ value_tests j.family j.curve

-- w: what is to be written; r: the answer; output and output': the output before and after
pub record JobWritten (w : WrittenJob) (r : Valued) (output output' : List ℕ) : Type 0 where
  pub answer : valued r ≡ verdict (writing_tests (meant w) (length output)) (length (job_text w) ∷ [])
  pub written : output' ≡ after (valued r) (job_text w ++ drop (length (job_text w)) output) output
