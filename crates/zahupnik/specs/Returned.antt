-- What an exported function returns and leaves.
--   returned k   what the number k says that is returned: 0 the finished kind, any other a refusal with that number
--   number v     the number that is returned for the verdict v
-- The functions on a family keep the promises of the calls with returned k for what the answer says, and so do these:
--   TextReturned   of the function on a job text
--   choice k       the operation that the number k names: 0 to 4 in the paper's order; any other names none
--   JobReturned    of the function that writes a job: a number that names no operation is refused with 2 before all else, since no text
--                  of the form has it
-- A lent number is a list of one. The scope paper, 'Who causes which refusal'. Assumes nothing.
use Rattle.std.specs.Prelude.{true, false, List, [], ◌∷◌, ◌++◌, ℕ, zero, suc, length, drop, Option, Some}
use Rattle.definitions.specs.Answers.{Converted, ConvertedIn}
use Rattle.definitions.specs.Refusals.{Test, Verdict, finished, refused, test}
use Rattle.definitions.specs.Text.{WrittenJob, meant, job_text}
use Rattle.definitions.specs.TextCall.{text_tests, reply}
use Rattle.definitions.specs.JobWriting.{written_job, writing_tests}
use Rattle.definitions.specs.declared.Operation.{Operation}

abbrev pub returned : ℕ → Verdict
returned zero = finished []
returned (suc k) = refused (suc k)

abbrev pub number : Verdict → ℕ
number (finished values) = 0
number (refused k) = k

-- the function on a job text t; count and count': the lent number before and after, the length of the answer text
pub record TextReturned (t : List ℕ) (r : ℕ) (output output' work work' : List ℕ) (count count' : ℕ) : Type 0 where
  pub text : ConvertedIn (text_tests t (length output) (length work)) (reply t ++ drop (length (reply t)) output) (returned r)
      output output' work work'
  pub counted : Converted (text_tests t (length output) (length work)) (length (reply t) ∷ []) (returned r) (count ∷ []) (count' ∷ [])

-- the operations in the paper's order, and the one at a place
abbrev pub operations : List Operation
operations = Operation.Expand ∷ Operation.Adjoint ∷ Operation.Decompose ∷ Operation.Moments ∷ Operation.Norms ∷ []

unfoldable pub choice_of : List Operation → ℕ → Option Operation
choice_of [] k = Option.None
choice_of (operation ∷ others) zero = Some operation
choice_of (operation ∷ others) (suc k) = choice_of others k

unfoldable pub choice : ℕ → Option Operation
choice k = choice_of operations k

-- what is to be written, by the operation
abbrev pub job_for : ℕ → List ℕ → List ℕ → List ℕ → List ℕ → Operation → WrittenJob
job_for m a b c u operation = written_job m a b c operation u

unfoldable pub chosen_tests : Option Operation → (Operation → WrittenJob) → ℕ → List Test
chosen_tests Option.None job output = test 2 true ∷ []
chosen_tests (Some operation) job output = test 2 false ∷ writing_tests (meant (job operation)) output

unfoldable pub chosen_text : Option Operation → (Operation → WrittenJob) → List ℕ
chosen_text Option.None job = []
chosen_text (Some operation) job = job_text (job operation)

-- k: the number of the operation; count and count': the lent number before and after, the length of the job text
pub record JobReturned (job : Operation → WrittenJob) (k r : ℕ) (output output' : List ℕ) (count count' : ℕ) : Type 0 where
  pub text : Converted (chosen_tests (choice k) job (length output))
      (chosen_text (choice k) job ++ drop (length (chosen_text (choice k) job)) output) (returned r) output output'
  pub counted : Converted (chosen_tests (choice k) job (length output))
      (length (chosen_text (choice k) job) ∷ []) (returned r) (count ∷ []) (count' ∷ [])
