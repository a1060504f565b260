-- The law over the two calls on job texts, as the function of this crate promises it: all that is to be believed of `text_laws`, with
-- which calls the function makes, and nothing proved.
--   answer_to w        the answer text of a job: that of its operation's result on its very lists
--   CarriedOutInput    an accepted job, and lists as long as the two calls ask
--   CarriedOut         both calls finish: the bytes that were written are read back as that job, and the text call answers them
--   WrittenAndAnswered on every input: the answer is the verdict of the two calls' tests in turn, each list is the definition's from a call
--                      that finished and what it held before from every other; only an accepted job is written; and on the input above
--                      the law holds
-- Request 1 of the change requests. Assumes nothing.
use Rattle.std.specs.Prelude.{◌≡◌, List, [], ◌∷◌, ◌++◌, ℕ, ◌≤◌, length, take, drop}
use Rattle.definitions.specs.Answers.{Valued, valued, after, cleared}
use Rattle.definitions.specs.JobWriting.{job_output_length, AcceptedJob, writing_tests}
use Rattle.definitions.specs.Reading.{found, read_job}
use Rattle.definitions.specs.Refusals.{Test, finished, verdict, work_length}
use Rattle.definitions.specs.Text.{WrittenJob, meant, job_text, answer_text}
use Rattle.definitions.specs.TextCall.{text_output_length, text_tests, result, reply}

abbrev pub answer_to : WrittenJob → List ℕ
answer_to w = answer_text w.operation (result (meant w))

-- text: the output for the job text; output: that for the answer text; primes mark a list as the calls leave it
pub record CarriedOutInput (w : WrittenJob) (text output work : List ℕ) : Type 0 where
  pub job : AcceptedJob (meant w)
  pub text_long : job_output_length ≤ length text
  pub output_long : text_output_length ≤ length output
  pub work_long : work_length ≤ length work

pub record CarriedOut (w : WrittenJob) (r : Valued) (text text' output output' work work' : List ℕ) : Type 0 where
  pub writes : verdict (writing_tests (meant w) (length text)) [] ≡ finished []
  pub finishes : valued r ≡ finished (length (answer_to w) ∷ [])
  pub text_is : text' ≡ job_text w ++ drop (length (job_text w)) text
  pub read_back : read_job (take (length (job_text w)) text') ≡ found w
  pub answer_is : output' ≡ answer_to w ++ drop (length (answer_to w)) output
  pub wiped : work' ≡ cleared work

module _ (w : WrittenJob) (text output work : List ℕ) where
  abbrev pub write_tests : List Test
  write_tests = writing_tests (meant w) (length text)

  abbrev pub answer_tests : List Test
  answer_tests = text_tests (job_text w) (length output) (length work)

  pub record WrittenAndAnswered (r : Valued) (text' output' work' : List ℕ) : Type 0 where
    pub answer : valued r ≡ verdict (write_tests ++ answer_tests) (length (reply (job_text w)) ∷ [])
    pub text_is : text' ≡ after (verdict write_tests []) (job_text w ++ drop (length (job_text w)) text) text
    pub written : output' ≡ after (valued r) (reply (job_text w) ++ drop (length (reply (job_text w))) output) output
    pub wiped : work' ≡ after (valued r) (cleared work) work
    pub only : verdict write_tests [] ≡ finished [] → AcceptedJob (meant w)
    pub holds : CarriedOutInput w text output work → CarriedOut w r text text' output output' work work'
