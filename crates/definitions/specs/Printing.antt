-- What the program `channel` prints for the bytes that it reads: the answer text of the job, or the refusal text of its number.
--   shown v      what is printed for a verdict whose values are the bytes of the answer text
--   printed t    what is printed for the bytes t: the text call is lent an output of 4,096 bytes and a working list of 16,384 numbers
-- The scope paper, 'The job text'. Assumes nothing.
use Rattle.std.specs.Prelude.{List, ℕ}
use Rattle.definitions.specs.Refusals.{Verdict, finished, refused, verdict, work_length}
use Rattle.definitions.specs.Text.{refusal_text}
use Rattle.definitions.specs.TextCall.{text_output_length, text_tests, reply}

unfoldable pub shown : Verdict → List ℕ
shown (finished text) = text
shown (refused number) = refusal_text number

unfoldable pub printed : List ℕ → List ℕ
printed t = shown (verdict (text_tests t text_output_length work_length) (reply t))
