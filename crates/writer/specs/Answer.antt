-- The answer text put into an output.
--   Room out xs                              the output has the 4,096 bytes that an answer is lent, and the list at most 255 numbers
--   AnswerWritten operation xs r old new     r is the length of the answer text, at most 4,096, and new is that text and then what old
--                                            held
-- Proved: the whole text from its two lines. Assumes nothing.
use Rattle.std.specs.Prelude.{List, [], ℕ, ◌*◌, ◌≤◌, length}
use Rattle.std.proofs.Common.{arith}
use Rattle.definitions.specs.Text.{numbers, line, operation_key, result_key, name, answer_text}
use Rattle.definitions.specs.TextCall.{text_output_length}
use Rattle.definitions.specs.declared.Operation.{Operation}
use Rattle.writer.specs.Putting.{Put, Written, put_front}
use Rattle.writer.specs.Lines.{line_room, put-line-then}

pub record Room (out xs : List ℕ) : Type 0 where
  pub long : text_output_length ≤ length out
  pub few : length xs ≤ 255

abbrev pub AnswerWritten : Operation → List ℕ → ℕ → List ℕ → List ℕ → Type 0
AnswerWritten operation xs r old new = Written (answer_text operation xs) text_output_length r old new

pub answer-written : (old : List ℕ) (operation : Operation) (xs : List ℕ) → Room old xs
    → (mid : List ℕ) (next : ℕ) → Put old 0 (line operation_key (name operation) []) (line_room operation_key 9) mid next
    → (new : List ℕ) (r : ℕ) → Put mid next (line result_key (numbers xs) []) (line_room result_key (11 * length xs)) new r
    → AnswerWritten operation xs r old new
unfolding answer_text
answer-written old operation xs room mid next p new r q =
    put_front old _ _ new r (put-line-then old 0 _ _ _ mid next p (omega (arith, room.long)) _ _ new r q) text_output_length
    (omega (arith, room.few))
