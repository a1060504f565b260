-- The refusal text put into an output.
--   longest_refusal                   the length of the longest: the key, ten digits and byte 10
--   RefusalWritten number r old new   r is the length of the refusal text, at most the longest's, and new is that text and then what old
--                                     held
-- Proved: the text is its line. Assumes nothing.
use Rattle.std.specs.Prelude.{List, [], ℕ}
use Rattle.std.proofs.Common.{arith}
use Rattle.definitions.specs.Text.{decimal, line, refusal_key, refusal_text}
use Rattle.writer.specs.Putting.{Put, Written, put_front}
use Rattle.writer.specs.Lines.{line_room}

abbrev pub longest_refusal : ℕ
longest_refusal = 19

abbrev pub RefusalWritten : ℕ → ℕ → List ℕ → List ℕ → Type 0
RefusalWritten number r old new = Written (refusal_text number) longest_refusal r old new

pub refusal-written : (old : List ℕ) (number : ℕ) (new : List ℕ) (r : ℕ)
    → Put old 0 (line refusal_key (decimal number) []) (line_room refusal_key 10) new r → RefusalWritten number r old new
unfolding refusal_text
refusal-written old number new r p = put_front old _ _ new r p longest_refusal (omega arith)
