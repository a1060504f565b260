-- `write_answer` puts the two lines of the answer text, the second right after the first. Assumes nothing.
use Rattle.writer.specs.Answer.{answer-written}
use Rattle.writer.proofs.write_answer.Goals as goal

pub returns : goal.returns
returns c =
    answer-written _ _ _ c.requires _ _ c.put_operation_line-result.ensures _ _ c.put_line.ensures
