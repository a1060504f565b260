-- `write_refusal` puts the line of the refusal text. Assumes nothing.
use Rattle.writer.specs.Refusal.{refusal-written}
use Rattle.writer.proofs.write_refusal.Goals as goal

pub returns : goal.returns
returns c = refusal-written _ _ _ _ c.put_number_line.ensures
