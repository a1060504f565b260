-- `clear` meets its contract: a working list filled with zeros as far as it goes is the cleared one. Assumes nothing.
use Rattle.std.proofs.Common.{◌∙◌, arith}
use Rattle.definitions.specs.Refusals.{work_length}
use Rattle.lists.specs.Entries.{filled-cleared}
use Rattle.lists.proofs.Fills.{filled_end}
use Rattle.lists.proofs.clear.Goals as goal

pub returns : goal.returns
returns c = filled_end _ _ _ _ work_length c.loop-i.invariant (omega arith) (omega arith) ∙ filled-cleared _
