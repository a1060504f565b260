-- `lengths` answers the verdict of 5 and 7. Assumes nothing.
use Rattle.acceptance.specs.Stages.{stages-end}
use Rattle.order_calls.specs.Arranging.{too_many, not-too-many}
use Rattle.order_calls.proofs.lengths.Goals as goal

pub returns-then-is_too_long : goal.returns-then-is_too_long
returns-then-is_too_long c = too_many _ _ c.if-is_too_long.true

pub returns : goal.returns
returns c = stages-end _ (not-too-many _ _ c.if-is_too_long.false) c.output_length.result c.output_length.ensures
