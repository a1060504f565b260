-- `append_verdict` answers the verdict of append's tests. Assumes nothing.
use Rattle.definitions.specs.Prepared.{append_tests}
use Rattle.acceptance.specs.Stages.{all-remain, stage-refuses}
use Rattle.prepared_model.specs.Rightness.{record-tested, right_positive}
use Rattle.prepared.specs.ChangeCalls.{append-full, append-room}
use Rattle.prepared.proofs.append_verdict.Goals as goal

pub returns-in_default : goal.returns-in_default
unfolding append_tests
returns-in_default c = stage-refuses _ _ all-remain _ c.right-right.ensures _ c.in_default.is

pub returns-then-p-ge-MOST_ROWS : goal.returns-then-p-ge-MOST_ROWS
returns-then-p-ge-MOST_ROWS c =
    append-full _ _ c.right-right.ensures c.in-Ok.is _ c.if-p-ge-MOST_ROWS.true

pub new_row-requires : goal.new_row-requires
new_row-requires c =
    right_positive (record-tested _ _ c.right-right.ensures c.in-Ok.is)

pub returns : goal.returns
returns c =
    append-room _ _ c.right-right.ensures c.in-Ok.is _ c.if-p-ge-MOST_ROWS.false
    c.new_row.result c.new_row.ensures
