-- `replace_verdict` answers the verdict of replace's tests. Assumes nothing.
use native.Mathlib.Omega.{arith}
use Rattle.definitions.specs.Prepared.{replace_tests}
use Rattle.acceptance.specs.Stages.{all-remain, stage-refuses}
use Rattle.prepared_model.specs.Rightness.{record-tested, right_positive}
use Rattle.prepared.specs.ChangeCalls.{replace_absent, replace_present}
use Rattle.prepared.proofs.replace_verdict.Goals as goal

pub returns-in_default : goal.returns-in_default
unfolding replace_tests
returns-in_default c = stage-refuses _ _ all-remain _ c.right-right.ensures _ c.in_default.is

pub returns-then-row-eq0 : goal.returns-then-row-eq0
returns-then-row-eq0 c =
    replace_absent _ _ c.right-right.ensures c.in-Ok.is _ _ (λ h. absurd (omega (arith, c.if-row-eq0.true, h.0)))

pub returns-then-p-row : goal.returns-then-p-row
returns-then-p-row c =
    replace_absent _ _ c.right-right.ensures c.in-Ok.is _ _ (λ h. absurd (omega (arith, c.if-p-row.true, h.1)))

pub new_row-requires : goal.new_row-requires
new_row-requires c =
    right_positive (record-tested _ _ c.right-right.ensures c.in-Ok.is)

pub returns : goal.returns
returns c =
    replace_present _ _ c.right-right.ensures c.in-Ok.is _ _ c.if-row-eq0.false
    c.if-p-row.false c.new_row.result c.new_row.ensures
