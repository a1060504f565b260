-- `drop_last` keeps its promise: it answers the verdict of its tests, and prepares the rows without the last. Assumes nothing.
use native.Mathlib.Omega.{arith}
use Rattle.prepared_model.specs.Changing.{drop-preparable}
use Rattle.prepared.specs.ChangeCalls.{change-refused, drop-taken, drop-within, drop-made}
use Rattle.prepared.proofs.Prepared.drop_last.Goals as goal

pub returns-in_default : goal.returns-in_default
returns-in_default c = change-refused _ _ _ _ c.drop_verdict-tested.ensures _ c.in_default.is

pub overflow_sub-rows : goal.overflow_sub-rows
overflow_sub-rows c =
    omega (arith, (drop-taken _ _ c.drop_verdict-tested.ensures c.in-Ok.is).some)

pub bounds-x-place : goal.bounds-x-place
bounds-x-place c =
    omega (arith, drop-within _ _ c.drop_verdict-tested.ensures c.in-Ok.is)

pub bounds-y-place : goal.bounds-y-place
bounds-y-place c =
    omega (arith, drop-within _ _ c.drop_verdict-tested.ensures c.in-Ok.is)

pub bounds-z-place : goal.bounds-z-place
bounds-z-place c =
    omega (arith, drop-within _ _ c.drop_verdict-tested.ensures c.in-Ok.is)

pub prepare-requires : goal.prepare-requires
prepare-requires c =
    drop-preparable (drop-taken _ _ c.drop_verdict-tested.ensures c.in-Ok.is)

pub returns : goal.returns
returns c =
    drop-made _ _ c.drop_verdict-tested.ensures c.in-Ok.is _ c.prepare.ensures
