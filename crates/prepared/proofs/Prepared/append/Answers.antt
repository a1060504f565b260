-- `append` keeps its promise: it answers the verdict of its tests, and prepares the rows with the new one behind them. Assumes nothing.
use native.Mathlib.Omega.{arith}
use Rattle.prepared_model.specs.Changing.{append-preparable}
use Rattle.prepared.specs.ChangeCalls.{change-refused, append-taken, append-made}
use Rattle.prepared.proofs.Prepared.append.Goals as goal

pub returns-in_default : goal.returns-in_default
returns-in_default c = change-refused _ _ _ _ c.append_verdict-tested.ensures _ c.in_default.is

pub bounds-x-place : goal.bounds-x-place
bounds-x-place c =
    omega (arith, (append-taken _ _ _ c.append_verdict-tested.ensures c.in-Ok.is).room)

pub bounds-y-place : goal.bounds-y-place
bounds-y-place c =
    omega (arith, (append-taken _ _ _ c.append_verdict-tested.ensures c.in-Ok.is).room)

pub bounds-z-place : goal.bounds-z-place
bounds-z-place c =
    omega (arith, (append-taken _ _ _ c.append_verdict-tested.ensures c.in-Ok.is).room)

pub overflow_add-self : goal.overflow_add-self
overflow_add-self c =
    omega (arith, (append-taken _ _ _ c.append_verdict-tested.ensures c.in-Ok.is).room)

pub prepare-requires : goal.prepare-requires
prepare-requires c =
    append-preparable (append-taken _ _ _ c.append_verdict-tested.ensures c.in-Ok.is)

pub returns : goal.returns
returns c =
    append-made _ _ _ c.append_verdict-tested.ensures c.in-Ok.is _ c.prepare.ensures
