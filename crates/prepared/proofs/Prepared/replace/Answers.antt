-- `replace` keeps its promise: it answers the verdict of its tests, and prepares the rows with the new one in its place.
-- Assumes nothing.
use native.Mathlib.Omega.{arith}
use Rattle.prepared_model.specs.Changing.{replace-preparable}
use Rattle.prepared.specs.ChangeCalls.{change-refused, replace-taken, replace-within, replace-made}
use Rattle.prepared.proofs.Prepared.replace.Goals as goal

pub returns-in_default : goal.returns-in_default
returns-in_default c = change-refused _ _ _ _ c.replace_verdict-tested.ensures _ c.in_default.is

pub overflow_sub-place : goal.overflow_sub-place
overflow_sub-place c =
    omega (arith, (replace-taken _ _ _ _ c.replace_verdict-tested.ensures c.in-Ok.is).first)

pub bounds-x-place : goal.bounds-x-place
bounds-x-place c =
    omega (arith, replace-within _ _ _ _ c.replace_verdict-tested.ensures c.in-Ok.is)

pub bounds-y-place : goal.bounds-y-place
bounds-y-place c =
    omega (arith, replace-within _ _ _ _ c.replace_verdict-tested.ensures c.in-Ok.is)

pub bounds-z-place : goal.bounds-z-place
bounds-z-place c =
    omega (arith, replace-within _ _ _ _ c.replace_verdict-tested.ensures c.in-Ok.is)

pub prepare-requires : goal.prepare-requires
prepare-requires c =
    replace-preparable (replace-taken _ _ _ _ c.replace_verdict-tested.ensures c.in-Ok.is)

pub returns : goal.returns
returns c =
    replace-made _ _ _ _ c.replace_verdict-tested.ensures c.in-Ok.is _ c.prepare.ensures
