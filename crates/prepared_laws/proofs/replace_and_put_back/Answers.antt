-- `replace_and_put_back` keeps its promise: the old record comes back. Assumes nothing.
use native.Mathlib.Omega.{arith}
use Rattle.prepared_laws.specs.Growing.{replace-kept, replace-back, replace-inside}
use Rattle.prepared_laws.proofs.replace_and_put_back.Goals as goal

pub returns-in_default : goal.returns-in_default
returns-in_default c = replace-kept _ _ _ _ _ c.replace-first.ensures _ c.in_default.is

pub overflow_sub-place : goal.overflow_sub-place
overflow_sub-place c = omega (arith, (replace-inside _ _ _ _ _ c.replace-first.ensures c.in-Ok.is).0)

pub bounds-p-place : goal.bounds-p-place
bounds-p-place c = omega (arith, (replace-inside _ _ _ _ _ c.replace-first.ensures c.in-Ok.is).1)

pub bounds-p-place-2 : goal.bounds-p-place-2
bounds-p-place-2 c =
    omega (arith, (replace-inside _ _ _ _ _ c.replace-first.ensures c.in-Ok.is).1)

pub bounds-p-place-3 : goal.bounds-p-place-3
bounds-p-place-3 c =
    omega (arith, (replace-inside _ _ _ _ _ c.replace-first.ensures c.in-Ok.is).1)

pub returns : goal.returns
returns c =
    replace-back _ _ _ _ _ c.replace-first.ensures c.in-Ok.is _ _ c.replace.ensures
