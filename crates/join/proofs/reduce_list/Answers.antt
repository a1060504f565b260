-- `reduce_list` reduces place by place: the laws of `Reducing` at the loop. Assumes nothing.
use mathlib.Core.Path.{◌∙◌, ap}
use native.Mathlib.Omega.{arith}
use mir.Syntax.{w32}
use mir.ValLaws.{to_z-of_z}
use Rattle.joining.specs.Whole.{remainder}
use Rattle.join.specs.Reducing.{reducing-starts, reducing-next, reducing-ends}
use Rattle.join.proofs.reduce_list.Goals as goal

pub loop-i-init : goal.loop-i-init
loop-i-init c = reducing-starts _ _ _

pub loop-i-preserved : goal.loop-i-preserved
loop-i-preserved c =
    reducing-next _ _ _ _ _ c.loop-i.invariant _ c.loop-i-test.true (omega arith)
    (c.reduce.ensures
    ∙ ap (remainder c.args.m) (to_z-of_z w32 _ (record { sfits = c.reduce-arg-1.given })))

pub returns : goal.returns
returns c = reducing-ends _ _ _ _ _ c.loop-i.invariant c.loop-i-test.false
