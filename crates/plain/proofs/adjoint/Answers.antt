-- `adjoint` meets its contract: the laws of `Adjoining` at the loop. Assumes nothing.
use Rattle.std.proofs.Common.{◌≡◌, ◌++◌, ap, arith, drop, length, subst, take}
use Rattle.definitions.specs.Conversion.{adjoint}
use Rattle.definitions.specs.Family.{size}
use Rattle.plain.specs.Adjoining.{adjoint-starts, adjoint-step-input, adjoint-step, adjoint-ends}
use Rattle.plain.proofs.Taken.{taken, made}
use Rattle.plain.proofs.adjoint.Goals as goal

pub copy-requires : goal.copy-requires
copy-requires c =
    let input = taken (rw (← c.family.view_is) at c.requires) in
    omega (arith, input.most, input.curve_holds.long, ap length c.zeros-current.ensures)

pub loop-j-init : goal.loop-j-init
loop-j-init c =
    adjoint-starts (taken (rw (← c.family.view_is) at c.requires)) c.zeros-current.ensures c.zeros-older.ensures c.copy.ensures

pub adjoint_row-requires : goal.adjoint_row-requires
adjoint_row-requires c =
    adjoint-step-input (taken (rw (← c.family.view_is) at c.requires)) c.loop-j-test.true c.loop-j.invariant
    c.row_entry-p.ensures c.row_entry-q.ensures c.row_entry-r.ensures

pub loop-j-preserved : goal.loop-j-preserved
loop-j-preserved c =
    adjoint-step (taken (rw (← c.family.view_is) at c.requires)) c.loop-j-test.true c.loop-j.invariant
    c.row_entry-p.ensures c.row_entry-q.ensures c.row_entry-r.ensures
    c.adjoint_row.ensures

pub returns : goal.returns
returns c =
    let left = adjoint-ends (taken (rw (← c.family.view_is) at c.requires)) c.loop-j-test.false c.loop-j.invariant in
    subst (λ f. c.loop-j.output ≡ adjoint f (take (size f) c.args.curve.now) ++ drop (size f) c.args.output.now) c.family.view_is
    (made _ _ c.family.invariant adjoint left)
