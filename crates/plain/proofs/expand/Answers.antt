-- `expand` meets its contract: the laws of `Expanding` at the loop. Assumes nothing.
use Rattle.std.proofs.Common.{subst, ◌≡◌, ◌++◌, take, drop}
use Rattle.definitions.specs.Conversion.{expand}
use Rattle.definitions.specs.Family.{size}
use Rattle.plain.specs.Expanding.{expanding-starts, expand-step-input, expand-step, expand-ends}
use Rattle.plain.proofs.Taken.{taken, made}
use Rattle.plain.proofs.expand.Goals as goal

pub loop-i-init : goal.loop-i-init
loop-i-init c = expanding-starts _ _ _ _ _ c.zeros-current.ensures c.zeros-older.ensures

pub expand_row-requires : goal.expand_row-requires
expand_row-requires c =
    expand-step-input (taken (rw (← c.family.view_is) at c.requires)) c.loop-i-test.true c.loop-i.invariant
    c.row_entry-p.ensures c.row_entry-q.ensures c.row_entry-r.ensures

pub loop-i-preserved : goal.loop-i-preserved
loop-i-preserved c =
    expand-step (taken (rw (← c.family.view_is) at c.requires)) c.loop-i-test.true c.loop-i.invariant
    c.row_entry-p.ensures c.row_entry-q.ensures c.row_entry-r.ensures
    c.expand_row.ensures

pub returns : goal.returns
returns c =
    let left = expand-ends (taken (rw (← c.family.view_is) at c.requires)) c.loop-i-test.false c.loop-i.invariant c.copy.ensures in
    subst (λ f. c.copy.new.to ≡ expand f (take (size f) c.args.curve.now) ++ drop (size f) c.args.output.now) c.family.view_is
    (made _ _ c.family.invariant expand left)
