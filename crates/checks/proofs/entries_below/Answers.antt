-- `entries_below` finds the first entry that is not below m, if there is one. Assumes nothing.
use borrow.Author.Tests.{le-leb, lt-leb}
use Rattle.definitions.specs.Refusals.{not_below}
use Rattle.checks.specs.Passes.{passed-next, passed_first, passed-ends}
use Rattle.checks.proofs.entries_below.Goals as goal

pub returns-then-m-x : goal.returns-then-m-x
unfolding not_below
returns-then-m-x c = passed_first _ _ _ c.loop-i.invariant c.loop-i-test.true (le-leb _ _ c.if-m-x.true)

pub loop-i-preserved : goal.loop-i-preserved
unfolding not_below
loop-i-preserved c = passed-next _ _ _ c.loop-i.invariant c.loop-i-test.true (lt-leb _ _ c.if-m-x.false)

pub returns : goal.returns
returns c = passed-ends _ _ _ c.loop-i.invariant c.loop-i-test.false
