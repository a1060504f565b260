-- `all_below` meets its contract: an entry that is not below m turns it to false. Assumes nothing.
use mathlib.Core.Path.{sym, ◌∙◌}
use mathlib.Core.Bool.{true≢false}
use borrow.Author.Tests.{lt-leb}
use Rattle.definitions.specs.Refusals.{not_below}
use Rattle.checks.specs.Passes.{passed-next, passed-ends}
use Rattle.checks.proofs.all_below.Goals as goal
use Rattle.checks.proofs.all_below.Goals.{then-m-entry, else-m-entry}

pub loop-entry-preserved : goal.loop-entry-preserved
unfolding not_below
loop-entry-preserved c = λ e. elim c.if-m-entry.branch [
  | then-m-entry w ↦ absurd (true≢false (sym e ∙ w.all-is))
  | else-m-entry w ↦ passed-next _ _ _ (c.loop-entry.invariant (sym w.all-is ∙ e)) c.loop-entry-test.true (lt-leb _ _ w.if-m-entry.false)
]

pub returns : goal.returns
returns c = λ e. passed-ends _ _ _ (c.loop-entry.invariant e) c.loop-entry-test.false
