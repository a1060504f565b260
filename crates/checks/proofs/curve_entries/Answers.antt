-- `curve_entries` answers the verdict of test 12 of a curve. Assumes nothing.
use mathlib.Core.Logic.Iff
use Rattle.definitions.specs.Refusals.{curve_entries_test}
use Rattle.checks.specs.Settling.{refuses-alone, finishes}
use Rattle.checks.specs.RowTests.{all-below, one-not-below}
use Rattle.checks.proofs.curve_entries.Goals as goal

pub returns-in_default : goal.returns-in_default
unfolding curve_entries_test
returns-in_default c = refuses-alone _ Iff.rfl (one-not-below _ _ _ _ c.in_default.is c.entries_below.ensures)

pub returns : goal.returns
unfolding curve_entries_test
returns c = finishes _ Iff.rfl (all-below _ _ _ c.in-None.is c.entries_below.ensures)
