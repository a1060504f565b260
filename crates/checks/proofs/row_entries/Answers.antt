-- `row_entries` answers the verdict of test 9: three passes, each taken apart before the next, and the closing row. Assumes nothing.
use mathlib.Core.Path.{sym}
use native.Mathlib.Omega.{arith}
use lib.Seq.{length-take-le}
use Rattle.definitions.specs.Refusals.{entries_test}
use Rattle.checks.specs.Settling.{refuses-alone, finishes}
use Rattle.checks.specs.RowTests.{all-below, one-not-below, entered-passes}
use Rattle.checks.proofs.row_entries.Goals as goal

pub slice_bounds-entries_below-end : goal.slice_bounds-entries_below-end
slice_bounds-entries_below-end c = sym (length-take-le _ _ c.requires.a_long)

pub returns-in_default : goal.returns-in_default
unfolding entries_test
returns-in_default c =
    refuses-alone _ (entered-passes _ _ _ _ _ _ c.requires)
    (λ e. one-not-below _ _ _ _ c.in_default.is c.entries_below.ensures e.in_a)

pub slice_bounds-entries_below-end-2 : goal.slice_bounds-entries_below-end-2
slice_bounds-entries_below-end-2 c =
    sym (length-take-le _ _ c.requires.b_long)

pub returns-in_default-entries_below : goal.returns-in_default-entries_below
unfolding entries_test
returns-in_default-entries_below c =
    refuses-alone _ (entered-passes _ _ _ _ _ _ c.requires)
    (λ e. one-not-below _ _ _ _ c.in_default-entries_below.is c.entries_below-2.ensures e.in_b)

pub slice_bounds-entries_below-end-3 : goal.slice_bounds-entries_below-end-3
slice_bounds-entries_below-end-3 c =
    sym (length-take-le _ _ c.requires.c_long)

pub returns-in_default-entries_below-2 : goal.returns-in_default-entries_below-2
unfolding entries_test
returns-in_default-entries_below-2 c =
    refuses-alone _ (entered-passes _ _ _ _ _ _ c.requires)
    (λ e. one-not-below _ _ _ _ c.in_default-entries_below-2.is c.entries_below-3.ensures e.in_c)

pub returns-then-m-close_a : goal.returns-then-m-close_a
unfolding entries_test
returns-then-m-close_a c =
    refuses-alone _ (entered-passes _ _ _ _ _ _ c.requires) (λ e. omega (arith, e.closing.a_below))

pub returns-then-m-close_b : goal.returns-then-m-close_b
unfolding entries_test
returns-then-m-close_b c =
    refuses-alone _ (entered-passes _ _ _ _ _ _ c.requires) (λ e. omega (arith, e.closing.b_below))

pub returns-then-m-close_c : goal.returns-then-m-close_c
unfolding entries_test
returns-then-m-close_c c =
    refuses-alone _ (entered-passes _ _ _ _ _ _ c.requires) (λ e. omega (arith, e.closing.c_below))

pub returns : goal.returns
returns c =
    finishes _ (entered-passes _ _ _ _ _ _ c.requires) (record {
      in_a = all-below _ _ _ c.in-None.is c.entries_below.ensures;
      in_b = all-below _ _ _ c.in-None-entries_below.is c.entries_below-2.ensures;
      in_c = all-below _ _ _ c.in-None-entries_below-2.is c.entries_below-3.ensures;
      closing = record { a_below = c.if-m-close_a.false; b_below = c.if-m-close_b.false; c_below = c.if-m-close_c.false };
    })
