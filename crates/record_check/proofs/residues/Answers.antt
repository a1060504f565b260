-- `residues` meets its contract: a pass over the front, and one over what is behind. Assumes nothing.
use mathlib.Core.Path.{refl, sym}
use lib.Seq.{length-take-le}
use Rattle.checks.specs.RowTests.{all-below, one-not-below}
use Rattle.record_check.specs.Findings.{says-no, front-passes, behind-passes}
use Rattle.record_check.proofs.residues.Goals as goal

pub slice_bounds-entries_below-end : goal.slice_bounds-entries_below-end
slice_bounds-entries_below-end c = sym (length-take-le _ _ c.requires.1)

pub returns-in_default : goal.returns-in_default
returns-in_default c =
    let front = front-passes _ c.args.list.now c.requires.1 _ in
    says-no (λ kept. one-not-below _ _ _ _ c.in_default.is c.entries_below.ensures (front.1 kept.below))

pub returns-in_default-entries_below : goal.returns-in_default-entries_below
returns-in_default-entries_below c =
    let behind = behind-passes _ c.args.list.now c.requires.1 in
    says-no (λ kept. one-not-below _ _ _ _ c.in_default-entries_below.is c.entries_below-2.ensures (behind.1 kept.zeros))

pub returns : goal.returns
returns c =
    let front = all-below _ _ _ c.in-None.is c.entries_below.ensures in
    let behind = all-below _ _ _ c.in-None-entries_below.is c.entries_below-2.ensures in (
      λ _. record {
        below = (front-passes _ c.args.list.now c.requires.1 _).0 front;
        zeros = (behind-passes _ c.args.list.now c.requires.1).0 behind;
      },
      λ _. refl,
    )
