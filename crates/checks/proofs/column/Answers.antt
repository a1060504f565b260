-- `column` answers the verdict of the two tests of a column: a pass over the list finds the lowest without an inverse, or the closing number
-- is looked at. Assumes nothing.
use native.Mathlib.Omega.{arith}
use Rattle.residue.specs.Inversion.{inverted-found, inverted-absent, found-has, absent-fails}
use Rattle.checks.specs.Columns.{pass-zero, pass-shared, closing-zero, closing-shared, closing-passes}
use Rattle.checks.proofs.column.Goals as goal

pub returns-in_default-reason : goal.returns-in_default-reason
returns-in_default-reason g c = λ number.
    pass-zero _ _ _ _ _ _ _ c.requires.0 _ c.saturating_sub.ensures c.requires.1 _ c.invertible-factors.ensures _ _
    c.in-Some.is c.in_default-reason.is

pub returns-in-Some : goal.returns-in-Some
returns-in-Some g c = λ number.
    pass-shared _ _ _ _ _ _ _ c.requires.0 _ c.saturating_sub.ensures c.requires.1 _ c.invertible-factors.ensures
    _ _ _ c.in-Some.is c.in-Shared.is

pub returns-then-r-first : goal.returns-then-r-first
returns-then-r-first g c = λ number.
    closing-passes _ _ _ _ _ _ _ c.requires.0 _ c.saturating_sub.ensures c.requires.1 _
    c.invertible-factors.ensures c.in_default.is (λ l. absurd (omega arith))

pub returns-in_default-invert : goal.returns-in_default-invert
returns-in_default-invert g c = λ number.
    closing-passes _ _ _ _ _ _ _ c.requires.0 _ c.saturating_sub.ensures c.requires.1 _
    c.invertible-factors.ensures c.in_default.is
    (λ l. found-has _ _ _ (inverted-found _ _ c.invert.ensures c.in_default-invert.is))

pub returns-then-close-eq0 : goal.returns-then-close-eq0
returns-then-close-eq0 g c = λ number.
    closing-zero _ _ _ _ _ _ _ c.requires.0 _ c.saturating_sub.ensures c.requires.1 _ c.invertible-factors.ensures
    c.in_default.is c.if-r-first.false (absent-fails _ _ _ c.requires.0
    (inverted-absent _ _ c.invert.ensures c.in-Err.is)) c.if-close-eq0.true

pub returns : goal.returns
returns g c = λ number.
    closing-shared _ _ _ _ _ _ _ c.requires.0 _ c.saturating_sub.ensures c.requires.1 _ c.invertible-factors.ensures
    c.in_default.is c.if-r-first.false (absent-fails _ _ _ c.requires.0
    (inverted-absent _ _ c.invert.ensures c.in-Err.is)) c.if-close-eq0.false
