-- `invertible` finds the first entry without an inverse, and whether it is zero or shares a factor with m, or that there is none: at once
-- if the product of all has an inverse. Assumes nothing.
use mathlib.Core.Path.{subst}
use Rattle.definitions.specs.Number.{HasInverse}
use Rattle.residue.specs.Inversion.{inverted-found, inverted-absent, found-has, found-passes, absent-fails}
use Rattle.checks.specs.Passes.{passed-next, passed_first, passed-ends, all-by-product}
use Rattle.checks.proofs.invertible.Goals as goal

pub returns-in_default : goal.returns-in_default
returns-in_default c =
    all-by-product _ _ c.requires (subst (HasInverse _) c.running_product.ensures
    (found-has _ _ _ (inverted-found _ _ c.invert-whole.ensures c.in_default.is)))

pub returns-then-x-eq0 : goal.returns-then-x-eq0
returns-then-x-eq0 c =
    let absent = inverted-absent _ _ c.invert-inversion.ensures c.in-Err-inversion.is in
    let here = passed_first _ _ _ c.loop-i.invariant c.loop-i-test.true (absent-fails _ _ _ c.requires absent) in
    (here, c.if-x-eq0.true)

pub returns-in-Err-inversion : goal.returns-in-Err-inversion
returns-in-Err-inversion c =
    let absent = inverted-absent _ _ c.invert-inversion.ensures c.in-Err-inversion.is in
    let here = passed_first _ _ _ c.loop-i.invariant c.loop-i-test.true (absent-fails _ _ _ c.requires absent) in
    (here, record { not_zero = c.if-x-eq0.false; factor = absent.factor })

pub loop-i-preserved : goal.loop-i-preserved
loop-i-preserved c =
    passed-next _ _ _ c.loop-i.invariant c.loop-i-test.true
    (found-passes _ _ _ (inverted-found _ _ c.invert-inversion.ensures c.in_default-inversion.is))

pub returns : goal.returns
returns c = passed-ends _ _ _ c.loop-i.invariant c.loop-i-test.false
