-- `inverse` keeps the promise of Inverse: the number, the inverse and the factor. Assumes nothing.
use Rattle.residue.specs.Inversion.{inverted-found, inverted-absent}
use Rattle.verdicts.specs.Inverting.{handed-on, outside-refused, above-refused, inverse-found, inverse-absent}
use Rattle.verdicts.proofs.inverse.Goals as goal

pub returns-in_err-modulus : goal.returns-in_err-modulus
returns-in_err-modulus c =
    handed-on _ _ _ _ c.from_residual.ensures.1 (outside-refused _ _ _ c.modulus.ensures _ c.in_err-modulus.was)

pub returns-in_err-number_below : goal.returns-in_err-number_below
returns-in_err-number_below c =
    handed-on _ _ _ _ c.from_residual-in_err-number_below.ensures.1
    (above-refused _ _ _ c.modulus.ensures c.in_ok-modulus.was _ c.number_below.ensures _ c.in_err-number_below.was)

pub returns-in-Ok : goal.returns-in-Ok
returns-in-Ok c =
    inverse-found _ _ _ c.modulus.ensures c.in_ok-modulus.was _ c.number_below.ensures
    c.in_ok-number_below.was _ (inverted-found _ _ c.invert.ensures c.in-Ok.is)

pub returns-in-Err : goal.returns-in-Err
returns-in-Err c =
    inverse-absent _ _ _ c.modulus.ensures c.in_ok-modulus.was _ c.number_below.ensures
    c.in_ok-number_below.was _ (inverted-absent _ _ c.invert.ensures c.in-Err.is)
