-- `moduli` answers the verdict of the three tests, or the inverse. Assumes nothing.
use Rattle.residue.specs.Inversion.{inverted-found, inverted-absent}
use Rattle.join_calls.specs.Pairs.{pair_found, pair-shares}
use Rattle.join_calls.proofs.moduli.Goals as goal

pub returns-in-Ok : goal.returns-in-Ok
returns-in-Ok c =
    pair_found _ _ _ c.modulus.ensures c.in_ok-modulus.was _ c.modulus-2.ensures
    c.in_ok-modulus-2.was _ (inverted-found _ _ c.invert.ensures c.in-Ok.is)

pub returns-in-Err : goal.returns-in-Err
returns-in-Err c =
    pair-shares _ _ _ c.modulus.ensures c.in_ok-modulus.was _ c.modulus-2.ensures
    c.in_ok-modulus-2.was _ (inverted-absent _ _ c.invert.ensures c.in-Err.is)
