-- `norms_of` meets its contract: its core writes the norms over zeros. Assumes nothing.
use Rattle.std.proofs.Common.{◌≡◌, refl, ◌+◌, ◌-◌, arith}
use Rattle.lists.specs.Inverses.{inverts-long}
use Rattle.prepared_model.specs.Padding.{norms-padded}
use Rattle.preparing.proofs.norms_of.Goals as goal

pub returns : goal.returns
returns c a b inverts =
    let rows_are : c.args.count + 1 - 1 ≡ c.args.count = omega arith in
    norms-padded _ _ c.zeros-result.ensures _ _ a b _ _ refl (inverts-long inverts) (c.norms.ensures a b 1 1 (rw rows_are inverts))
