-- `prepare` hands out the record of the family of the rows: what is stored beside them is worked out from them. Assumes nothing.
use Rattle.prepared_model.specs.Preparing.{prepared-inverts, prepared-is}
use Rattle.prepared.proofs.prepare.Goals as goal

pub returns : goal.returns
returns c =
    prepared-is c.requires c.inverses_of-a_inverses.ensures c.inverses_of-c_inverses.ensures
    (c.norms_of-norms.ensures _ _ (prepared-inverts c.requires c.inverses_of-a_inverses.ensures))
