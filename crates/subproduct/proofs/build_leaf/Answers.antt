-- `subproduct::build_leaf` meets its contract: the two rows that are read are those of the leaf. Assumes nothing.
use Rattle.subproduct.proofs.Lent.{whole_leaf-input, whole_leaf-stored}
use Rattle.subproduct.proofs.build_leaf.Goals as goal

pub write_leaf-requires : goal.write_leaf-requires
write_leaf-requires c =
    whole_leaf-input c.family.invariant (rw (← c.family.view_is) at c.requires)
    c.entry-pa.ensures c.entry-pb.ensures c.entry-pc.ensures
    c.entry-qa.ensures c.entry-qb.ensures c.entry-qc.ensures

pub returns : goal.returns
returns c = rw (← c.family.view_is)
    (whole_leaf-stored c.family.invariant (rw (← c.family.view_is) at c.requires)
    c.entry-pa.ensures c.entry-pb.ensures c.entry-pc.ensures
    c.entry-qa.ensures c.entry-qb.ensures c.entry-qc.ensures
    c.write_leaf.ensures)
