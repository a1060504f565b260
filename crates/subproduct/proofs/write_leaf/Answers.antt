-- `subproduct::write_leaf` meets its contract: four lists of three side by side are the leaf's. Assumes nothing.
use native.Mathlib.Omega.{arith}
use Rattle.subproduct.specs.Leaf.{leaf-written}
use Rattle.subproduct.proofs.write_leaf.Goals as goal

pub overflow_add-at-2 : goal.overflow_add-at-2
overflow_add-at-2 c =
    omega (arith, c.requires.room, c.well_formed)

pub overflow_add-at-3 : goal.overflow_add-at-3
overflow_add-at-3 c =
    omega (arith, c.requires.room, c.well_formed)

pub returns : goal.returns
returns c =
    leaf-written c.requires
    (rw c.new-modulus.ensures at c.combine-b0.ensures) (rw c.new-modulus.ensures at c.combine-b1.ensures)
    (rw c.new-modulus.ensures at c.combine-c0.ensures) (rw c.new-modulus.ensures at c.combine-c1.ensures) (rw c.new-modulus.ensures at c.combine-c2.ensures)
    c.store.ensures c.store-2.ensures c.store-3.ensures c.store-4.ensures
