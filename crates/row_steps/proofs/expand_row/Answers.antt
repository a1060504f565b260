-- `expand_row` meets its contract: the laws of `ExpandRow` at the loop. Assumes nothing.
use Rattle.row_steps.specs.ExpandRow.{expand-row-starts, expand-row-summands, expand-row-next}
use Rattle.row_steps.proofs.expand_row.Goals as goal

pub loop-i-init : goal.loop-i-init
loop-i-init c = expand-row-starts _ _ _ _ _ _ _ _ c.requires

pub combine-v-requires : goal.combine-v-requires
combine-v-requires c = rw c.new-modulus.ensures (
    expand-row-summands _ _ _ _ _ _ _ _ c.requires _ _ _ _ _
    c.loop-i-test.true c.loop-i.invariant)

pub loop-i-preserved : goal.loop-i-preserved
loop-i-preserved c =
    expand-row-next _ _ _ _ _ _ _ _ c.requires _ _ _ _ _
    c.loop-i-test.true c.loop-i.invariant _ (rw c.new-modulus.ensures at c.combine-v.ensures)
