-- `decompose_row` meets its contract: the laws of `DecomposeRow` at the loop. Assumes nothing.
use Rattle.row_steps.specs.DecomposeRow.{multiplying-starts, multiplying-summands, multiplying-next}
use Rattle.row_steps.proofs.decompose_row.Goals as goal

pub loop-i-init : goal.loop-i-init
loop-i-init c = multiplying-starts _ _ _ _ _ _ _ c.requires

pub combine-v-requires : goal.combine-v-requires
combine-v-requires c = rw c.new-modulus.ensures (
    multiplying-summands _ _ _ _ _ _ _ c.requires _ _ _ _ _
    c.loop-i-test.true c.loop-i.invariant _ _
    c.entry-above.ensures c.entry-next.ensures)

pub loop-i-preserved : goal.loop-i-preserved
loop-i-preserved c =
    multiplying-next _ _ _ _ _ _ _ c.requires _ _ _ _ _
    c.loop-i-test.true c.loop-i.invariant _ _
    c.entry-above.ensures c.entry-next.ensures _ (rw c.new-modulus.ensures at c.combine-v.ensures)
