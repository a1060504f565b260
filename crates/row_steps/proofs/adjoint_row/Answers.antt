-- `adjoint_row` meets its contract: the laws of `AdjointRow` at the loop. Assumes nothing.
use Rattle.row_steps.specs.AdjointRow.{adjoint-row-starts, adjoint-row-summands, adjoint-row-next}
use Rattle.row_steps.proofs.adjoint_row.Goals as goal

pub loop-i-init : goal.loop-i-init
loop-i-init c = adjoint-row-starts _ _ _ _ _ _ _ c.requires.0

pub combine-v-requires : goal.combine-v-requires
combine-v-requires c = rw c.new-modulus.ensures (
    adjoint-row-summands _ _ _ _ _ _ _ c.requires.0 _ _ _
    c.loop-i-test.true c.loop-i.invariant)

pub loop-i-preserved : goal.loop-i-preserved
loop-i-preserved c =
    adjoint-row-next _ _ _ _ _ _ _ c.requires.0 _ _ _
    c.loop-i-test.true c.loop-i.invariant _ (rw c.new-modulus.ensures at c.combine-v.ensures)
