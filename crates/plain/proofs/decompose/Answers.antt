-- `decompose` meets its contract: the laws of `Decomposing` at the loop. Assumes nothing.
use Rattle.std.proofs.Common.{subst}
use Rattle.plain.specs.Decomposing.{Decomposes, tables-filled, decomposing-starts}
use Rattle.plain.proofs.Decomposing.{decompose-step-input, decompose-step, decompose-ends}
use Rattle.plain.proofs.Taken.{taken, listed, decomposed}
use Rattle.plain.proofs.decompose.Goals as goal

pub loop-i-init : goal.loop-i-init
loop-i-init c = (
  tables-filled c.zeros-rise.ensures c.zeros-stay.ensures c.zeros-fall.ensures c.copy.ensures
      (rw (listed _ _ c.inverted.invariant.b_length) at c.negative_products.ensures)
      (rw (listed _ _ c.inverted.invariant.c_length) at c.negative_products-2.ensures),
  decomposing-starts c.zeros-current.ensures,
)

pub decompose_row-requires : goal.decompose_row-requires
decompose_row-requires c =
    decompose-step-input (taken (rw (← c.inverted.view_is) at c.requires)) c.loop-i.invariant.0 c.loop-i-test.true c.loop-i.invariant.1

pub loop-i-preserved : goal.loop-i-preserved
loop-i-preserved c = (
  c.loop-i.invariant.0,
  decompose-step (taken (rw (← c.inverted.view_is) at c.requires)) c.loop-i.invariant.0 c.loop-i-test.true c.loop-i.invariant.1
      c.decompose_row.ensures,
)

pub returns : goal.returns
returns c =
    let left = decompose-ends (taken (rw (← c.inverted.view_is) at c.requires)) c.loop-i-test.false c.loop-i.invariant.1 c.copy-2.ensures in
    subst (λ f. Decomposes f c.args.coefficients.now c.args.output.now c.copy-2.new.to) c.inverted.view_is (decomposed _ _ c.inverted.invariant left)
