-- `convolution::with_pairs` meets its contract: the laws of `Pairs` at the loop. Assumes nothing.
use Rattle.std.proofs.Common.{◌≡◌, ◌+◌, ◌*◌, ◌%◌, add-zero, arith}
use Rattle.convolution.proofs.Steps.{pairs_start, pairs_next, pairs_end}
use Rattle.convolution.proofs.with_pairs.Goals as goal

pub loop-t-init : goal.loop-t-init
loop-t-init c = rw (add-zero (c.args.end % 2)) (pairs_start c.requires c.with_first-sum.ensures)

pub loop-t-preserved : goal.loop-t-preserved
loop-t-preserved c =
    let next : c.args.end % 2 + 2 * c.loop-t.t + 2 ≡ c.args.end % 2 + 2 * (c.loop-t.t + 1) = omega arith in
    rw (← next) (pairs_next c.requires c.with_first-sum.ensures c.loop-t.invariant (omega arith)
    c.two_pairs-x.ensures c.plus-sum.ensures)

pub returns : goal.returns
returns c =
    pairs_end c.requires c.with_first-sum.ensures c.loop-t.invariant (omega arith)
