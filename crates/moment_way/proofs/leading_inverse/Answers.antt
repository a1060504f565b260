-- `leading_inverse` meets its contract: the laws of `Multiplied` at the loop. Assumes nothing.
use Rattle.std.specs.Prelude.{ℕ, ◌≡◌, ◌+◌, ◌-◌}
use Rattle.std.proofs.Common.{arith}
use Rattle.moment_way.specs.Moments.{multiplied-starts, multiplied-next, multiplied-ends}
use Rattle.moment_way.proofs.leading_inverse.Goals as goal

same : (k : ℕ) → k + 1 - 1 ≡ k
same k = omega arith

pub loop-i-init : goal.loop-i-init
loop-i-init c = multiplied-starts

pub loop-i-preserved : goal.loop-i-preserved
loop-i-preserved c =
    multiplied-next c.loop-i.invariant c.loop-i-test.true (rw (same _) c.row_entry-factor.ensures)
    (rw c.new-modulus.ensures at c.product-result.ensures)

pub returns : goal.returns
returns c = rw (same _) at (multiplied-ends c.loop-i.invariant c.loop-i-test.false)
