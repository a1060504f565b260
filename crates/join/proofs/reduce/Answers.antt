-- `reduce` answers the remainder: of x below 0 by the number k with x = -(k + 1). Assumes nothing.
use native.Mathlib.Nat.{mod-lt}
use native.Mathlib.Omega.{arith}
use lib.Signed.{mag}
use Rattle.join.specs.Reducing.{flipped, flipped_word, reduced-negative, positive-word, reduced-positive}
use Rattle.join.proofs.reduce.Goals as goal

pub overflow_sub-k : goal.overflow_sub-k
overflow_sub-k c = rw (flipped c.args.x c.ranges.x c.if-x-lt0.true) (record { sfits = c.ranges.x.sfits })

pub overflow_cast-k : goal.overflow_cast-k
overflow_cast-k c =
    rw (flipped_word c.args.x c.ranges.x c.if-x-lt0.true)
    (tt, record { fits = omega (arith, c.ranges.x.sfits) })

pub overflow_sub-result-then-x-lt0 : goal.overflow_sub-result-then-x-lt0
overflow_sub-result-then-x-lt0 c =
    rw (flipped_word c.args.x c.ranges.x c.if-x-lt0.true)
    (omega (arith, mod-lt (mag c.args.x) c.requires))

pub returns-then-x-lt0 : goal.returns-then-x-lt0
returns-then-x-lt0 c =
    rw (flipped_word c.args.x c.ranges.x c.if-x-lt0.true)
    (reduced-negative c.args.x c.ranges.x c.if-x-lt0.true c.args.m c.requires)

pub overflow_cast-result : goal.overflow_cast-result
overflow_cast-result c =
    rw (positive-word c.args.x c.ranges.x c.if-x-lt0.false)
    (tt, record { fits = omega (arith, c.ranges.x.sfits) })

pub returns : goal.returns
returns c =
    rw (positive-word c.args.x c.ranges.x c.if-x-lt0.false)
    (reduced-positive c.args.x c.ranges.x c.if-x-lt0.false c.args.m)
