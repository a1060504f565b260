-- `put_number` puts a number in decimal: the tens first, by a call of itself, and then the last digit. Assumes nothing.
use native.Mathlib.Omega.{arith}
use Rattle.writer.specs.Entries.{put_small, put-large, large-inside}
use Rattle.writer.proofs.+put_number.Goals as goal

pub returns-then-x-lt10 : goal.returns-then-x-lt10
returns-then-x-lt10 t c = put_small _ _ _ (omega arith) c.if-x-lt10.true

pub bounds-out-next : goal.bounds-out-next
bounds-out-next t c =
    omega (arith, large-inside _ _ _ (omega arith) c.if-x-lt10.false (omega arith) _ _ c.put_number-next.ensures)

pub returns : goal.returns
returns t c =
    put-large _ _ _ (omega arith) c.if-x-lt10.false (omega arith) _ _ c.put_number-next.ensures
