-- `balance` answers the number of the range: its size is the lesser of u and what u lacks, negated above the half. Assumes nothing.
use Rattle.join.proofs.Joining.{size_fits, negated_fits, balance-negated, balance-kept}
use Rattle.std.specs.Prelude.{◌≡◌, ℕ}
use Rattle.std.proofs.Common.{arith, min}
use Rattle.reduction.specs.Reciprocal.{LesserOf}
use Rattle.join.proofs.balance.Goals as goal

lesser : {x y r : ℕ} → r ≡ min x y → LesserOf x y r
lesser e = record { first = λ l. omega arith; second = λ l. omega arith }

pub overflow_cast-size : goal.overflow_cast-size
overflow_cast-size c = size_fits _ _ _ c.requires (lesser c.min-size.ensures)

pub overflow_sub-result : goal.overflow_sub-result
overflow_sub-result c = negated_fits _ _ _ c.requires (lesser c.min-size.ensures) c.if-whole-u.true

pub returns-then-whole-u : goal.returns-then-whole-u
returns-then-whole-u c = balance-negated _ _ _ c.requires (lesser c.min-size.ensures) c.if-whole-u.true

pub returns-else-whole-u : goal.returns-else-whole-u
returns-else-whole-u c = balance-kept _ _ _ c.requires (lesser c.min-size.ensures) c.if-whole-u.false
