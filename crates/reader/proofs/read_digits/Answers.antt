-- `read_digits` reads the digits that go on a number: the laws of `Digits` at the loop. Assumes nothing.
use Rattle.std.proofs.Common.{◌∙◌, arith}
use Rattle.texts.specs.DecimalReading.{digit-below, digit-above}
use Rattle.reader.specs.Digits.{digits-large, digits-end, digits-on, digits-all}
use Rattle.reader.proofs.read_digits.Goals as goal

pub returns-in_err-checked_mul-in-48-to-57 : goal.returns-in_err-checked_mul-in-48-to-57
returns-in_err-checked_mul-in-48-to-57 c =
    c.from_residual.ensures ∙ digits-large _ _ _ _ _ c.loop-i.invariant c.loop-i-test.true (omega arith) (omega arith)
    (omega arith)

pub returns-in_err-value-in-48-to-57 : goal.returns-in_err-value-in-48-to-57
returns-in_err-value-in-48-to-57 c =
    c.from_residual-in_err-value-in-48-to-57.ensures ∙ digits-large _ _ _ _ _ c.loop-i.invariant c.loop-i-test.true (omega arith) (omega arith)
    (omega arith)

pub returns-in_default : goal.returns-in_default
returns-in_default c =
    digits-end _ _ _ _ _ c.loop-i.invariant c.loop-i-test.true (digit-below _ (omega arith))

pub returns-in_default-2 : goal.returns-in_default-2
returns-in_default-2 c =
    digits-end _ _ _ _ _ c.loop-i.invariant c.loop-i-test.true (digit-above _ (omega arith))

pub loop-i-preserved : goal.loop-i-preserved
loop-i-preserved c =
    digits-on _ _ _ _ _ c.loop-i.invariant c.loop-i-test.true (omega arith) (omega arith) _
    (omega arith) (omega arith)

pub returns : goal.returns
returns c = digits-all _ _ _ _ _ c.loop-i.invariant (omega arith)
