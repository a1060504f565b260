-- `number_line` reads a line of one number: its key, the number, byte 10. Assumes nothing.
use Rattle.std.proofs.Math.Path.{subst⁻¹}
use Rattle.reader.specs.Lines.{Numbered, number-none, number-wrong, number-open, number-ended}
use Rattle.reader.proofs.number_line.Goals as goal

pub returns-then-not-has_key : goal.returns-then-not-has_key
returns-then-not-has_key c =
    number-none c.args.text.now c.args.at _ c.requires
    _ c.has_key.ensures c.if-not-has_key.true

pub returns-in_err-number : goal.returns-in_err-number
returns-in_err-number c =
    subst⁻¹ (Numbered _ _) c.from_residual.ensures
    (number-wrong c.args.text.now c.args.at _ c.requires
    _ c.has_key.ensures c.if-not-has_key.false
    _ c.read_number.ensures c.in_err-number.was)

pub returns-then-not-has_key-2 : goal.returns-then-not-has_key-2
returns-then-not-has_key-2 c =
    number-open c.args.text.now c.args.at _ c.requires
    _ c.has_key.ensures c.if-not-has_key.false
    _ c.read_number.ensures _ _ c.in_ok-number.was
    _ c.has_key-2.ensures c.if-not-has_key-2.true

pub returns : goal.returns
returns c =
    number-ended c.args.text.now c.args.at _ c.requires
    _ c.has_key.ensures c.if-not-has_key.false
    _ c.read_number.ensures _ _ c.in_ok-number.was
    _ c.has_key-2.ensures c.if-not-has_key-2.false
