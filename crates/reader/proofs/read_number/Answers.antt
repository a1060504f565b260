-- `read_number` reads the number at a place: 0 alone, or a first digit and those that go on it. Assumes nothing.
use Rattle.std.proofs.Common.{sym, ◌∙◌, ap, arith, length, drop, ◌+◌}
use Rattle.texts.specs.DecimalReading.{digit-below, digit-above}
use Rattle.reader.specs.Places.{placed}
use Rattle.reader.specs.Digits.{number_past, number-other, number-nought, number-first}
use Rattle.definitions.specs.Reading.{read_digits}
use Rattle.reader.proofs.Keys.{byte-at, no_byte}
use Rattle.reader.proofs.read_number.Goals as goal

pub returns-in_err-b : goal.returns-in_err-b
returns-in_err-b c = c.from_residual.ensures ∙ sym (ap (placed _) (number_past _ _ (no_byte _ _ c.in_err-b.ensures.lookup.0)))

pub returns-in-48 : goal.returns-in-48
returns-in-48 c =
    let byte = byte-at _ _ _ c.in_ok-b.ensures.lookup.0 c.in_ok-b.ensures.lookup.1 in
    number-nought _ _ byte.inside (byte.is ∙ c.in-48.is)

pub returns-in-49-to-57 : goal.returns-in-49-to-57
returns-in-49-to-57 c =
    let byte = byte-at _ _ _ c.in_ok-b.ensures.lookup.0 c.in_ok-b.ensures.lookup.1 in
    c.read_digits.ensures
    ∙ ap (λ x. placed (length c.args.text.now) (read_digits x (drop (c.args.at + 1) c.args.text.now))) (omega (arith, c.from.ensures, byte.is))
    ∙ sym (ap (placed _) (number-first c.args.text.now c.args.at byte.inside (omega (arith, byte.is)) (omega (arith, byte.is))))

pub returns-in_default : goal.returns-in_default
returns-in_default c =
    let byte = byte-at _ _ _ c.in_ok-b.ensures.lookup.0 c.in_ok-b.ensures.lookup.1 in
    sym (ap (placed _) (number-other _ _ byte.inside (digit-below _ (omega (arith, byte.is, c.in_default.in_default-own.rest.1)))))

pub returns-in_default-2 : goal.returns-in_default-2
returns-in_default-2 c =
    let byte = byte-at _ _ _ c.in_ok-b.ensures.lookup.0 c.in_ok-b.ensures.lookup.1 in
    sym (ap (placed _) (number-other _ _ byte.inside (digit-above _ (omega (arith, byte.is)))))
