-- `call` meets its promise: it answers the verdict of its tests, and its core writes the definition's list. Assumes nothing.
use Rattle.std.proofs.Common.{◌∙◌}
use Rattle.acceptance.specs.Promises.{tests-finish}
use Rattle.lists.specs.Lending.{accepted-lending}
use Rattle.lists.specs.Whole.{lent-family}
use Rattle.plain.proofs.Taken.{written}
use Rattle.plain.specs.Input.{convert-asked}
use Rattle.plain_calls.specs.PlainCall.{plain-input}
use Rattle.plain_calls.specs.PlainCore.{plain-core, plain-written}
use Rattle.plain_calls.proofs.call.Goals as goal

pub invariant_of-family : goal.invariant_of-family
invariant_of-family g c = accepted-lending (plain-input _ c.plain.ensures c.in_ok-plain.was).accepted

pub convert_front-requires : goal.convert_front-requires
convert_front-requires g c =
    let input = plain-input _ c.plain.ensures c.in_ok-plain.was in
    convert-asked (plain-core _ input) (lent-family input.accepted)

pub returns : goal.returns
returns g c =
    let input = plain-input _ c.plain.ensures c.in_ok-plain.was in
    tests-finish _ _ c.plain.ensures c.in_ok-plain.was
    (written (plain-core _ input) (lent-family input.accepted) g.C.Conversion.converted c.convert_front.ensures
    ∙ plain-written c.args.output.now input g.C.Conversion.converted)
