-- `expand_channel` lends the remainders of rows and curve to the plain core. Assumes nothing.
use Rattle.std.proofs.Common.{refl}
use Rattle.definitions.specs.Conversion.{expand}
use Rattle.plain.proofs.Taken.{written}
use Rattle.plain.specs.Input.{convert-lent, convert-asked}
use Rattle.expand_join.specs.Channel.{channel-input, channel-rows, channel-result}
use Rattle.expand_join.proofs.expand_channel.Goals as goal

pub invariant_of-family : goal.invariant_of-family
invariant_of-family c =
    let input = channel-input _ _ _ _ _ _ c.requires _ _ _ _ _ _ _ _ c.reduce_list.ensures c.reduce_list-2.ensures
    c.reduce_list-3.ensures c.reduce_list-4.ensures c.args.output.now refl in
    convert-lent input (channel-rows _ _ _ _ _ _ c.requires _ _ _)

pub expand-requires : goal.expand-requires
expand-requires c =
    let input = channel-input _ _ _ _ _ _ c.requires _ _ _ _ _ _ _ _ c.reduce_list.ensures c.reduce_list-2.ensures
    c.reduce_list-3.ensures c.reduce_list-4.ensures _ refl in
    convert-asked input (channel-rows _ _ _ _ _ _ c.requires _ _ _)

pub returns : goal.returns
returns c =
    let input = channel-input _ _ _ _ _ _ c.requires _ _ _ _ _ _ _ _ c.reduce_list.ensures c.reduce_list-2.ensures
    c.reduce_list-3.ensures c.reduce_list-4.ensures _ refl in
    channel-result _ _ _ _ _ _ c.requires _ _ _ _ _ _ _ _ c.reduce_list.ensures c.reduce_list-2.ensures
    c.reduce_list-3.ensures c.reduce_list-4.ensures _ _
    (written input (channel-rows _ _ _ _ _ _ c.requires _ _ _) expand c.expand.ensures)
