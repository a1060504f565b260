-- `join_value` answers the joined value: the balanced lift, whose products and sums fit 64 bits. Assumes nothing.
use mathlib.Core.Path.{◌∙◌}
use mir.Syntax.{w64}
use mir.ValLaws.{to_z-of_z}
use Rattle.join.proofs.Joining.{gap-fits, whole-fits, step_fits, lift-fits, lift-balances, joined_is}
use Rattle.join.proofs.join_value.Goals as goal

pub overflow_mul-gap : goal.overflow_mul-gap
overflow_mul-gap c = gap-fits _ _ _ _ c.requires.0 _ _ c.requires.1 c.requires.2

pub overflow_mul-m1 : goal.overflow_mul-m1
overflow_mul-m1 c = whole-fits _ _ _ _ c.requires.0

pub overflow_mul-m1-2 : goal.overflow_mul-m1-2
overflow_mul-m1-2 c = step_fits _ _ _ _ c.requires.0 _ _ c.requires.1 c.requires.2 _ c.remainder-times.ensures

pub overflow_add-x : goal.overflow_add-x
overflow_add-x c = lift-fits _ _ _ _ c.requires.0 _ _ c.requires.1 c.requires.2 _ c.remainder-times.ensures

pub balance-requires : goal.balance-requires
balance-requires c = lift-balances _ _ _ _ c.requires.0 _ _ c.requires.1 c.requires.2 _ c.remainder-times.ensures

pub returns : goal.returns
returns c =
    to_z-of_z w64 c.balance.result (record { sfits = c.balance.type_inv })
    ∙ joined_is _ _ _ _ c.requires.0 _ _ c.requires.1 c.requires.2 _ c.remainder-times.ensures _
    c.balance.ensures
