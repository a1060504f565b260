-- `join_lists` joins place by place: the laws of `Joined` at the loop. Assumes nothing.
use mathlib.Core.Path.{◌∙◌}
use native.Mathlib.Omega.{arith}
use mir.Syntax.{w64}
use mir.ValLaws.{to_z-of_z}
use Rattle.join.specs.Joining.{rest-most, prepare, joined-starts, joined-next, joined-ends}
use Rattle.join.proofs.join_lists.Goals as goal

pub overflow_sub-big : goal.overflow_sub-big
overflow_sub-big c = rest-most _ _ _ c.requires.0

pub loop-i-init : goal.loop-i-init
loop-i-init c = joined-starts _ _ _ _ _

pub join_value-requires : goal.join_value-requires
join_value-requires c = rw c.new-modulus.ensures (
  prepare _ _ _ c.requires.0,
  c.requires.1.first_below _ (omega (arith, c.loop-i-test.true)),
  c.requires.1.second_below _ (omega (arith, c.loop-i-test.true)),
)

pub loop-i-preserved : goal.loop-i-preserved
loop-i-preserved c =
    joined-next _ _ _ _ _ _ _ c.loop-i.invariant _ (omega arith)
    (to_z-of_z w64 _ (record { sfits = c.join_value.type_inv }) ∙ rw c.new-modulus.ensures at c.join_value.ensures)

pub returns : goal.returns
returns c =
    joined-ends _ _ _ _ _ _ _ c.loop-i.invariant (omega arith) c.requires.1.first_long c.requires.1.second_long
