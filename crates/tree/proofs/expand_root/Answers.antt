-- `tree::expand_root` meets its contract: each entry that is written is the root's at its place. Assumes nothing.
use native.Mathlib.Omega.{arith}
use Rattle.numbers.specs.Lists.{filling-start, filling-next}
use Rattle.tree.specs.Root.{root-coefficient}
use Rattle.tree.proofs.Taken.{root-whole}
use Rattle.tree.proofs.expand_root.Goals as goal

pub new-modulus-requires : goal.new-modulus-requires
new-modulus-requires c = omega (arith, c.requires.modulus.least)

pub loop-k-init : goal.loop-k-init
loop-k-init c = filling-start

pub root_coefficient-requires : goal.root_coefficient-requires
root_coefficient-requires c =
    rw c.new-modulus.ensures (root-coefficient c.requires c.loop-k-test.true)

pub loop-k-preserved : goal.loop-k-preserved
loop-k-preserved c =
    filling-next c.loop-k.invariant (omega arith) (rw c.new-modulus.ensures at c.root_coefficient.ensures)

pub shape_of-output : goal.shape_of-output
shape_of-output c = c.loop-k.invariant.same_length

pub returns : goal.returns
returns c = root-whole c.requires (omega arith) c.loop-k.invariant
