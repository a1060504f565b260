-- `tree::root_pair` meets its contract: the curve stands, behind the pair F_1 and the curve from its second entry on, and between them
-- the transposed product. Assumes nothing.
use Rattle.std.proofs.Common.{arith}
use Rattle.tree.proofs.Taken.{pair-curve, whole-pair}
use Rattle.tree.specs.RootPair.{pair-stretch, pair-store, pair-onward, pair-places, pair-output}
use Rattle.tree.proofs.root_pair.Goals as goal

pub stretch-requires : goal.stretch-requires
stretch-requires c = pair-stretch c.requires

pub store-requires : goal.store-requires
store-requires c =
    (omega arith, pair-store c.requires (rw (← pair-curve c.requires) at c.stretch.ensures))

pub stretch-requires-2 : goal.stretch-requires-2
stretch-requires-2 c =
    pair-onward c.requires (rw (← pair-curve c.requires) at c.stretch.ensures) c.store.ensures

pub transposed-requires : goal.transposed-requires
transposed-requires c =
    pair-places c.requires (rw (← pair-curve c.requires) at c.stretch.ensures) c.store.ensures (rw (← pair-curve c.requires) at c.stretch-2.ensures)

pub returns : goal.returns
returns c =
    whole-pair (pair-output c.requires (rw (← pair-curve c.requires) at c.stretch.ensures) c.store.ensures
    (rw (← pair-curve c.requires) at c.stretch-2.ensures) c.transposed.ensures)
