-- `put_numbers` puts a list of numbers: the laws of `Listing` at the loop. Assumes nothing.
use native.Mathlib.Omega.{arith}
use Rattle.writer.specs.Entries.{listing-starts, listing-next}
use Rattle.writer.proofs.put_numbers.Goals as goal

pub loop-k-init : goal.loop-k-init
loop-k-init c = listing-starts _ _ _

pub loop-k-preserved : goal.loop-k-preserved
loop-k-preserved c =
    listing-next _ _ _ _ _ _ c.loop-k.invariant c.requires (omega arith) _ _ c.put_entry-next.ensures
