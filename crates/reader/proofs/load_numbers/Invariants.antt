-- The loop of `load_numbers`: reading on from here, with the numbers loaded before it, is reading from where the list began (`Loading`).
-- The measure is what is left of the text. Assumes nothing.
use Prim.Native.Nat.{◌-◌}
use lib.ListN.{length}
use Rattle.reader.proofs.Loading.{Loading}
use Rattle.reader.proofs.load_numbers.Given as goal

abbrev pub invariant-loop-i : goal.invariant-loop-i
invariant-loop-i l = Loading l.text l.at l.initial.out l.out l.count l.i

abbrev pub decreases-loop-i : goal.decreases-loop-i
decreases-loop-i l = length l.text - l.i
