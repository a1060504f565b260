-- The loop of `put_numbers`: the numbers passed are put, with at most 11 bytes for each (`Listing`). Assumes nothing.
use Rattle.writer.specs.Entries.{Listing}
use Rattle.writer.proofs.put_numbers.Given as goal

abbrev pub invariant-loop-k : goal.invariant-loop-k
invariant-loop-k l = Listing l.initial.out l.at l.list l.out l.next l.k
