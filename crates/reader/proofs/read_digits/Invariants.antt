-- The loop of `read_digits`: reading on from here, with the value so far, is reading from where it began (`Digits`). Assumes nothing.
use Rattle.reader.specs.Digits.{Digits}
use Rattle.reader.proofs.read_digits.Given as goal

abbrev pub invariant-loop-i : goal.invariant-loop-i
invariant-loop-i l = Digits l.text l.at l.first l.value l.i
