-- The measure of `put_number` is the number: it calls itself on the tens. Assumes nothing.
use Rattle.writer.proofs.+put_number.Given as goal

abbrev pub decreases-put_number : goal.decreases-put_number
decreases-put_number l = l.x
