-- The loop of `by_appends`: the record is that of the rows appended so far, and these are accepted (`Grown`). Assumes
-- nothing.
use Rattle.prepared.specs.Held.{held}
use Rattle.prepared_laws.specs.Growing.{Grown}
use Rattle.prepared_laws.proofs.by_appends.Given as goal

abbrev pub invariant-loop-i : goal.invariant-loop-i
invariant-loop-i l = Grown l.m l.a l.b l.c l.i (held l.family)
