-- The loop of `answer_input`: each list keeps its length, and what is kept of the open line lies within its list and has no byte 10.
-- Assumes nothing.
use mathlib.Core.Path.{◌≡◌}
use Prim.Native.Nat.{◌≤◌}
use lib.ListN.{length, take}
use Rattle.lines.specs.Determining.{Unbroken}
use Rattle.store.proofs.answer_input.Given as goal

abbrev pub invariant-loop : goal.invariant-loop
invariant-loop g l =
    (l.kept ≤ 8193) × (length l.before ≡ 8193) × (length l.line ≡ 8193) × (length l.out ≡ 136588) × (length l.piece ≡ 4096)
    × Unbroken (take l.kept l.before)
