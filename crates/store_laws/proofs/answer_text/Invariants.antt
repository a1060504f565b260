-- The loop of `answer_text`: what is printed for the lines that end in the front of the text is printed (`Stage`). The measure is the
-- number of pieces that are left. Assumes nothing.
use mathlib.Core.Path.{◌≡◌}
use Prim.Native.Nat.{suc, ◌-◌, ◌≤◌}
use lib.ListN.{length}
use Rattle.store_laws.specs.Printing.{Stage}
use Rattle.store_laws.proofs.answer_text.Given as goal

abbrev pub invariant-loop-k : goal.invariant-loop-k
invariant-loop-k l =
    Stage l.text (length l.sizes) l.before l.kept l.out l.n l.at l.k × (l.k ≤ suc (length l.sizes))
    × (length l.out ≡ length l.initial.out) × (length l.line ≡ 8193) × (length l.before ≡ length l.initial.before)

abbrev pub decreases-loop-k : goal.decreases-loop-k
decreases-loop-k l = suc (length l.sizes) - l.k
