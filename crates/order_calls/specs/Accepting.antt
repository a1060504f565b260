-- On which input the calls that put a list in another order finish.
--   OrderInput n output   at most 128 numbers, and an output as long
-- Proved: they finish on that input and on no other (order-finished), and hand out the list in its order then (order-hands).
-- Assumes nothing.
use Rattle.std.specs.Prelude.{false, List, [], ◌↔◌, ◌≡◌, ℕ, ◌≤◌, length}
use Rattle.std.proofs.Math.Logic.Iff
use Rattle.std.proofs.Common.{◌∙◌, ap, le-ltb, ltb-false}
use Rattle.definitions.specs.Answers.{after}
use Rattle.definitions.specs.Refusals.{Verdict, finished, verdict}
use Rattle.acceptance.specs.Verdicts.{None, output-passes, verdict-finished}
use Rattle.storing.specs.Calls.{most_entries, entry_count_test, order_tests, OrderCall}
use Rattle.storing.specs.Order.{arranged}
use Rattle.storing.specs.declared.Direction.{Direction}

pub record OrderInput (n output : ℕ) : Type 0 where
  pub few : n ≤ most_entries
  pub output_length : output ≡ n

pub entry-count-passes : (n : ℕ) → ((entry_count_test n).holds ≡ false) ↔ (n ≤ most_entries)
unfolding entry_count_test
entry-count-passes n = (ltb-false most_entries n, le-ltb most_entries n)

pub order-passes : (n output : ℕ) → None (order_tests n output) ↔ OrderInput n output
unfolding order_tests
order-passes n output = (
  λ (e5, (e7, done)). record { few = (entry-count-passes n).0 e5; output_length = (output-passes n output).0 e7 },
  λ p. ((entry-count-passes n).1 p.few, ((output-passes n output).1 p.output_length, tt)),
)

pub order-finished : (n output : ℕ) → (verdict (order_tests n output) [] ≡ finished []) ↔ OrderInput n output
order-finished n output = Iff.trans (verdict-finished (order_tests n output) []) (order-passes n output)

-- what is handed out then
pub order-hands : (d : Direction) (xs : List ℕ) (v : Verdict) (output output' : List ℕ) → OrderCall d xs v output output'
    → OrderInput (length xs) (length output) → output' ≡ arranged d xs
order-hands d xs v output output' call input =
    call.written ∙ ap (λ w. after w (arranged d xs) output) (call.answer ∙ (order-finished (length xs) (length output)).1 input)
