-- The two calls that put a list in another order: their tests in their order, and what they promise on every input.
--   order_tests n output  5: more than 128 numbers; 7: the output has another length
--   OrderCall             the promise of the call by a direction
-- Item 7 of the change requests. Assumes nothing.
use Rattle.std.specs.Prelude.{List, [], ◌∷◌, ℕ, ltb, length}
use Rattle.definitions.specs.Answers.{Converted}
use Rattle.definitions.specs.Refusals.{Test, Verdict, test, output_test}
use Rattle.storing.specs.Order.{arranged}
use Rattle.storing.specs.declared.Direction.{Direction}

abbrev pub most_entries : ℕ
most_entries = 128

unfoldable pub entry_count_test : ℕ → Test
entry_count_test n = test 5 (ltb most_entries n)

unfoldable pub order_tests : ℕ → ℕ → List Test
order_tests n output = entry_count_test n ∷ output_test n output ∷ []

-- xs: the list; v: what the answer says; output and output': the output before and after
abbrev pub OrderCall : Direction → List ℕ → Verdict → List ℕ → List ℕ → Type 0
OrderCall d xs v output output' = Converted (order_tests (length xs) (length output)) (arranged d xs) v output output'
