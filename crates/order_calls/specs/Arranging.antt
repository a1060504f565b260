-- How the calls that put a list in another order meet their promise.
-- Proved: the index that `source` computes; the list that is filled by it is the one in its order; 5, and what remains after it; what
-- the call was lent where its tests pass, and what it keeps of its promise there and where one refuses.
-- Assumes nothing.
use mathlib.Core.List.{List, [], ◌∷◌, ◌++◌, append-nil}
use Rattle.std.specs.Prelude.{◌≡◌, ℕ, ◌+◌, ◌*◌, ◌-◌, ◌/◌, ◌%◌, ◌<◌, ◌≤◌, length, get_or, set, Ok, Err}
use Rattle.std.proofs.Math.Path.{sym}
use Rattle.std.proofs.Common.{◌∙◌, ap, arith, drop_of_length-le, lt-ltb, le-ltb}
use Rattle.definitions.specs.Answers.{Answer, answered}
use Rattle.definitions.specs.Number.{table}
use Rattle.definitions.specs.Refusals.{finished, refused, verdict, output_test}
use Rattle.acceptance.specs.Stages.{Remaining, all-remain, none-remain, stage-none, list-stays}
use Rattle.acceptance.specs.Verdicts.{verdict-here}
use Rattle.numbers.specs.Lists.{filled, Filling, filling-next, filling-stop}
use Rattle.storing.specs.Calls.{most_entries, entry_count_test, order_tests, OrderCall}
use Rattle.storing.specs.Order.{half, arranged}
use Rattle.storing.specs.declared.Direction.{Direction}
use Rattle.parity.specs.Orders.{source, source-below, arranged-table}
use Rattle.parity.specs.Places.{index-front, index-rest, place-even, place-odd}
use Rattle.order_calls.specs.Accepting.{order-passes}
use Rattle.definitions.specs.declared.Refusal.{Refusal}

-- ---- the index, as it is computed
module _ (d : Direction) (n k : ℕ) (inside : k < n) where
  abbrev Comes : ℕ → Type 0
  Comes r = (r ≡ source d n k) × (r < n)

  comes : (r : ℕ) → source d n k ≡ r → Comes r
  comes r is = (sym is, omega (arith, source-below d n k inside))

  pub even-from : d ≡ Direction.EvenFirst → k < (n + 1) / 2 → Comes (2 * k)
  unfolding half
  even-from is h = comes (2 * k) (ap (λ e. source e n k) is ∙ index-front n k h)

  pub odd-from : d ≡ Direction.EvenFirst → (n + 1) / 2 ≤ k → Comes (2 * (k - (n + 1) / 2) + 1)
  unfolding half
  odd-from is h = comes (2 * (k - (n + 1) / 2) + 1) (ap (λ e. source e n k) is ∙ index-rest n k h)

  pub even-home : d ≡ Direction.EvenBack → k % 2 ≡ 0 → Comes (k / 2)
  even-home is h = comes (k / 2) (ap (λ e. source e n k) is ∙ place-even n k h)

  pub odd-home : d ≡ Direction.EvenBack → (k % 2 ≡ 0 → ⊥) → Comes ((n + 1) / 2 + k / 2)
  unfolding half
  odd-home is h = comes ((n + 1) / 2 + k / 2) (ap (λ e. source e n k) is ∙ place-odd n k (omega arith))

-- ---- the loop: out holds the list in its order up to place k, and what old holds from there on
abbrev pub Arranging : Direction → List ℕ → ℕ → List ℕ → List ℕ → Type 0
Arranging d xs k old out = Filling (λ j. get_or xs (source d (length xs) j) 0) k old out

pub arranging-next : (d : Direction) (xs old out : List ℕ) (k r : ℕ) → Arranging d xs k old out → k < length old → r ≡ source d (length xs) k
    → Arranging d xs (k + 1) old (set out k (get_or xs r 0))
arranging-next d xs old out k r now h is = filling-next now h (ap (λ j. get_or xs j 0) is)

pub arranging-done : (d : Direction) (xs old out : List ℕ) (k : ℕ) → Arranging d xs k old out → k ≡ length xs → length old ≡ length xs
    → out ≡ arranged d xs
unfolding filled
arranging-done d xs old out k now all long =
    let past : length old ≤ length xs = omega arith in
    filling-stop now (length xs) all
    ∙ ap (λ rest. table (length xs) (λ k. get_or xs (source d (length xs) k) 0) ++ rest) (drop_of_length-le old past)
    ∙ append-nil (table (length xs) (λ k. get_or xs (source d (length xs) k) 0)) ∙ sym (arranged-table d xs)

-- ---- 5
module _ (n output : ℕ) where
  pub too_many : most_entries < n → refused 5 ≡ verdict (order_tests n output) []
  unfolding order_tests entry_count_test
  too_many h = sym (verdict-here (entry_count_test n) (output_test n output ∷ []) [] (lt-ltb most_entries n h))

  pub not-too-many : n ≤ most_entries → Remaining (order_tests n output) (output_test n output ∷ [])
  unfolding order_tests entry_count_test
  not-too-many h = none-remain (entry_count_test n ∷ []) (output_test n output ∷ []) all-remain (le-ltb most_entries n h, tt)

-- ---- the call, where a test refuses and where all pass
pub order-refused : (d : Direction) (xs output : List ℕ) (r : Answer) → answered r ≡ verdict (order_tests (length xs) (length output)) []
    → (k : Refusal) → r ≡ Err k → OrderCall d xs (answered r) output output
order-refused d xs output r is k q = record { answer = is; written = list-stays r k (arranged d xs) output q }

pub order-lent : (n output : ℕ) (r : Answer) → answered r ≡ verdict (order_tests n output) [] → r ≡ Ok tt
    → (n ≤ most_entries) × (output ≡ n)
order-lent n output r is q =
    let input = (order-passes n output).0 (stage-none (order_tests n output) r is q) in
    (input.few, input.output_length)

pub order-made : (d : Direction) (xs output : List ℕ) (r : Answer) → answered r ≡ verdict (order_tests (length xs) (length output)) []
    → r ≡ Ok tt → (output' : List ℕ) → output' ≡ arranged d xs → OrderCall d xs (finished []) output output'
order-made d xs output r is q output' e = record { answer = sym (ap answered q) ∙ is; written = e }
