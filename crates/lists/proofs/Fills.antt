-- A loop that fills a list, for the check to apply: its invariant is one equation, `out ≡ filled f k old`.
use Rattle.std.proofs.Common.{◌≡◌, ap, ◌∙◌, arith, List, ℕ, ◌+◌, ◌<◌, ◌≤◌, length}
use Rattle.std.proofs.Math.ListN.{set}
use Rattle.numbers.specs.Lists.{filled, filled_none, filled_more}

pub filled_step : (f : ℕ → ℕ) (old out : List ℕ) (k v : ℕ) → out ≡ filled f k old → v ≡ f k → k < length out → length out ≡ length old
    → set out k v ≡ filled f (k + 1) old
filled_step f old out k v e q h l = rw (e, q) (filled_more f old k (rw l at h))

pub filled_end : (f : ℕ → ℕ) (old out : List ℕ) (k n : ℕ) → out ≡ filled f k old → k ≤ n → n ≤ k → out ≡ filled f n old
filled_end f old out k n e a b = e ∙ ap (λ i. filled f i old) (omega arith)

pub ruleset fillings = (filled_none, filled_step, filled_end)
