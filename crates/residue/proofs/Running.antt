-- A loop that multiplies all entries of a list, for the check to apply: the product of those before place k.
use Rattle.std.proofs.Common.{◌≡◌, ap, ◌∙◌, arith, ℕ, ◌+◌, ◌*◌, ◌%◌, ◌≤◌}
use Rattle.numbers.specs.RunningProduct.{running_product, running_none, running-next}

-- w is the modulus as a loop holds it
pub running_step : (m w : ℕ) (f : ℕ → ℕ) (k p v : ℕ) → w ≡ m → p ≡ running_product m f k → v ≡ p * f k % w → v ≡ running_product m f (k + 1)
running_step m w f k p v e q h = running-next _ _ _ _ _ q (rw e at h)

pub running_end : (m : ℕ) (f : ℕ → ℕ) (k n v : ℕ) → v ≡ running_product m f k → k ≤ n → n ≤ k → v ≡ running_product m f n
running_end m f k n v e a b = e ∙ ap (running_product m f) (omega arith)

pub ruleset running = (running_none, running_step, running_end)
