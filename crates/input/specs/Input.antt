-- What is known of input: the number of its bytes is within the list.
--   within-bytes   of what was read, that number
-- Assumes nothing.
use Rattle.std.specs.Prelude.{◌≡◌, ℕ, ◌≤◌, Result, Ok}
use Rattle.std.specs.Result.{IfOk}
use Rattle.std.proofs.lemmas.Result.{IfOk-at_ok}
use Rattle.std.specs.declared.io.Error.{Error}

abbrev pub Within : Result ℕ Error → ℕ → Type 0
Within r most = IfOk r (λ count. count ≤ most)

pub within-bytes : {r : Result ℕ Error} {most count : ℕ} → Within r most → r ≡ Ok count → count ≤ most
within-bytes {most = most} within is = IfOk-at_ok (λ n. n ≤ most) is within
