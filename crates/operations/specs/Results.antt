-- How many numbers an operation hands out.
--   result_count operation r  of a family of r rows
-- Proved: the result of each operation has so many; a bound of them. Assumes nothing.
use Rattle.std.specs.Prelude.{◌≡◌, List, ℕ, suc, ◌+◌, ◌*◌, ◌-◌, ◌≤◌, length}
use Rattle.std.proofs.Common.{arith}
use Rattle.definitions.specs.Conversion.{expand, adjoint, decompose}
use Rattle.definitions.specs.Family.{Family, rows, size}
use Rattle.definitions.specs.Orthogonality.{norms}
use Rattle.definitions.specs.TextCall.{converted}
use Rattle.definitions.specs.declared.Operation.{Operation}
use Rattle.numbers.specs.Lists.{table-length}
use Rattle.theory.specs.Moments.{moments-length}
use Rattle.theory.specs.RoundTrip.{decompose_below-length}

unfoldable pub result_count : Operation → ℕ → ℕ
result_count Operation.Expand r = suc r
result_count Operation.Adjoint r = suc r
result_count Operation.Decompose r = suc r
result_count Operation.Moments r = 2 * suc r - 1
result_count Operation.Norms r = suc r

pub result-length : (operation : Operation) (f : Family) (u : List ℕ) → length (converted operation f u) ≡ result_count operation (rows f)
unfolding converted expand adjoint decompose norms result_count
result-length Operation.Expand f u = table-length (size f) _
result-length Operation.Adjoint f u = table-length (size f) _
result-length Operation.Decompose f u = decompose_below-length f (size f) u
result-length Operation.Moments f u = moments-length f
result-length Operation.Norms f u = table-length (size f) _

pub result-few : (operation : Operation) (r : ℕ) → result_count operation r ≤ 2 * r + 1
unfolding result_count
result-few Operation.Expand r = omega arith
result-few Operation.Adjoint r = omega arith
result-few Operation.Decompose r = omega arith
result-few Operation.Moments r = omega arith
result-few Operation.Norms r = omega arith
