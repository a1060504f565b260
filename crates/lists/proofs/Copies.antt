-- What `copy` leaves: the front of the one list before the rest of the other.
use Rattle.std.proofs.Common.{◌≡◌, refl, ap, List, [], ◌∷◌, ◌++◌, ℕ, zero, suc, ◌≤◌, length, take, drop, get_or, arith, le_of_suc-le-suc}
use Rattle.definitions.specs.Number.{table}
use Rattle.numbers.specs.Lists.{filled}

front : (count : ℕ) (from : List ℕ) → count ≤ length from → take count from ≡ table count (λ i. get_or from i 0)
unfolding table
front zero from h = refl
front (suc k) [] h = absurd (omega arith)
front (suc k) (x ∷ xs) h = ap (λ t. x ∷ t) (front k xs (le_of_suc-le-suc h))

pub copied : (from old : List ℕ) (count : ℕ) → count ≤ length from
    → take count from ++ drop count old ≡ filled (λ i. get_or from i 0) count old
unfolding filled
copied from old count h = ap (λ t. t ++ drop count old) (front count from h)
