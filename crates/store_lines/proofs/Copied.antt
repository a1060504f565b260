-- A copy of bytes from the front, one by one.
-- Proved: when count of them are put, the first count are those of the other list. `copy_bytes` copies at once, to the same promise; this says it
-- of a copy by steps. Assumes nothing.
use Rattle.std.specs.Prelude.{List, ◌≡◌, ℕ, ◌≤◌, length, get_or, take, drop}
use Rattle.std.proofs.Common.{◌∙◌, ap, take_at, length-take-le, get_or-take}
use Rattle.std.proofs.Math.Path.{sym}
use Rattle.definitions.specs.Number.{table}
use Rattle.numbers.specs.Lists.{table-length, table-unique, filled, Filling, filling-stop}

pub copied : (from to to₀ : List ℕ) (i count : ℕ) → Filling (λ j. get_or from j 0) i to₀ to → i ≡ count → count ≤ length from → count ≤ length to₀
    → take count to ≡ take count from
unfolding filled
copied from to to₀ i count now all h k =
    ap (take count) (filling-stop now count all)
    ∙ take_at (table count (λ j. get_or from j 0)) (drop count to₀) count (table-length count (λ j. get_or from j 0))
    ∙ sym (table-unique (take count from) count (λ j. get_or from j 0) (length-take-le count from h) (λ j l. get_or-take count from j 0 l))
