-- The operations by number, computed: 0 to 4 in the paper's order, and numbers that name none.
-- Assumes nothing.
use Rattle.std.specs.Prelude.{◌≡◌, refl, [], ◌∷◌, map, Option, Some}
use Rattle.definitions.specs.declared.Operation.{Operation}
use Rattle.zahupnik.specs.Returned.{choice_of, choice}

pub choices-hold : map choice (0 ∷ 1 ∷ 2 ∷ 3 ∷ 4 ∷ 5 ∷ 4294967295 ∷ [])
    ≡ Some Operation.Expand ∷ Some Operation.Adjoint ∷ Some Operation.Decompose
    ∷ Some Operation.Moments ∷ Some Operation.Norms ∷ Option.None ∷ Option.None ∷ []
unfolding choice choice_of
choices-hold = refl
