-- The tests 3, 3 and 19 of two moduli.
--   PairAnswer m m' r   what the answer r says: the inverse of m modulo m', or the refusal that the tests give
-- Proved: it, from the answers of the two checks and of Euclid's algorithm; where there is the inverse, no test holds. Assumes nothing.
use mathlib.Core.List.{[], ◌∷◌}
use Rattle.std.specs.Prelude.{◌≡◌, ℕ, Ok, Err}
use Rattle.std.proofs.Common.{◌∙◌, subst, arith}
use Rattle.definitions.specs.Answers.{Answer, Valued, number_of, answered}
use Rattle.definitions.specs.Family.{Modulus}
use Rattle.definitions.specs.Number.{HasInverse}
use Rattle.definitions.specs.Refusals.{refused, verdict, modulus_test}
use Rattle.acceptance.specs.Stages.{Remaining, all-remain, stage-none, stage-passes, stage-refuses-with}
use Rattle.acceptance.specs.Verdicts.{None, modulus-passes}
use Rattle.residue.specs.Inversion.{IsInverse, SharesFactor}
use Rattle.checks.specs.RowTests.{lacks}
use Rattle.checks.specs.Settling.{refuses-alone}
use Rattle.joining.specs.Calls.{shared_factor_test, moduli_tests}
use Rattle.wholes.specs.Accepting.{Apart, apart-passes, moduli-pass}
use Rattle.join.specs.Joining.{Paired}
use Rattle.definitions.specs.declared.Refusal.{Refusal}

abbrev pub PairAnswer : ℕ → ℕ → Valued → Type 0
PairAnswer m m' (Ok k) = Paired m m' k
PairAnswer m m' (Err k) = refused (number_of k) ≡ verdict (moduli_tests m m') []

-- an answer that is matched on
module _ (m m' : ℕ) {r : Valued} (is : PairAnswer m m' r) where
  pub answer-pair : {k : ℕ} → r ≡ Ok k → Paired m m' k
  answer-pair e = subst (PairAnswer m m') e is

  pub answer-refused : {k : Refusal} → r ≡ Err k → refused (number_of k) ≡ verdict (moduli_tests m m') []
  answer-refused e = subst (PairAnswer m m') e is

pub pair-apart : {m m' k : ℕ} → Paired m m' k → Apart m m'
unfolding HasInverse
pair-apart {m} {m'} {k} p = record { modulus = p.first; modulus' = p.second; inverse = (k, p.inverse) }

pub pair-none : {m m' k : ℕ} → Paired m m' k → None (moduli_tests m m')
pair-none {m} {m'} p = (moduli-pass m m').1 (pair-apart p)

-- ---- from the answers of the checks
module _ (m m' : ℕ) (first : Answer) (is : answered first ≡ verdict (modulus_test m ∷ []) []) where
  pub first-refused : (k : Refusal) → first ≡ Err k → refused (number_of k) ≡ verdict (moduli_tests m m') []
  unfolding moduli_tests
  first-refused = stage-refuses-with (modulus_test m ∷ []) (modulus_test m' ∷ shared_factor_test m m' ∷ []) all-remain first is []

  module _ (passed : first ≡ Ok tt) (second : Answer) (is' : answered second ≡ verdict (modulus_test m' ∷ []) []) where
    left : Remaining (moduli_tests m m') (modulus_test m' ∷ shared_factor_test m m' ∷ [])
    unfolding moduli_tests
    left = stage-passes (modulus_test m ∷ []) (modulus_test m' ∷ shared_factor_test m m' ∷ []) all-remain first is passed

    pub second-refused : (k : Refusal) → second ≡ Err k → refused (number_of k) ≡ verdict (moduli_tests m m') []
    second-refused = stage-refuses-with (modulus_test m' ∷ []) (shared_factor_test m m' ∷ []) left second is' []

    module _ (passed' : second ≡ Ok tt) where
      modulus : Modulus m
      modulus = (modulus-passes m).0 (stage-none (modulus_test m ∷ []) first is passed).0

      modulus' : Modulus m'
      modulus' = (modulus-passes m').0 (stage-none (modulus_test m' ∷ []) second is' passed').0

      pub pair_found : (k : ℕ) → IsInverse m' m k → Paired m m' k
      pair_found k found = record { first = modulus; second = modulus'; below = found.below; inverse = found.product }

      pub pair-shares : (g : ℕ) → SharesFactor m' m g → refused 19 ≡ verdict (moduli_tests m m') []
      unfolding shared_factor_test
      pair-shares g shares =
          refuses-alone (shared_factor_test m m') (apart-passes m m' modulus.least modulus'.least)
          (lacks m' m g (omega (arith, modulus'.least)) shares)
          ∙ (stage-passes (modulus_test m' ∷ []) (shared_factor_test m m' ∷ []) left second is' passed').same []
