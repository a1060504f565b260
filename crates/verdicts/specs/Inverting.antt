-- What Inverse promises, from its tests and from what Euclid's algorithm found.
-- Proved: a test before 13 that refuses, or 13 itself, or that it finishes, and what is then handed out: no number, the factor alone, or the
-- inverse and 1. Assumes nothing.
use Rattle.std.specs.Prelude.{◌≡◌, refl, true, false, ℕ, ◌<◌, Ok, Err, IsErrAnd}
use Rattle.std.proofs.Common.{sym, ◌∙◌, subst, ne_eqb}
use Rattle.std.proofs.Math.Path.{ap}
use mathlib.Core.List.{List, [], ◌∷◌, ◌++◌}
use native.Mathlib.Omega.{arith}
use Rattle.definitions.specs.Answers.{Answer, InverseAnswer, number_of, answered, inverse_answered, inverse_handed, factor_handed, InverseCall}
use Rattle.definitions.specs.Family.{Modulus}
use Rattle.definitions.specs.Number.{greatest_factor}
use Rattle.definitions.specs.Refusals.{Test, finished, refused, verdict, modulus_test, number_test, number_inverse_test, inverse_tests}
use Rattle.acceptance.specs.Given.{Given, refused-given}
use Rattle.acceptance.specs.Stages.{Remaining, all-remain, stage-none, stage-passes, stage-refuses-with}
use Rattle.acceptance.specs.Verdicts.{modulus-passes, number-inverse-passes}
use Rattle.residue.specs.Inversion.{IsInverse, SharesFactor, found-has, found-factor, absent-factor}
use Rattle.checks.specs.RowTests.{lacks}
use Rattle.checks.specs.Settling.{refuses, finishes}
use Rattle.definitions.specs.declared.NotInverted.{NotInverted}
use Rattle.definitions.specs.declared.Refusal.{Refusal}

module _ (m x : ℕ) where
  -- what Inverse answers where it hands a refusal on
  pub handed-on : (r : InverseAnswer) (k : Refusal) → IsErrAnd r (λ e. e ≡ NotInverted.Refused k)
      → InverseCall m x (refused (number_of k)) [] [] [] []
      → InverseCall m x (inverse_answered r) [] (inverse_handed r) [] (factor_handed r)
  handed-on (Ok y) k h p = absurd h
  handed-on (Err e) k h p =
      subst (λ w. InverseCall m x (inverse_answered (Err w)) [] (inverse_handed (Err w)) [] (factor_handed (Err w))) (sym h) p

  -- the number of a stage that is not 13
  early-refused : (stage rest : List Test) → Remaining (inverse_tests m x) (stage ++ rest) → Given (λ k. k ≡ 13 → ⊥) stage
      → (r : Answer) → answered r ≡ verdict stage [] → (k : Refusal) → r ≡ Err k → InverseCall m x (refused (number_of k)) [] [] [] []
  early-refused stage rest left other r is k q =
      let number = refused-given (λ j. j ≡ 13 → ⊥) [] (number_of k) stage other (sym is ∙ ap answered q) in
      record {
        answer = stage-refuses-with stage rest left r is [] k q;
        written = refl;
        factor = sym (ap (λ b. elim b as (λ t. List ℕ) [ true ↦ greatest_factor m x ∷ [] | false ↦ [] ]) (ne_eqb (number_of k) 13 number));
      }

  module _ (range : Answer) (ranged : answered range ≡ verdict (modulus_test m ∷ []) []) where
    pub outside-refused : (k : Refusal) → range ≡ Err k → InverseCall m x (refused (number_of k)) [] [] [] []
    unfolding inverse_tests modulus_test
    outside-refused = early-refused (modulus_test m ∷ []) _ all-remain (λ e q. omega arith, tt) range ranged

    module _ (inside : range ≡ Ok tt) (below : Answer) (is : answered below ≡ verdict (number_test m x ∷ []) []) where
      modulus : Modulus m
      modulus = (modulus-passes m).0 (stage-none (modulus_test m ∷ []) range ranged inside).0

      left : Remaining (inverse_tests m x) ((number_test m x ∷ []) ++ (number_inverse_test m x ∷ []))
      unfolding inverse_tests
      left = stage-passes (modulus_test m ∷ []) _ all-remain range ranged inside

      pub above-refused : (k : Refusal) → below ≡ Err k → InverseCall m x (refused (number_of k)) [] [] [] []
      unfolding number_test
      above-refused = early-refused (number_test m x ∷ []) _ left (λ e q. omega arith, tt) below is

      module _ (less : below ≡ Ok tt) where
        last : Remaining (inverse_tests m x) (number_inverse_test m x ∷ [])
        last = stage-passes (number_test m x ∷ []) (number_inverse_test m x ∷ []) left below is less

        pos : 0 < m
        pos = omega (arith, modulus.least)

        pub inverse-found : (y : ℕ) → IsInverse m x y → InverseCall m x (finished []) [] (y ∷ []) [] (1 ∷ [])
        inverse-found y found = record {
          answer = finishes (number_inverse_test m x) (number-inverse-passes m x pos) (found-has m x y found) ∙ last.same [];
          written = ap (λ z. z ∷ []) found.value;
          factor = ap (λ z. z ∷ []) (found-factor m x y modulus.least found);
        }

        pub inverse-absent : (g : ℕ) → SharesFactor m x g → InverseCall m x (refused 13) [] [] [] (g ∷ [])
        unfolding number_inverse_test
        inverse-absent g absent = record {
          answer = refuses (number_inverse_test m x) (number-inverse-passes m x pos) [] [] (lacks m x g pos absent) ∙ last.same [];
          written = refl;
          factor = ap (λ z. z ∷ []) (absent-factor m x g pos absent);
        }
