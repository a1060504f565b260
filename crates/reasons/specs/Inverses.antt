-- What the factor says that Inverse hands out.
-- Proved of the promise of Inverse, whoever is lent what: where it finishes the factor is 1, and the inverse times x leaves 1; with 13 the factor
-- is m where x is zero, and otherwise the greatest number that divides both x and m, above 1 and below m; with any other refusal it is what it
-- was. With every refusal the inverse is what it was.
-- Assumes nothing.
use Rattle.std.specs.Prelude.{◌≡◌, true, false, ℕ, ◌*◌, ◌%◌, ◌<◌, ◌≤◌}
use Rattle.std.proofs.Common.{sym, ◌∙◌, ap, ne_eqb}
use mathlib.Core.List.{List, [], ◌∷◌}
use Rattle.std.proofs.Math.Nat.{one-dvd}
use native.Mathlib.Omega.{arith}
use Rattle.definitions.specs.Answers.{after, after_factor, InverseCall}
use Rattle.definitions.specs.Family.{Modulus}
use Rattle.definitions.specs.Number.{HasInverse, inverse, greatest_factor}
use Rattle.definitions.specs.Refusals.{Verdict, finished, refused, modulus_test, number_test, number_inverse_test, inverse_tests}
use Rattle.numbers.specs.Factor.{Greatest, factor-greatest, factor-of-zero, factor-less, factor-one}
use Rattle.numbers.specs.Inverse.{inverse-right}
use Rattle.acceptance.specs.Acceptance.{InverseInput, inverse-finished}
use Rattle.acceptance.specs.Verdicts.{None, modulus-passes, number-passes, no_inverse-true}
use Rattle.reasons.specs.Refused.{refused-here}

module _ (m x : ℕ) (v : Verdict) (inverses inverses' factors factors' : List ℕ)
    (call : InverseCall m x v inverses inverses' factors factors') where
  module _ (e : v ≡ finished []) where
    accepted : InverseInput m x
    accepted = (inverse-finished m x []).0 (sym call.answer ∙ e)

    pub accepted-factor : factors' ≡ 1 ∷ []
    accepted-factor =
        call.factor ∙ ap (λ w. after_factor w (greatest_factor m x ∷ []) factors) e
        ∙ ap (λ g. g ∷ []) ((factor-one m x accepted.modulus.least).0 accepted.has_inverse)

    pub accepted-inverse : (inverses' ≡ inverse m x ∷ []) × (x * inverse m x % m ≡ 1)
    accepted-inverse = (
      call.written ∙ ap (λ w. after w (inverse m x ∷ []) inverses) e,
      inverse-right m x (omega (arith, accepted.modulus.least)) accepted.has_inverse,
    )

  module _ (e : v ≡ refused 13) where
    told : factors' ≡ greatest_factor m x ∷ []
    told = call.factor ∙ ap (λ w. after_factor w (greatest_factor m x ∷ []) factors) e

    -- 3 and 12 have passed, and there is no inverse
    refused_by : None (modulus_test m ∷ number_test m x ∷ []) × ((number_inverse_test m x).holds ≡ true)
    unfolding inverse_tests modulus_test number_test number_inverse_test
    refused_by =
        (refused-here [] (modulus_test m ∷ number_test m x ∷ []) (number_inverse_test m x) []
        (λ q same. omega arith, (λ q same. omega arith, tt)) tt).0 (sym call.answer ∙ e)

    modulus : Modulus m
    modulus = (modulus-passes m).0 refused_by.0.0

    less : x < m
    less = (number-passes m x).0 refused_by.0.1.0

    lacks : HasInverse m x → ⊥
    unfolding number_inverse_test
    lacks = (no_inverse-true m x (omega (arith, modulus.least))).0 refused_by.1

    pub zero-factor : x ≡ 0 → factors' ≡ m ∷ []
    zero-factor z = told ∙ ap (λ g. g ∷ []) (factor-of-zero m x (omega (arith, modulus.least)) z)

    pub shared-factor : 0 < x → (g : ℕ) × (factors' ≡ g ∷ []) × Greatest m x g × (1 < g) × (g < m)
    shared-factor some =
        let pos : 0 < m = omega (arith, modulus.least) in
        let greatest = factor-greatest m x pos in
        let least : 1 ≤ greatest_factor m x = greatest.greatest 1 (one-dvd x) (one-dvd m) in
        let other : greatest_factor m x ≡ 1 → ⊥ = λ q. lacks ((factor-one m x modulus.least).1 q) in
        (greatest_factor m x, told, greatest, omega arith, factor-less m x pos some less)

  pub refusal-keeps : (k : ℕ) → v ≡ refused k → inverses' ≡ inverses
  refusal-keeps k e = call.written ∙ ap (λ w. after w (inverse m x ∷ []) inverses) e

  pub other-refusal : (k : ℕ) → v ≡ refused k → (k ≡ 13 → ⊥) → factors' ≡ factors
  other-refusal k e n =
      call.factor ∙ ap (λ w. after_factor w (greatest_factor m x ∷ []) factors) e
      ∙ ap (λ b. elim b as (λ t. List ℕ) [ true ↦ greatest_factor m x ∷ [] | false ↦ factors ]) (ne_eqb k 13 n)
