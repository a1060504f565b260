-- Which numbers the tests of a call can give.
--   Given P ts   each test of ts that holds has a number of which P is true
--   revalued     a verdict with other values
-- Proved: of the number that is given P is true (refused-given); of tests in two parts; of the stages of a family and of a job, by their
-- numbers.
-- Assumes nothing.
use Rattle.std.specs.Prelude.{◌≡◌, refl, Bool, true, false, List, [], ◌∷◌, ◌++◌, ℕ}
use Rattle.std.proofs.Common.{sym, ◌∙◌, ap}
use Rattle.definitions.specs.Family.{Family}
use Rattle.definitions.specs.Refusals.{Test, Verdict, finished, refused, verdict}
use Rattle.definitions.specs.Refusals.{modulus_test, equal_lengths_test, row_count_test, curve_length_test}
use Rattle.definitions.specs.Refusals.{entries_test, a_zero_test, a_inverse_test, c_zero_test, c_inverse_test}
use Rattle.definitions.specs.Refusals.{curve_entries_test, shape_tests, row_inverses, family_rows, value_tests}
use Rattle.definitions.specs.TextCall.{text_output_test, length_tests}
use Rattle.definitions.specs.declared.Operation.{Operation}
use Rattle.acceptance.specs.Verdicts.{with_values, refused-not-finished, verdict-here, verdict-next, verdict-values}

-- ---- a verdict with other values
values-twice : (xs ys : List ℕ) (v : Verdict) → with_values ys v ≡ with_values ys (with_values xs v)
values-twice xs ys (finished none) = refl
values-twice xs ys (refused k) = refl

pub revalued : (ts : List Test) (xs ys : List ℕ) → verdict ts ys ≡ with_values ys (verdict ts xs)
revalued ts xs ys = verdict-values ys ts ∙ values-twice xs ys (verdict ts []) ∙ ap (with_values ys) (sym (verdict-values xs ts))

-- ---- which numbers are given
abbrev pub Given : (ℕ → Type 0) → List Test → Type 0
Given P [] = Unit {0}
Given P (t ∷ ts) = (t.holds ≡ true → P t.number) × Given P ts

pub refused-given : (P : ℕ → Type 0) (values : List ℕ) (k : ℕ) (ts : List Test) → Given P ts → verdict ts values ≡ refused k → P k
unfolding verdict
refused-given P values k [] given e = absurd (refused-not-finished k values (sym e))
refused-given P values k (t ∷ ts) given e = split t.holds refl (refused-given P values k ts given.1)
  where
    split : (h : Bool) → t.holds ≡ h → (verdict ts values ≡ refused k → P k) → P k
    split true q rest =
        let same : refused t.number ≡ refused k = sym (verdict-here t ts values q) ∙ e in
        let number : t.number ≡ k = cc in
        rw (sym number) (given.0 q)
    split false q rest = rest (sym (verdict-next t ts values q) ∙ e)

module _ (P : ℕ → Type 0) where
  pub given-append : (ts us : List Test) → Given P ts → Given P us → Given P (ts ++ us)
  given-append [] us here later = later
  given-append (t ∷ ts) us here later = (here.0, given-append ts us here.1 later)

  pub shape-given : (m a b c : ℕ) → P 3 → P 4 → P 5 → Given P (shape_tests m a b c)
  unfolding shape_tests modulus_test equal_lengths_test row_count_test
  shape-given m a b c three four five = (λ e. three, (λ e. four, (λ e. five, tt)))

  pub rows-given : (f : Family) → P 9 → P 17 → P 10 → P 18 → P 11 → Given P (family_rows f)
  unfolding row_inverses family_rows entries_test a_zero_test a_inverse_test c_zero_test c_inverse_test
  rows-given f nine seventeen ten eighteen eleven = (λ e. nine, (λ e. seventeen, (λ e. ten, (λ e. eighteen, (λ e. eleven, tt)))))

  pub values-given : (f : Family) (u : List ℕ) → P 9 → P 17 → P 10 → P 18 → P 11 → P 12 → Given P (value_tests f u)
  unfolding value_tests curve_entries_test
  values-given f u nine seventeen ten eighteen eleven twelve =
      given-append (family_rows f) _ (rows-given f nine seventeen ten eighteen eleven) (λ e. twelve, tt)

  pub lengths-given : (m : ℕ) (operation : Operation) (a b c u least output : ℕ) → P 3 → P 4 → P 5 → P 6
      → ((text_output_test least output).holds ≡ true → P 7) → Given P (length_tests m operation a b c u least output)
  unfolding length_tests curve_length_test text_output_test
  lengths-given m operation a b c u least output three four five six seven =
      given-append (shape_tests m a b c) _ (shape-given m a b c three four five) (λ e. six, (seven, tt))
