-- What the numbers of the rows say of a family, and of the call that gives one.
--   Entries f, AInverses f   9 passes: every entry is below m; 17 and 10 pass: every a has an inverse
--   RowNumber k              k is 9 or more, and none of 12 to 16, as the numbers of the tests on rows are: no other test of a call has such a one
-- Proved, from m = 2 on: of the tests on the rows 17 is given if and only if the entries are below m and the lowest row whose a has no inverse
-- has a zero there, 10 if it shares a factor; 18 and 11 where besides every a has an inverse, of the c from row 2 on (seventeen-is and so on).
-- Of each call on a family, the text call and the call that writes a job among them: where it gives such a number, m is a modulus and the
-- tests on the rows give it (plain-says and so on). Assumes nothing.
use Rattle.std.specs.Prelude.{◌≡◌, ◌↔◌, ℕ, ◌<◌, ◌≤◌, length}
use Rattle.std.proofs.Common.{sym, ◌∙◌}
use Rattle.std.proofs.Math.Path.{ap}
use mathlib.Core.List.{List, [], ◌∷◌}
use Rattle.std.proofs.Math.Logic.Iff
use native.Mathlib.Omega.{arith}
use Rattle.definitions.specs.Family.{Family, Modulus, RowBelow, first_c, row_at, size}
use Rattle.definitions.specs.JobWriting.{writing_tests}
use Rattle.definitions.specs.Number.{HasInverse}
use Rattle.definitions.specs.Refusals.{Test, refused, verdict, entries_test, a_zero_test, a_inverse_test, c_zero_test, c_inverse_test}
use Rattle.definitions.specs.Refusals.{curve_length_test, output_test, work_test, curve_entries_test, shape_tests, family_shape}
use Rattle.definitions.specs.Refusals.{row_inverses, family_rows}
use Rattle.definitions.specs.Refusals.{plain_tests, tree_tests, moments_tests, norms_tests}
use Rattle.definitions.specs.Reading.{found, read_job}
use Rattle.definitions.specs.Text.{WrittenJob, Job, meant}
use Rattle.definitions.specs.TextCall.{text_length_test, text_output_test, form_tests, text_tests}
use Rattle.acceptance.specs.Given.{shape-given}
use Rattle.acceptance.specs.Range.{CallOf, plain_call, tree_call, moments_call, norms_call, writing_call, text_call}
use Rattle.acceptance.specs.Verdicts.{None, modulus-passes, entries-pass, a-inverses-pass, a-zeros-pass}
use Rattle.reasons.specs.Lowest.{Zero, Shared, zero_is, shared-is}
use Rattle.reasons.specs.Refused.{Others, refused-past, refused-first, refused-here}

abbrev pub Entries : Family → Type 0
Entries f = (i : ℕ) → i < size f → RowBelow f.m (row_at f i)

abbrev pub AInverses : Family → Type 0
AInverses f = (i : ℕ) → i < size f → HasInverse f.m (row_at f i).a

module _ (f : Family) (two : 2 ≤ f.m) where
  pos : 0 < f.m
  pos = omega arith

  -- 17 and 10 before the c
  a-pass : None (entries_test f ∷ a_zero_test f ∷ a_inverse_test f ∷ []) ↔ (Entries f × AInverses f)
  a-pass = (
    λ n. ((entries-pass f).0 n.0, (a-inverses-pass f pos).0 n.1.1.0),
    λ p. ((entries-pass f).1 p.0, (a-zeros-pass f pos p.1, ((a-inverses-pass f pos).1 p.1, tt))),
  )

  pub seventeen-is : (verdict (family_rows f) [] ≡ refused 17) ↔ (Entries f × Zero f 0 (λ row. row.a))
  unfolding family_rows row_inverses entries_test a_zero_test a_inverse_test c_zero_test c_inverse_test
  seventeen-is = Iff.trans
      (refused-here [] (entries_test f ∷ []) (a_zero_test f) (a_inverse_test f ∷ c_zero_test first_c f ∷ c_inverse_test first_c f ∷ [])
      (λ e q. omega arith, tt) (λ e q. omega arith, (λ e q. omega arith, (λ e q. omega arith, tt)))) (
        λ p. ((entries-pass f).0 p.0.0, (zero_is f two 0 (λ row. row.a)).0 p.1),
        λ p. (((entries-pass f).1 p.0, tt), (zero_is f two 0 (λ row. row.a)).1 p.1),
      )

  pub ten-is : (verdict (family_rows f) [] ≡ refused 10) ↔ (Entries f × Shared f 0 (λ row. row.a))
  unfolding family_rows row_inverses entries_test a_zero_test a_inverse_test c_zero_test c_inverse_test
  ten-is = Iff.trans
      (refused-here [] (entries_test f ∷ a_zero_test f ∷ []) (a_inverse_test f) (c_zero_test first_c f ∷ c_inverse_test first_c f ∷ [])
      (λ e q. omega arith, (λ e q. omega arith, tt)) (λ e q. omega arith, (λ e q. omega arith, tt))) (
        λ p. ((entries-pass f).0 p.0.0, (shared-is f two 0 (λ row. row.a)).0 (p.0.1.0, p.1)),
        λ p. let shared = (shared-is f two 0 (λ row. row.a)).1 p.1 in (((entries-pass f).1 p.0, (shared.0, tt)), shared.1),
      )

  pub eighteen-is : (verdict (family_rows f) [] ≡ refused 18) ↔ (Entries f × AInverses f × Zero f first_c (λ row. row.c))
  unfolding family_rows row_inverses entries_test a_zero_test a_inverse_test c_zero_test c_inverse_test
  eighteen-is = Iff.trans
      (refused-here [] (entries_test f ∷ a_zero_test f ∷ a_inverse_test f ∷ []) (c_zero_test first_c f) (c_inverse_test first_c f ∷ [])
      (λ e q. omega arith, (λ e q. omega arith, (λ e q. omega arith, tt))) (λ e q. omega arith, tt)) (
        λ p. let passed = a-pass.0 p.0 in (passed.0, passed.1, (zero_is f two first_c (λ row. row.c)).0 p.1),
        λ p. (a-pass.1 (p.0, p.1), (zero_is f two first_c (λ row. row.c)).1 p.2),
      )

  pub eleven-is : (verdict (family_rows f) [] ≡ refused 11) ↔ (Entries f × AInverses f × Shared f first_c (λ row. row.c))
  unfolding family_rows row_inverses entries_test a_zero_test a_inverse_test c_zero_test c_inverse_test
  eleven-is = Iff.trans
      (refused-here [] (entries_test f ∷ a_zero_test f ∷ a_inverse_test f ∷ c_zero_test first_c f ∷ []) (c_inverse_test first_c f) []
      (λ e q. omega arith, (λ e q. omega arith, (λ e q. omega arith, (λ e q. omega arith, tt)))) tt) (
        λ p.
            let passed = a-pass.0 (p.0.0, (p.0.1.0, (p.0.1.1.0, tt))) in
            (passed.0, passed.1, (shared-is f two first_c (λ row. row.c)).0 (p.0.1.1.1.0, p.1)),
        λ p.
            let passed = a-pass.1 (p.0, p.1) in
            let shared = (shared-is f two first_c (λ row. row.c)).1 p.2 in
            ((passed.0, (passed.1.0, (passed.1.1.0, (shared.0, tt)))), shared.1),
      )

-- ---- the calls
pub record RowNumber (k : ℕ) : Type 0 where
  pub least : 9 ≤ k
  pub apart : (12 ≤ k) × (k ≤ 16) → ⊥

module _ (k : ℕ) (number : RowNumber k) where
  -- a number below 9 is another, and so is one from 12 to 16
  pub early : (j : ℕ) → j ≤ 8 → j ≡ k → ⊥
  early j h e = omega (arith, number.least)

  pub between : (j : ℕ) → (12 ≤ j) × (j ≤ 16) → j ≡ k → ⊥
  between j h e = number.apart (rw (sym e) h)

  curve : 12 ≡ k → ⊥
  curve = between 12 (omega arith)

  module _ (f : Family) (ts : List Test) (call : CallOf f ts) (values : List ℕ)
      (before : Others k call.before) (middle : Others k call.between) (after : Others k call.after) where
    call-says : verdict ts values ≡ refused k → Modulus f.m × (verdict (family_rows f) [] ≡ refused k)
    unfolding family_rows shape_tests
    call-says e =
        let whole = ap (λ us. verdict us values) (sym call.tests) ∙ e in
        let behind = (refused-past k values call.before _ before whole).1 in
        let other = shape-given (λ j. j ≡ k → ⊥) _ _ _ _ (early 3 (omega arith)) (early 4 (omega arith)) (early 5 (omega arith)) in
        let shape = refused-past k values (family_shape f) _ other behind in
        let rest = (refused-past k values call.between _ middle shape.1).1 in
        ((modulus-passes f.m).0 shape.0.0, refused-first k values (entries_test f ∷ row_inverses first_c f) call.after after rest)

  module _ (f : Family) (u : List ℕ) (values : List ℕ) where
    pub plain-says : (output : ℕ) → verdict (plain_tests f u output) values ≡ refused k
        → Modulus f.m × (verdict (family_rows f) [] ≡ refused k)
    unfolding plain_call curve_length_test output_test curve_entries_test
    plain-says output = call-says f _ (plain_call f u output) values tt
        (λ e. early 6 (omega arith), (λ e. early 7 (omega arith), tt)) (λ e. curve, tt)

    pub tree-says : (output work : ℕ) → verdict (tree_tests f u output work) values ≡ refused k
        → Modulus f.m × (verdict (family_rows f) [] ≡ refused k)
    unfolding tree_call curve_length_test output_test work_test curve_entries_test
    tree-says output work = call-says f _ (tree_call f u output work) values tt
        (λ e. early 6 (omega arith), (λ e. early 7 (omega arith), (λ e. early 8 (omega arith), tt))) (λ e. curve, tt)

  module _ (f : Family) (values : List ℕ) where
    pub moments-says : (output work : ℕ) → verdict (moments_tests f output work) values ≡ refused k
        → Modulus f.m × (verdict (family_rows f) [] ≡ refused k)
    unfolding moments_call output_test work_test
    moments-says output work = call-says f _ (moments_call f output work) values tt
        (λ e. early 7 (omega arith), (λ e. early 8 (omega arith), tt)) tt

    pub norms-says : (output : ℕ) → verdict (norms_tests f output) values ≡ refused k
        → Modulus f.m × (verdict (family_rows f) [] ≡ refused k)
    unfolding norms_call output_test
    norms-says output = call-says f _ (norms_call f output) values tt (λ e. early 7 (omega arith), tt) tt

  pub writing-says : (j : Job) (output : ℕ) (values : List ℕ) → verdict (writing_tests j output) values ≡ refused k
      → Modulus j.family.m × (verdict (family_rows j.family) [] ≡ refused k)
  unfolding writing_call curve_length_test text_output_test curve_entries_test
  writing-says j output values = call-says j.family _ (writing_call j output) values tt
      (λ e. early 6 (omega arith), (λ e. early 7 (omega arith), tt)) (λ e. curve, tt)

  -- a text of the form, in which the job w stands
  pub text_says : (w : WrittenJob) (t : List ℕ) (output work : ℕ) (values : List ℕ) → read_job t ≡ found w
      → verdict (text_tests t output work) values ≡ refused k
      → Modulus (meant w).family.m × (verdict (family_rows (meant w).family) [] ≡ refused k)
  unfolding text_call text_tests text_length_test curve_length_test text_output_test work_test curve_entries_test
  text_says w t output work values read e = call-says (meant w).family _ (text_call w (length t) output work) values
      (λ e. early 1 (omega arith), (λ e. early 2 (omega arith), tt))
      (λ e. early 6 (omega arith), (λ e. early 7 (omega arith), (λ e. early 8 (omega arith), tt))) (λ e. curve, tt)
      (ap (λ r. verdict (text_length_test (length t) ∷ form_tests r output work) values) (sym read) ∙ e)
