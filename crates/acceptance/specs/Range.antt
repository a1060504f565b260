-- From which row on 18 and 11 look at the c.
--   call_from first f  the tests of a call on a family, with 18 and 11 from place first on
--   CallOf f ts        ts are the tests of a call on f, with 18 and 11 as they are: before the family's shape, between it and the rows, and after
--                      these stand whatever tests
-- Proved: the tests of each call are of that form (plain_call and so on), and where every c has an inverse, their verdict is the same with
-- 18 and 11 from any place on, whatever the modulus. So such a family gets the answers that it would get with them from row 1 on. Item 2 of
-- the change requests. Assumes nothing.
use Rattle.std.specs.Prelude.{◌≡◌, false, length}
use Rattle.std.proofs.Math.Path.{refl, sym, ap, ap₂}
use Rattle.std.proofs.Common.{◌∙◌, arith}
use mathlib.Core.List.{List, [], ◌∷◌, ◌++◌}
use Prim.Native.Nat.{ℕ, zero, suc, ◌<◌}
use Rattle.definitions.specs.Number.{HasInverse}
use Rattle.definitions.specs.Family.{Family, first_c, rows, size, row_at}
use Rattle.definitions.specs.JobWriting.{job_output_length, writing_tests}
use Rattle.definitions.specs.Orthogonality.{moment_count}
use Rattle.definitions.specs.Refusals.{Test, refused, verdict, test, modulus_test, shape_tests}
use Rattle.definitions.specs.Refusals.{entries_test, a_zero_test, a_inverse_test, c_zero_test, c_inverse_test}
use Rattle.definitions.specs.Refusals.{curve_length_test, output_test, work_test, curve_entries_test, family_shape, row_inverses}
use Rattle.definitions.specs.Refusals.{family_rows, value_tests}
use Rattle.definitions.specs.Refusals.{plain_tests, tree_tests, moments_tests, norms_tests}
use Rattle.definitions.specs.Reading.{found}
use Rattle.definitions.specs.Text.{WrittenJob, Job, meant}
use Rattle.definitions.specs.TextCall.{text_output_length, text_length_test, curve_count, text_output_test, length_tests, size_tests}
use Rattle.definitions.specs.TextCall.{job_tests, form_tests}
use Rattle.acceptance.specs.Verdicts.{verdict-here, verdict-behind, c-inverses-pass, c-zeros-pass}

abbrev pub call_from : ℕ → Family → List Test → List Test → List Test → List Test
call_from first f before between after = before ++ (family_shape f ++ (between ++ ((entries_test f ∷ row_inverses first f) ++ after)))

pub record CallOf (f : Family) (ts : List Test) : Type 0 where
  pub before : List Test
  pub between : List Test
  pub after : List Test
  pub tests : ts ≡ call_from first_c f before between after

-- ---- the calls
module _ (f : Family) (u : List ℕ) where
  abbrev pub curve_length : Test
  curve_length = curve_length_test (size f) (length u)

  abbrev pub curve_entries : List Test
  curve_entries = curve_entries_test f.m u ∷ []

  unfoldable pub plain_call : (output : ℕ) → CallOf f (plain_tests f u output)
  unfolding plain_tests value_tests family_rows
  plain_call output = record { before = []; between = curve_length ∷ output_test (size f) output ∷ []; after = curve_entries; tests = refl }

  unfoldable pub tree_call : (output work : ℕ) → CallOf f (tree_tests f u output work)
  unfolding tree_tests value_tests family_rows
  tree_call output work = record {
    before = [];
    between = curve_length ∷ output_test (size f) output ∷ work_test work ∷ [];
    after = curve_entries;
    tests = refl;
  }

unfoldable pub moments_call : (f : Family) (output work : ℕ) → CallOf f (moments_tests f output work)
unfolding moments_tests family_rows row_inverses
moments_call f output work =
    record { before = []; between = output_test (moment_count f) output ∷ work_test work ∷ []; after = []; tests = refl }

unfoldable pub norms_call : (f : Family) (output : ℕ) → CallOf f (norms_tests f output)
unfolding norms_tests family_rows row_inverses
norms_call f output = record { before = []; between = output_test (size f) output ∷ []; after = []; tests = refl }

module _ (j : Job) (output : ℕ) where
  abbrev pub job_curve : Test
  job_curve = curve_length_test (curve_count j.operation (rows j.family)) (length j.curve)

  abbrev pub job_entries : List Test
  job_entries = curve_entries_test j.family.m j.curve ∷ []

  unfoldable pub writing_call : CallOf j.family (writing_tests j output)
  unfolding writing_tests length_tests shape_tests value_tests family_rows
  writing_call = record { before = []; between = job_curve ∷ text_output_test job_output_length output ∷ []; after = job_entries; tests = refl }

-- a text of the form, in which the job w stands, behind 1 and 2
unfoldable pub text_call : (w : WrittenJob) (bytes output work : ℕ)
    → CallOf (meant w).family (text_length_test bytes ∷ form_tests (found w) output work)
unfolding form_tests job_tests size_tests length_tests shape_tests value_tests family_rows
text_call w bytes output work = record {
  before = text_length_test bytes ∷ test 2 false ∷ [];
  between = job_curve (meant w) output ∷ text_output_test text_output_length output ∷ work_test work ∷ [];
  after = job_entries (meant w) output;
  tests = refl;
}

-- ---- the range
module _ (f : Family) (all : (i : ℕ) → i < size f → HasInverse f.m (row_at f i).c) where
  c-from-any-row : 0 < f.m → (first later : ℕ) → c_inverse_test first f ≡ c_inverse_test later f
  unfolding c_inverse_test
  c-from-any-row pos first later =
      ap (test 11) ((c-inverses-pass f pos first).1 (λ i l h. all i h) ∙ sym ((c-inverses-pass f pos later).1 (λ i l h. all i h)))

  zeros-from-any-row : 0 < f.m → (first later : ℕ) → c_zero_test first f ≡ c_zero_test later f
  unfolding c_zero_test
  zeros-from-any-row pos first later =
      ap (test 18) (c-zeros-pass f pos first (λ i l h. all i h) ∙ sym (c-zeros-pass f pos later (λ i l h. all i h)))

  module _ (between after : List Test) (values : List ℕ) where
    -- no call takes the modulus 0
    zero-stops : f.m ≡ 0 → (first : ℕ) → verdict (call_from first f [] between after) values ≡ refused 3
    unfolding shape_tests modulus_test
    zero-stops e first = verdict-here (modulus_test f.m) _ values (ap (λ m. (modulus_test m).holds) e)

    from-any-row : (first later : ℕ)
        → verdict (call_from first f [] between after) values ≡ verdict (call_from later f [] between after) values
    unfolding row_inverses
    from-any-row first later = split f.m refl
      where
        split : (m : ℕ) → f.m ≡ m
            → verdict (call_from first f [] between after) values ≡ verdict (call_from later f [] between after) values
        split zero e = zero-stops e first ∙ sym (zero-stops e later)
        split (suc m) e = ap₂ (λ s t. verdict
            (family_shape f ++ (between ++ ((entries_test f ∷ a_zero_test f ∷ a_inverse_test f ∷ s ∷ t ∷ []) ++ after))) values)
            (zeros-from-any-row (omega arith) first later) (c-from-any-row (omega arith) first later)

pub verdict-from-any-row : (f : Family) (all : (i : ℕ) → i < size f → HasInverse f.m (row_at f i).c)
    → (ts : List Test) (call : CallOf f ts) (first : ℕ) (values : List ℕ)
    → verdict (call_from first f call.before call.between call.after) values ≡ verdict ts values
verdict-from-any-row f all ts call first values =
    verdict-behind call.before _ _ values (from-any-row f all call.between call.after values first first_c)
    ∙ ap (λ ts. verdict ts values) (sym call.tests)
