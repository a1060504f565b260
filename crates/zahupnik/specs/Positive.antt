-- No test has the number 0, which tells of the finished kind.
--   Positive ts   the number of each test of ts that holds is above 0
-- Proved: so it is for the tests of each exported function. Assumes nothing.
use Rattle.std.specs.Prelude.{List, ◌++◌, ℕ, ◌<◌, ℤ, Option, Some}
use native.Mathlib.Omega.{arith}
use borrow.Author.Rules.{rules}
use Rattle.definitions.specs.Family.{Family, Row}
use Rattle.definitions.specs.Prepared.{Prepared, record_test, no_rows_test, absent_row_test, row_tests}
use Rattle.definitions.specs.Prepared.{empty_tests, append_tests, drop_tests, replace_tests}
use Rattle.definitions.specs.PreparedCalls.{prepared_plain_tests, prepared_tree_tests, prepared_norms_tests, prepared_moments_tests}
use Rattle.definitions.specs.Refusals.{Test, modulus_test, row_count_test, curve_length_test, output_test, work_test, curve_entries_test}
use Rattle.definitions.specs.Refusals.{number_test, number_inverse_test, equal_lengths_test, a_zero_test, a_inverse_test, c_zero_test}
use Rattle.definitions.specs.Refusals.{c_inverse_test}
use Rattle.definitions.specs.Refusals.{family_shape, family_rows, value_tests, plain_tests, tree_tests, moments_tests, norms_tests}
use Rattle.definitions.specs.Refusals.{inverse_tests}
use Rattle.definitions.specs.Text.{WrittenJob, meant}
use Rattle.definitions.specs.Reading.{Read, found, malformed, read_job}
use Rattle.definitions.specs.TextCall.{text_length_test, size_tests, length_tests, job_tests, form_tests, text_tests}
use Rattle.definitions.specs.JobWriting.{writing_tests}
use Rattle.definitions.specs.declared.Operation.{Operation}
use Rattle.joining.specs.Calls as Calls
use Rattle.joining.specs.Calls.{shared_factor_test, remainders_test, moduli_tests, list_tests, join_tests, a_tests, c_tests, both_rows}
use Rattle.joining.specs.Calls.{expand_join_tests}
use Rattle.joining.specs.Expanding.{Signed, reduced}
use Rattle.storing.specs.Calls.{entry_count_test, order_tests}
use Rattle.acceptance.specs.Given.{Given, given-append, shape-given, rows-given, values-given, lengths-given}
use Rattle.zahupnik.specs.Returned.{chosen_tests}

abbrev pub Positive : List Test → Type 0
Positive ts = Given (λ k. 0 < k) ts

-- the stages of a family and of a job
family-positive : (f : Family) (rest : List Test) → Positive rest → Positive (family_shape f ++ rest)
family-positive f rest later = given-append _ (family_shape f) rest (shape-given _ _ _ _ _ (omega arith) (omega arith) (omega arith)) later

rows-positive : (f : Family) → Positive (family_rows f)
rows-positive f = rows-given _ f (omega arith) (omega arith) (omega arith) (omega arith) (omega arith)

values-positive : (f : Family) (u : List ℕ) → Positive (value_tests f u)
values-positive f u = values-given _ f u (omega arith) (omega arith) (omega arith) (omega arith) (omega arith) (omega arith)

lengths-positive : (m : ℕ) (operation : Operation) (a b c u least output : ℕ) → Positive (length_tests m operation a b c u least output)
lengths-positive m operation a b c u least output =
    lengths-given _ m operation a b c u least output (omega arith) (omega arith) (omega arith) (omega arith) (λ e. omega arith)

-- the calls
module _ (f : Family) where
  pub plain-positive : (u : List ℕ) (output : ℕ) → Positive (plain_tests f u output)
  unfolding plain_tests curve_length_test output_test
  plain-positive u output = family-positive f _ (search rules, (search rules, values-positive f u))

  pub tree-positive : (u : List ℕ) (output work : ℕ) → Positive (tree_tests f u output work)
  unfolding tree_tests curve_length_test output_test work_test
  tree-positive u output work = family-positive f _ (search rules, (search rules, (search rules, values-positive f u)))

  pub moments-positive : (output work : ℕ) → Positive (moments_tests f output work)
  unfolding moments_tests output_test work_test
  moments-positive output work = family-positive f _ (search rules, (search rules, rows-positive f))

  pub norms-positive : (output : ℕ) → Positive (norms_tests f output)
  unfolding norms_tests output_test
  norms-positive output = family-positive f _ (search rules, rows-positive f)

pub inverse-positive : (m x : ℕ) → Positive (inverse_tests m x)
unfolding inverse_tests modulus_test number_test number_inverse_test
inverse-positive m x = search rules

form-positive : (r : Read) (output work : ℕ) → Positive (form_tests r output work)
unfolding form_tests job_tests size_tests work_test
form-positive malformed output work = search rules
form-positive (found w) output work = (
  λ e. omega arith,
  given-append _ (size_tests _ _ _ _ _ _ output work) _
      (given-append _ (length_tests _ _ _ _ _ _ _ output) _ (lengths-positive _ _ _ _ _ _ _ output) (search rules))
      (values-positive (meant w).family w.curve),
)

pub text-positive : (t : List ℕ) (output work : ℕ) → Positive (text_tests t output work)
unfolding text_tests text_length_test
text-positive t output work = (λ e. omega arith, form-positive (read_job t) output work)

pub chosen-positive : (choice : Option Operation) (job : Operation → WrittenJob) (output : ℕ) → Positive (chosen_tests choice job output)
unfolding chosen_tests writing_tests
chosen-positive Option.None job output = search rules
chosen-positive (Some operation) job output =
    let w = job operation in (
      λ e. omega arith,
      given-append _ (length_tests _ _ _ _ _ _ _ output) _
          (lengths-positive _ _ _ _ _ _ _ output)
          (values-positive (meant w).family w.curve),
    )

-- ---- a prepared family
row-positive : (m place : ℕ) (row : Row) → Positive (row_tests m place row)
unfolding row_tests
row-positive m place row = search rules

pub empty-positive : (m : ℕ) → Positive (empty_tests m)
unfolding empty_tests modulus_test
empty-positive m = search rules

module _ (p : Prepared) where
  pub append-positive : (row : Row) → Positive (append_tests p row)
  unfolding append_tests record_test row_count_test
  append-positive row = (λ e. omega arith, (λ e. omega arith, row-positive _ _ row))

  pub drop-positive : Positive (drop_tests p)
  unfolding drop_tests record_test no_rows_test
  drop-positive = search rules

  pub replace-positive : (i : ℕ) (row : Row) → Positive (replace_tests p i row)
  unfolding replace_tests record_test absent_row_test
  replace-positive i row = (λ e. omega arith, (λ e. omega arith, row-positive _ _ row))

  pub prepared-plain-positive : (u : List ℕ) (output : ℕ) → Positive (prepared_plain_tests p u output)
  unfolding prepared_plain_tests record_test curve_length_test output_test curve_entries_test
  prepared-plain-positive u output = search rules

  pub prepared-tree-positive : (u : List ℕ) (output work : ℕ) → Positive (prepared_tree_tests p u output work)
  unfolding prepared_tree_tests record_test curve_length_test output_test work_test curve_entries_test
  prepared-tree-positive u output work = search rules

  pub prepared-norms-positive : (output : ℕ) → Positive (prepared_norms_tests p output)
  unfolding prepared_norms_tests record_test output_test
  prepared-norms-positive output = search rules

  pub prepared-moments-positive : (output work : ℕ) → Positive (prepared_moments_tests p output work)
  unfolding prepared_moments_tests record_test output_test work_test
  prepared-moments-positive output work = search rules

-- ---- two channels
moduli-positive : (m m' : ℕ) → Positive (moduli_tests m m')
unfolding moduli_tests modulus_test shared_factor_test
moduli-positive m m' = search rules

pub join-positive : (m m' : ℕ) (xs ys : List ℕ) (output : ℕ) → Positive (join_tests m m' xs ys output)
unfolding join_tests list_tests remainders_test output_test curve_entries_test
join-positive m m' xs ys output = given-append _ (moduli_tests m m') (list_tests m m' xs ys output) (moduli-positive m m') (search rules)

sizes-positive : (a b c u output : ℕ) → Positive (Calls.size_tests a b c u output)
unfolding Calls.size_tests equal_lengths_test row_count_test curve_length_test output_test
sizes-positive a b c u output = search rules

both_positive : (f f' : Family) → Positive (both_rows f f')
unfolding both_rows a_tests c_tests a_zero_test a_inverse_test c_zero_test c_inverse_test
both_positive f f' = search rules

pub expand-join-positive : (m m' : ℕ) (s : Signed) (u : List ℤ) (output : ℕ) → Positive (expand_join_tests m m' s u output)
unfolding expand_join_tests
expand-join-positive m m' s u output =
    given-append _ (moduli_tests m m') _ (moduli-positive m m')
    (given-append _ (Calls.size_tests _ _ _ _ output) _ (sizes-positive _ _ _ _ output) (both_positive (reduced m s) (reduced m' s)))

-- a list in another order
pub order-positive : (n output : ℕ) → Positive (order_tests n output)
unfolding order_tests entry_count_test output_test
order-positive n output = search rules
