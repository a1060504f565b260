-- The operations on a prepared family: the record stands in the place of m, a, b and c.
--   prepared_plain_tests, prepared_tree_tests, prepared_norms_tests, prepared_moments_tests
--                 the tests in their order: 14 in the place of 3, 4, 5, 9, 17, 10, 18 and 11, and then those of the lists that are lent
--   PreparedPlainCall, PreparedTreeCall, PreparedNormsCall, PreparedMomentsCall
--                 the promises: what the operation on the record's own rows hands out
-- Item 3 of the change requests. Assumes nothing.
use Rattle.std.specs.Prelude.{List, [], ◌∷◌, ℕ, length}
use Rattle.definitions.specs.Family.{Family, size}
use Rattle.definitions.specs.Orthogonality.{moment_count, moments, norms}
use Rattle.definitions.specs.Refusals.{Test, Verdict, curve_length_test, output_test, work_test, curve_entries_test}
use Rattle.definitions.specs.Answers.{Converted, ConvertedIn}
use Rattle.definitions.specs.Prepared.{Prepared, own_rows, record_test}

unfoldable pub prepared_plain_tests : Prepared → List ℕ → ℕ → List Test
prepared_plain_tests p u output =
    record_test p ∷ curve_length_test (size (own_rows p)) (length u) ∷ output_test (size (own_rows p)) output
    ∷ curve_entries_test p.modulus u ∷ []

unfoldable pub prepared_tree_tests : Prepared → List ℕ → ℕ → ℕ → List Test
prepared_tree_tests p u output work =
    record_test p ∷ curve_length_test (size (own_rows p)) (length u) ∷ output_test (size (own_rows p)) output ∷ work_test work
    ∷ curve_entries_test p.modulus u ∷ []

unfoldable pub prepared_norms_tests : Prepared → ℕ → List Test
prepared_norms_tests p output = record_test p ∷ output_test (size (own_rows p)) output ∷ []

unfoldable pub prepared_moments_tests : Prepared → ℕ → ℕ → List Test
prepared_moments_tests p output work = record_test p ∷ output_test (moment_count (own_rows p)) output ∷ work_test work ∷ []

-- convert is the definition of the conversion; v: what the answer says; output, output', work, work': the lent lists before and after
abbrev pub PreparedPlainCall : (Family → List ℕ → List ℕ) → Prepared → List ℕ → Verdict → List ℕ → List ℕ → Type 0
PreparedPlainCall convert p u v output output' =
    Converted (prepared_plain_tests p u (length output)) (convert (own_rows p) u) v output output'

abbrev pub PreparedTreeCall : (Family → List ℕ → List ℕ) → Prepared → List ℕ → Verdict → List ℕ → List ℕ → List ℕ → List ℕ → Type 0
PreparedTreeCall convert p u v output output' work work' =
    ConvertedIn (prepared_tree_tests p u (length output) (length work)) (convert (own_rows p) u) v output output' work work'

abbrev pub PreparedNormsCall : Prepared → Verdict → List ℕ → List ℕ → Type 0
PreparedNormsCall p v output output' = Converted (prepared_norms_tests p (length output)) (norms (own_rows p)) v output output'

abbrev pub PreparedMomentsCall : Prepared → Verdict → List ℕ → List ℕ → List ℕ → List ℕ → Type 0
PreparedMomentsCall p v output output' work work' =
    ConvertedIn (prepared_moments_tests p (length output) (length work)) (moments (own_rows p)) v output output' work work'
