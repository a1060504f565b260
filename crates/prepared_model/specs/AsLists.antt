-- The operations on the record of an accepted family answer as with the lists.
-- Proved of each operation, for every output and working list: what the call on the record promises is what the call on the lists promises, the
-- answer, the output and the working list, refused ones too. Assumes nothing.
use Rattle.std.specs.Prelude.{◌≡◌, ℕ, length}
use Rattle.std.proofs.Common.{sym, ◌∙◌}
use Rattle.std.proofs.Math.Path.{ap}
use mathlib.Core.List.{List, [], ◌∷◌, ◌++◌, append-nil}
use Rattle.definitions.specs.Answers.{PlainCall, TreeCall, NormsCall, MomentsCall, after}
use Rattle.definitions.specs.Family.{Family, Accepted, family, size}
use Rattle.definitions.specs.Orthogonality.{moment_count, moments, norms}
use Rattle.definitions.specs.Prepared.{Prepared, prepared, own_rows, record_test}
use Rattle.definitions.specs.PreparedCalls.{prepared_plain_tests, prepared_tree_tests, prepared_norms_tests, prepared_moments_tests}
use Rattle.definitions.specs.PreparedCalls.{PreparedPlainCall, PreparedTreeCall, PreparedNormsCall, PreparedMomentsCall}
use Rattle.definitions.specs.Refusals.{Test, Verdict, verdict, curve_length_test, output_test, work_test, curve_entries_test}
use Rattle.definitions.specs.Refusals.{family_shape, family_rows, value_tests, plain_tests, tree_tests, moments_tests, norms_tests}
use Rattle.acceptance.specs.Acceptance.{family-passes}
use Rattle.acceptance.specs.Verdicts.{verdict-next, verdict-goes-on, verdict-behind}
use Rattle.prepared_model.specs.Preparing.{own-rows, prepared-right}
use Rattle.prepared_model.specs.Rightness.{record-passes}

module _ {m : ℕ} {a b c : List ℕ} (accepted : Accepted (family m a b c)) where
  abbrev f : Family
  f = family m a b c

  abbrev p : Prepared
  p = prepared f

  -- 14 passes, and so do the tests of the rows, whatever stands between and after
  same_tests : (between after : List Test) → verdict (record_test p ∷ (between ++ after)) []
      ≡ verdict (family_shape f ++ (between ++ (family_rows f ++ after))) []
  same_tests between after =
      let passes = (family-passes f).1 accepted in
      verdict-next (record_test p) (between ++ after) [] ((record-passes p).1 (prepared-right accepted))
      ∙ verdict-behind between after (family_rows f ++ after) [] (sym (verdict-goes-on after [] (family_rows f) passes.1))
      ∙ sym (verdict-goes-on (between ++ (family_rows f ++ after)) [] (family_shape f) passes.0)

  -- where the rows come last
  rows_last : (between : List Test) → verdict (family_shape f ++ (between ++ (family_rows f ++ []))) []
      ≡ verdict (family_shape f ++ (between ++ family_rows f)) []
  rows_last between = ap (λ ts. verdict (family_shape f ++ (between ++ ts)) []) (append-nil (family_rows f))

  module _ (v : Verdict) (output output' : List ℕ) where
    module _ (convert : Family → List ℕ → List ℕ) (u : List ℕ) where
      converts-same : after v (convert (own_rows p) u) output ≡ after v (convert f u) output
      converts-same = ap (λ g. after v (convert g u) output) (own-rows accepted)

      pub plain-as-lists : PreparedPlainCall convert p u v output output' → PlainCall convert f u v output output'
      unfolding prepared_plain_tests plain_tests value_tests
      plain-as-lists call = record {
        answer = call.answer
            ∙ ap (λ g. verdict (record_test p ∷ curve_length_test (size g) (length u) ∷ output_test (size g) (length output)
            ∷ curve_entries_test g.m u ∷ []) []) (own-rows accepted)
            ∙ same_tests (curve_length_test (size f) (length u) ∷ output_test (size f) (length output) ∷ []) (curve_entries_test m u ∷ []);
        written = call.written ∙ converts-same;
      }

      pub tree-as-lists : (work work' : List ℕ) → PreparedTreeCall convert p u v output output' work work'
          → TreeCall convert f u v output output' work work'
      unfolding prepared_tree_tests tree_tests value_tests
      tree-as-lists work work' call = record {
        answer = call.answer
            ∙ ap (λ g. verdict (record_test p ∷ curve_length_test (size g) (length u) ∷ output_test (size g) (length output)
            ∷ work_test (length work) ∷ curve_entries_test g.m u ∷ []) []) (own-rows accepted)
            ∙ same_tests (curve_length_test (size f) (length u) ∷ output_test (size f) (length output) ∷ work_test (length work) ∷ [])
            (curve_entries_test m u ∷ []);
        written = call.written ∙ converts-same;
        wiped = call.wiped;
      }

    pub norms-as-lists : PreparedNormsCall p v output output' → NormsCall f v output output'
    unfolding prepared_norms_tests norms_tests
    norms-as-lists call = record {
      answer = call.answer
          ∙ ap (λ g. verdict (record_test p ∷ output_test (size g) (length output) ∷ []) []) (own-rows accepted)
          ∙ same_tests (output_test (size f) (length output) ∷ []) [] ∙ rows_last (output_test (size f) (length output) ∷ []);
      written = call.written ∙ ap (λ g. after v (norms g) output) (own-rows accepted);
    }

    pub moments-as-lists : (work work' : List ℕ) → PreparedMomentsCall p v output output' work work'
        → MomentsCall f v output output' work work'
    unfolding prepared_moments_tests moments_tests
    moments-as-lists work work' call = record {
      answer = call.answer
          ∙ ap (λ g. verdict (record_test p ∷ output_test (moment_count g) (length output) ∷ work_test (length work) ∷ []) []) (own-rows accepted)
          ∙ same_tests (output_test (moment_count f) (length output) ∷ work_test (length work) ∷ []) []
          ∙ rows_last (output_test (moment_count f) (length output) ∷ work_test (length work) ∷ []);
      written = call.written ∙ ap (λ g. after v (moments g) output) (own-rows accepted);
      wiped = call.wiped;
    }
