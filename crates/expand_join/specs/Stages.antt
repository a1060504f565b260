-- The tests of Expand and join after those of the moduli, made one after another.
-- Proved: 4 and 5 are those of a family whose modulus has passed (shape-lengths); the columns settle the tests of the rows, whatever the b
-- (first-a-refuses and those after it); where 4 to 7 pass, the lists are sized as the rows' tests ask (sizes-pass). Assumes nothing.
use Rattle.std.specs.Prelude.{List, [], ◌∷◌, ◌++◌, ◌≡◌, ℕ, ℤ, length, Ok, Err}
use Rattle.std.proofs.Common.{sym, ◌∙◌, ap}
use Rattle.definitions.specs.Answers.{Answer, answered}
use Rattle.definitions.specs.Family.{Family, Modulus, first_c}
use Rattle.definitions.specs.Refusals.{Test, verdict, modulus_test, equal_lengths_test, row_count_test, shape_tests}
use Rattle.acceptance.specs.Stages.{Remaining, all-remain, stage-none, stage-refuses, stage-passes, stages-end}
use Rattle.acceptance.specs.Verdicts.{verdict-next, modulus-passes, equal-lengths-pass, row-count-passes}
use Rattle.checks.specs.Columns.{column_tests}
use Rattle.joining.specs.Expanding.{signed, reduced_list, reduced}
use Rattle.joining.specs.Calls.{a_tests, c_tests, both_rows, size_tests}
use Rattle.expand_join.specs.Input.{Sized}
use Rattle.expand_join.specs.Rows.{a-column, c-column}
use Rattle.definitions.specs.declared.Refusal.{Refusal}

-- ---- 4 to 7
pub shape-lengths : (m a b c : ℕ) → Modulus m → (r : Answer) → answered r ≡ verdict (shape_tests m a b c) []
    → answered r ≡ verdict (equal_lengths_test a b c ∷ row_count_test a ∷ []) []
unfolding shape_tests
shape-lengths m a b c modulus r is = is ∙ verdict-next (modulus_test m) _ [] ((modulus-passes m).1 modulus)

pub sizes-pass : (a b c u output : ℕ) (r : Answer) → answered r ≡ verdict (size_tests a b c u output) [] → r ≡ Ok tt → Sized a c
unfolding size_tests
sizes-pass a b c u output r is q =
    let (e4, (e5, rest)) = stage-none (size_tests a b c u output) r is q in
    record { few = (row-count-passes a).0 e5; same = ((equal-lengths-pass a b c).0 e4).1 }

-- ---- the rows
module _ (m m' : ℕ) (a c : List ℤ) (same : length c ≡ length a) (b : List ℤ) where
  abbrev f : Family
  f = reduced m (signed a b c)

  abbrev f' : Family
  f' = reduced m' (signed a b c)

  -- a column's answer is that of the tests of a family
  as-tests : (r : Answer) (column tests : List Test) → answered r ≡ verdict column [] → tests ≡ column → answered r ≡ verdict tests []
  as-tests r column tests is e = is ∙ ap (λ ts. verdict ts []) (sym e)

  module _ (r₁ : Answer) (is₁ : answered r₁ ≡ verdict (column_tests m 0 (length a) (reduced_list m a) 1 17 10) []) where
    own₁ : answered r₁ ≡ verdict (a_tests f) []
    own₁ = as-tests r₁ _ _ is₁ (a-column m a b c)

    pub first-a-refuses : (k : Refusal) → r₁ ≡ Err k → answered r₁ ≡ verdict (both_rows f f') []
    unfolding both_rows
    first-a-refuses = stage-refuses (a_tests f) (a_tests f' ++ (c_tests f ++ c_tests f')) all-remain r₁ own₁

    module _ (q₁ : r₁ ≡ Ok tt) (r₂ : Answer)
        (is₂ : answered r₂ ≡ verdict (column_tests m' 0 (length a) (reduced_list m' a) 1 17 10) []) where
      own₂ : answered r₂ ≡ verdict (a_tests f') []
      own₂ = as-tests r₂ _ _ is₂ (a-column m' a b c)

      left₁ : Remaining (both_rows f f') (a_tests f' ++ (c_tests f ++ c_tests f'))
      unfolding both_rows
      left₁ = stage-passes (a_tests f) (a_tests f' ++ (c_tests f ++ c_tests f')) all-remain r₁ own₁ q₁

      pub second-a-refuses : (k : Refusal) → r₂ ≡ Err k → answered r₂ ≡ verdict (both_rows f f') []
      second-a-refuses = stage-refuses (a_tests f') (c_tests f ++ c_tests f') left₁ r₂ own₂

      module _ (q₂ : r₂ ≡ Ok tt) (r₃ : Answer)
          (is₃ : answered r₃ ≡ verdict (column_tests m first_c (length c) (reduced_list m c) 1 18 11) []) where
        own₃ : answered r₃ ≡ verdict (c_tests f) []
        own₃ = as-tests r₃ _ _ is₃ (c-column m a b c same)

        left₂ : Remaining (both_rows f f') (c_tests f ++ c_tests f')
        left₂ = stage-passes (a_tests f') (c_tests f ++ c_tests f') left₁ r₂ own₂ q₂

        pub first-c-refuses : (k : Refusal) → r₃ ≡ Err k → answered r₃ ≡ verdict (both_rows f f') []
        first-c-refuses = stage-refuses (c_tests f) (c_tests f') left₂ r₃ own₃

        pub second-c-settles : r₃ ≡ Ok tt → (r₄ : Answer)
            → answered r₄ ≡ verdict (column_tests m' first_c (length c) (reduced_list m' c) 1 18 11) [] → answered r₄ ≡ verdict (both_rows f f') []
        second-c-settles q₃ r₄ is₄ =
            stages-end (c_tests f') (stage-passes (c_tests f) (c_tests f') left₂ r₃ own₃ q₃) r₄ (as-tests r₄ _ _ is₄ (c-column m' a b c same))
