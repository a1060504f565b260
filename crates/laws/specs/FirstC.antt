-- Which c_1 a family has makes no difference to what the calls on lists answer and hand out, as long as it is below m.
-- Proved of two families that differ in c_1 alone (begun of theory, FirstC), where both c_1 are below m: the tests on their rows are the
-- same, and what a call promises of the one it promises of the other: the answer, the output and the working list. So a family whose c_1
-- has no inverse is answered as the one whose c_1 is 1. Item 2 of the change requests. Assumes nothing.
use Rattle.std.specs.Prelude.{◌≡◌, ◌||◌, List}
use Rattle.std.proofs.Math.Path.{refl, sym, ap}
use Rattle.std.proofs.Common.{◌∙◌, arith}
use Prim.Native.Nat.{ℕ, zero, suc, ◌<◌, ◌≤◌}
use Rattle.std.proofs.Math.Dec.{eqb}
use Rattle.definitions.specs.Answers.{PlainCall, TreeCall, NormsCall, MomentsCall}
use Rattle.definitions.specs.Family.{Family, Row, first_c, row_at}
use Rattle.definitions.specs.Refusals.{Verdict, some_row, lowest_row, test, no_inverse, not_below}
use Rattle.definitions.specs.Refusals.{entries_test, a_zero_test, a_inverse_test, c_zero_test, c_inverse_test}
use Rattle.definitions.specs.Refusals.{row_inverses, family_rows, value_tests, plain_tests, tree_tests, moments_tests, norms_tests}
use Rattle.acceptance.specs.Verdicts.{not_below-false, some_from-equal, lowest-equal}
use Rattle.theory.specs.FirstC.{begun}
use Rattle.theory.proofs.FirstC.{moments-first, norms-first}

module _ (m : ℕ) (a b c : List ℕ) (close : Row) (x y : ℕ) (x_below : x < m) (y_below : y < m) where
  abbrev f : Family
  f = begun m a b c close x

  abbrev g : Family
  g = begun m a b c close y

  below-first : (i : ℕ) → not_below m (row_at f i).c ≡ not_below m (row_at g i).c
  unfolding row_at
  below-first zero = (not_below-false m x).1 x_below ∙ sym ((not_below-false m y).1 y_below)
  below-first (suc i) = refl

  same_entries : entries_test f ≡ entries_test g
  unfolding entries_test some_row row_at
  same_entries = ap (test 9) (some_from-equal _ _ 0 _
      (λ i l. ap (λ c. not_below m (row_at f i).a || not_below m (row_at f i).b || c) (below-first i)))

  same-zero-a : a_zero_test f ≡ a_zero_test g
  unfolding a_zero_test lowest_row row_at
  same-zero-a = refl

  same-a : a_inverse_test f ≡ a_inverse_test g
  unfolding a_inverse_test some_row row_at
  same-a = refl

  later-c : (i : ℕ) → first_c ≤ i → (row_at f i).c ≡ (row_at g i).c
  unfolding row_at
  later-c zero l = absurd (omega arith)
  later-c (suc i) l = refl

  same-zero-c : c_zero_test first_c f ≡ c_zero_test first_c g
  unfolding c_zero_test lowest_row
  same-zero-c = ap (test 18) (lowest-equal _ _ _ _ first_c _ (λ i l. ap (no_inverse m) (later-c i l)) (λ i l. ap (λ c. eqb c 0) (later-c i l)))

  same-c : c_inverse_test first_c f ≡ c_inverse_test first_c g
  unfolding c_inverse_test some_row
  same-c = ap (test 11) (some_from-equal _ _ first_c _ (λ i l. ap (no_inverse m) (later-c i l)))

  pub rows-first : family_rows f ≡ family_rows g
  unfolding family_rows row_inverses
  rows-first = rw (same_entries, same-zero-a, same-a, same-zero-c, same-c)

  module _ (v : Verdict) (output output' : List ℕ) where
    -- expand, adjoint and decompose are such conversions: expand-first, adjoint-first and decompose-first of theory
    module _ (convert : Family → List ℕ → List ℕ) (u : List ℕ) (same : convert f u ≡ convert g u) where
      pub plain-first : PlainCall convert g u v output output' → PlainCall convert f u v output output'
      unfolding plain_tests value_tests
      plain-first p = rw (rows-first, same) p

      pub tree-first : (work work' : List ℕ) → TreeCall convert g u v output output' work work'
          → TreeCall convert f u v output output' work work'
      unfolding tree_tests value_tests
      tree-first work work' p = rw (rows-first, same) p

    pub norms-call-first : NormsCall g v output output' → NormsCall f v output output'
    unfolding norms_tests
    norms-call-first p = rw (rows-first, norms-first m a b c close x y) p

    pub moments-call-first : (work work' : List ℕ) → MomentsCall g v output output' work work'
        → MomentsCall f v output output' work work'
    unfolding moments_tests
    moments-call-first work work' p = rw (rows-first, moments-first m a b c close x y) p
