-- A change, from the answer of its tests.
-- Proved: 5, 15 and 16 after a record that is right; where the tests refuse, the change keeps its promise with the record that it was handed; where
-- they pass, its input is one that it takes, its arrays can be prepared, and it keeps its promise with the record of the changed family.
-- Assumes nothing.
use Rattle.std.specs.Prelude.{◌≡◌, ℕ, suc, ◌+◌, ◌-◌, ◌<◌, ◌≤◌, length, get_or, set, replicate, Ok, Err}
use Rattle.std.proofs.Common.{sym, ◌∙◌, ap}
use mathlib.Core.List.{List, [], ◌∷◌}
use native.Mathlib.Omega.{arith}
use Rattle.std.proofs.lemmas.List.{length-replicate}
use Rattle.definitions.specs.Answers.{Answer, answered}
use Rattle.definitions.specs.Family.{Row, Modulus, most_rows, ones, family}
use Rattle.definitions.specs.Prepared.{Prepared, Changed, handed_back, prepared, all_zeros, most_norms, record_test, no_rows_test}
use Rattle.definitions.specs.Prepared.{absent_row_test, row_tests}
use Rattle.definitions.specs.Prepared.{empty_tests, append_tests, drop_tests, replace_tests, EmptyCall, AppendCall, DropCall, ReplaceCall}
use Rattle.definitions.specs.Refusals.{Test, finished, refused, verdict, modulus_test, row_count_test}
use Rattle.acceptance.specs.Stages.{all-remain, stage-none, stage-passes}
use Rattle.acceptance.specs.Verdicts.{modulus-passes, row-count-passes}
use Rattle.checks.specs.Settling.{refuses, goes_on, refuses-alone, finishes}
use Rattle.lists.specs.Lent.{lent}
use Rattle.prepared_model.specs.Accepting.{AppendInput, DropInput, ReplaceInput, append-passes, drop-passes, replace-passes}
use Rattle.prepared_model.specs.Accepting.{no-rows-passes, absent-row-passes}
use Rattle.prepared_model.specs.Changing.{append-rows, drop-rows, replace-rows}
use Rattle.prepared_model.specs.Padding.{zeros-entry}
use Rattle.prepared_model.specs.Parts.{fields}
use Rattle.prepared_model.specs.Preparing.{Preparable}
use Rattle.prepared_model.specs.Rightness.{right-few}
use Rattle.prepared_model.specs.Rows.{rows-accepted}
use Rattle.definitions.specs.declared.Refusal.{Refusal}

-- ---- 5, 15 and 16, where 14 has passed
module _ (p : Prepared) (r : Answer) (is : answered r ≡ verdict (record_test p ∷ []) []) (q : r ≡ Ok tt) where
  module _ (row : Row) where
    pub append-full : most_rows ≤ p.rows → refused 5 ≡ verdict (append_tests p row) []
    unfolding append_tests row_count_test
    append-full h =
        refuses (row_count_test (suc p.rows)) (row-count-passes (suc p.rows)) _ [] (λ few. absurd (omega arith))
        ∙ (stage-passes (record_test p ∷ []) _ all-remain r is q).same []

    pub append-room : p.rows < most_rows → (tested : Answer) → answered tested ≡ verdict (row_tests p.modulus p.rows row) []
        → answered tested ≡ verdict (append_tests p row) []
    unfolding append_tests
    append-room h tested e =
        e ∙ goes_on (row_count_test (suc p.rows)) (row-count-passes (suc p.rows)) _ [] (omega arith)
        ∙ (stage-passes (record_test p ∷ []) _ all-remain r is q).same []

  pub drop-none : p.rows ≡ 0 → refused 15 ≡ verdict (drop_tests p) []
  unfolding drop_tests no_rows_test
  drop-none e =
      refuses-alone (no_rows_test p) (no-rows-passes p) (λ h. absurd (omega arith)) ∙ (stage-passes _ _ all-remain r is q).same []

  pub drop-some : (p.rows ≡ 0 → ⊥) → finished [] ≡ verdict (drop_tests p) []
  unfolding drop_tests
  drop-some n = finishes (no_rows_test p) (no-rows-passes p) (omega arith) ∙ (stage-passes _ _ all-remain r is q).same []

  module _ (i : ℕ) (row : Row) where
    pub replace_absent : ((1 ≤ i) × (i ≤ p.rows) → ⊥) → refused 16 ≡ verdict (replace_tests p i row) []
    unfolding replace_tests absent_row_test
    replace_absent n =
        refuses (absent_row_test p i) (absent-row-passes p i) _ [] n ∙ (stage-passes (record_test p ∷ []) _ all-remain r is q).same []

    pub replace_present : (i ≡ 0 → ⊥) → i ≤ p.rows → (tested : Answer) → answered tested ≡ verdict (row_tests p.modulus (i - 1) row) []
        → answered tested ≡ verdict (replace_tests p i row) []
    unfolding replace_tests
    replace_present first last tested e =
        e ∙ goes_on (absent_row_test p i) (absent-row-passes p i) _ [] (omega arith, last)
        ∙ (stage-passes (record_test p ∷ []) _ all-remain r is q).same []

-- ---- what a change hands out
module _ (tests : List Test) (new old : Prepared) (r : Answer) (is : answered r ≡ verdict tests []) where
  pub change-refused : (k : Refusal) → r ≡ Err k → Changed tests new old (answered r) old
  change-refused k q = record { answer = is; handed = sym (ap (λ x. handed_back (answered x) new old) q) }

  pub change-made : (out : Prepared) → r ≡ Ok tt → out ≡ new → Changed tests new old (answered (Ok tt)) out
  change-made out q e = record { answer = sym (ap answered q) ∙ is; handed = e }

module _ (p : Prepared) (row : Row) (r : Answer) (is : answered r ≡ verdict (append_tests p row) []) (q : r ≡ Ok tt) where
  pub append-taken : AppendInput p row
  append-taken = (append-passes p row).0 (stage-none (append_tests p row) r is q)

  pub append-made : (out : Prepared) → out ≡ prepared (lent p.modulus (p.rows + 1) (set p.a p.rows row.a)
      (set p.b p.rows row.b) (set p.c p.rows row.c) ones) → AppendCall p row (answered (Ok tt)) out
  append-made out e = change-made (append_tests p row) _ p r is out q (e ∙ ap prepared (append-rows append-taken))

module _ (p : Prepared) (r : Answer) (is : answered r ≡ verdict (drop_tests p) []) (q : r ≡ Ok tt) where
  pub drop-taken : DropInput p
  drop-taken = (drop-passes p).0 (stage-none (drop_tests p) r is q)

  pub drop-within : p.rows - 1 < most_rows
  drop-within = omega (arith, drop-taken.some, right-few drop-taken.right)

  pub drop-made : (out : Prepared) → out ≡ prepared (lent p.modulus (p.rows - 1) (set p.a (p.rows - 1) 0)
      (set p.b (p.rows - 1) 0) (set p.c (p.rows - 1) 0) ones) → DropCall p (answered (Ok tt)) out
  drop-made out e = change-made (drop_tests p) _ p r is out q (e ∙ ap prepared (drop-rows drop-taken))

module _ (p : Prepared) (i : ℕ) (row : Row) (r : Answer) (is : answered r ≡ verdict (replace_tests p i row) [])
    (q : r ≡ Ok tt) where
  pub replace-taken : ReplaceInput p i row
  replace-taken = (replace-passes p i row).0 (stage-none (replace_tests p i row) r is q)

  pub replace-within : i - 1 < most_rows
  replace-within =
      omega (arith, replace-taken.first, replace-taken.last, right-few replace-taken.right)

  pub replace-made : (out : Prepared) → out ≡ prepared (lent p.modulus p.rows (set p.a (i - 1) row.a)
      (set p.b (i - 1) row.b) (set p.c (i - 1) row.c) ones) → ReplaceCall p i row (answered (Ok tt)) out
  replace-made out e = change-made (replace_tests p i row) _ p r is out q (e ∙ ap prepared (replace-rows replace-taken))

-- ---- the empty family
pub empty-refused : (m : ℕ) (r : Answer) → answered r ≡ verdict (modulus_test m ∷ []) [] → (k : Refusal) → r ≡ Err k
    → (none d : List ℕ) → none ≡ replicate most_rows 0 → d ≡ replicate most_norms 0
    → EmptyCall m (answered r) (fields 0 0 none none none none none d)
unfolding empty_tests all_zeros
empty-refused m r is k q none d none_is d_is =
    rw (none_is, d_is) (change-refused (empty_tests m) (prepared (family m [] [] [])) all_zeros r is k q)

module _ (m : ℕ) (r : Answer) (is : answered r ≡ verdict (modulus_test m ∷ []) []) (q : r ≡ Ok tt)
    (none : List ℕ) (none_is : none ≡ replicate most_rows 0) where
  modulus : Modulus m
  modulus = (modulus-passes m).0 (stage-none (modulus_test m ∷ []) r is q).0

  long : length none ≡ most_rows
  long = ap length none_is ∙ length-replicate {A = ℕ} most_rows 0

  zeros : (i : ℕ) → 0 ≤ i → get_or none i 0 ≡ 0
  zeros i l = ap (λ xs. get_or xs i 0) none_is ∙ zeros-entry most_rows i

  pub empty-preparable : Preparable m 0 none none none
  empty-preparable = record {
    accepted = rows-accepted {r = 0} {a = none} {b = none} {c = none} modulus (omega arith)
        (record { a_long = omega arith; b_long = omega arith; c_long = omega arith })
        (λ i h. absurd (omega arith));
    few = omega arith;
    a_length = long;
    b_length = long;
    c_length = long;
    a_zeros = zeros;
    b_zeros = zeros;
    c_zeros = zeros;
  }

  pub empty-made : (out : Prepared) → out ≡ prepared (lent m 0 none none none ones) → EmptyCall m (answered (Ok tt)) out
  unfolding empty_tests
  empty-made out e = change-made (empty_tests m) _ all_zeros r is out q e
