-- The inverses of a column of rows: the numbers from place first on up to row n, which are the entries of a list before place r, and then a
-- closing number.
--   column_tests  that the lowest of them without an inverse is zero, and that one of them has none, each with its number
--   Inverted      all of them have inverses
--   told number r the verdict that an answer tells, where a refusal has this number
-- Proved: where all have inverses both tests pass (column-none), and otherwise the lowest without one settles which refuses (lowest-zero,
-- lowest-shared), whether a pass over the list found it or it is the closing number; the tests 17, 10, 18 and 11 of a lent family are those
-- of its two columns (columns-remain), and one product settles them all (joint-passes). Assumes nothing.
use Rattle.std.specs.Prelude.{◌≡◌, refl, Bool, true, Option, Some, Result, Ok, Err, ℕ, suc, ◌+◌, ◌-◌, ◌<◌, ◌≤◌, length, get_or, take, drop}
use Rattle.std.proofs.Math.Path.{sym, ap}
use Rattle.std.proofs.Common.{◌∙◌, subst, true≢false, arith, length-drop, get_or-take, get_or-drop, length-take-le}
use Rattle.std.proofs.Math.Bool.{false, not-eq-not}
use mathlib.Core.List.{List, [], ◌∷◌, ◌++◌}
use Rattle.std.proofs.Math.Logic.{by_cases}
use Rattle.std.proofs.Math.Decide.{dec_lt}
use Rattle.std.proofs.Math.Dec.{eqb}
use borrow.Author.Tests.{eq-eqb, ne_eqb}
use Rattle.definitions.specs.Answers.{Answer, answered, number_of}
use Rattle.definitions.specs.Family.{Family, row_of, row_at}
use Rattle.definitions.specs.Number.{HasInverse}
use Rattle.definitions.specs.Refusals.{Test, Verdict, finished, refused, verdict, test, some, some_from, lowest_from, some_row, lowest_row}
use Rattle.definitions.specs.Refusals.{no_inverse}
use Rattle.definitions.specs.Refusals.{a_zero_test, a_inverse_test, c_zero_test, c_inverse_test, row_inverses}
use Rattle.acceptance.specs.Stages.{Remaining}
use Rattle.acceptance.specs.Verdicts.{None, none-append, verdict-here, verdict-next, verdict-finished, some-false, some_from-false}
use Rattle.acceptance.specs.Verdicts.{lowest-none, lowest-is, no_inverse-false, some-no_inverse-false}
use Rattle.lists.specs.Entries.{entry-inside, entry_past}
use Rattle.lists.specs.Lent.{lent}
use Rattle.inverses.specs.Joint.{Joint}
use Rattle.checks.specs.Passes.{First, FactorAnswer}
use Rattle.checks.specs.RowTests.{closed}
use Rattle.checks.specs.declared.Reason.{Reason}

unfoldable pub column_tests : ℕ → ℕ → ℕ → List ℕ → ℕ → ℕ → ℕ → List Test
column_tests m first r list close zero_number shared_number =
    test zero_number (lowest_from (λ i. no_inverse m (get_or (take r list) i close)) (λ i. eqb (get_or (take r list) i close) 0) first (suc r - first))
    ∷ test shared_number (some_from (λ i. no_inverse m (get_or (take r list) i close)) first (suc r - first))
    ∷ []

abbrev pub told : {E : Type 0} → (E → ℕ) → Result (Unit {0}) E → Verdict
told number (Ok _) = finished []
told number (Err e) = refused (number e)

pub told-answered : (r : Answer) → answered r ≡ told number_of r
told-answered (Ok tt) = refl
told-answered (Err k) = refl

abbrev pub Inverted : ℕ → ℕ → ℕ → List ℕ → ℕ → Type 0
Inverted m first r list close = (i : ℕ) → first ≤ i → i ≤ r → HasInverse m (get_or (take r list) i close)

module _ (m first r : ℕ) (list : List ℕ) (close zero_number shared_number : ℕ) (pos : 0 < m) where
  abbrev entry : ℕ → ℕ
  entry i = get_or (take r list) i close

  abbrev lacks : ℕ → Bool
  lacks i = no_inverse m (entry i)

  abbrev whole : Verdict
  whole = verdict (column_tests m first r list close zero_number shared_number) []

  pub column-none : Inverted m first r list close → None (column_tests m first r list close zero_number shared_number)
  unfolding column_tests
  column-none all = (lowest-none lacks _ first (suc r - first) none, ((some_from-false lacks first (suc r - first)).1 none, tt))
    where
      none : (i : ℕ) → first ≤ i → i < first + (suc r - first) → lacks i ≡ false
      none i l h = (no_inverse-false m (entry i) pos).1 (all i l (omega arith))

  pub column-finishes : Inverted m first r list close → finished [] ≡ whole
  column-finishes all = sym ((verdict-finished (column_tests m first r list close zero_number shared_number) []).1 (column-none all))

  -- the lowest without an inverse stands at place i
  module _ (i : ℕ) (l : first ≤ i) (h : i ≤ r) (before : (j : ℕ) → first ≤ j → j < i → lacks j ≡ false)
      (here : lacks i ≡ true) where
    lowest : lowest_from lacks (λ j. eqb (entry j) 0) first (suc r - first) ≡ eqb (entry i) 0
    lowest = lowest-is lacks _ first (suc r - first) i l (omega arith) (λ j k g. before j k (omega arith)) here

    one : some_from lacks first (suc r - first) ≡ true
    one = (not-eq-not {a = some_from lacks first (suc r - first)} {b = true}).0
        (λ none. true≢false (sym here ∙ (some_from-false lacks first (suc r - first)).0 none i l (omega arith)))

    pub lowest-zero : entry i ≡ 0 → refused zero_number ≡ whole
    unfolding column_tests
    lowest-zero e = sym (verdict-here _ _ [] (lowest ∙ eq-eqb (entry i) 0 e))

    pub lowest-shared : (entry i ≡ 0 → ⊥) → refused shared_number ≡ whole
    unfolding column_tests
    lowest-shared n = sym (verdict-next _ _ [] (lowest ∙ ne_eqb (entry i) 0 n) ∙ verdict-here _ _ [] one)

  -- count: how many numbers of the list are asked for their inverses, the last of the first r
  module _ (count : ℕ) (counted : count ≡ r - first) (long : r ≤ length list) where
    abbrev s : ℕ
    s = r - count

    abbrev pub asked : List ℕ
    asked = take (r - s) (drop s list)

    asked_entry : (i : ℕ) → i < r - s → get_or asked i 0 ≡ entry (s + i)
    asked_entry i h = get_or-take (r - s) (drop s list) i 0 h ∙ get_or-drop s list i 0 ∙ entry-inside r list long (s + i) close (omega arith)

    asked-length : length asked ≡ r - s
    asked-length = length-take-le (r - s) (drop s list) (omega (arith, length-drop s list))

    -- the entry at place j, where it is asked
    asked-at : (j : ℕ) → first ≤ j → j < r → (get_or asked (j - s) 0 ≡ entry j) × (j - s < length asked)
    asked-at j l h =
        let place : s + (j - s) ≡ j = omega arith in
        (asked_entry (j - s) (omega arith) ∙ ap entry place, omega (arith, asked-length))

    module _ (i : ℕ) (found : First (no_inverse m) asked i) where
      within : i < r - s
      within = omega (arith, found.place, asked-length)

      before : (j : ℕ) → first ≤ j → j < s + i → lacks j ≡ false
      before j l h =
          let w = within in
          subst (λ x. no_inverse m x ≡ false) (asked-at j l (omega arith)).0 (found.before (j - s) (omega arith))

      here : lacks (s + i) ≡ true
      here = subst (λ x. no_inverse m x ≡ true) (asked_entry i within) found.here

      pub found-zero : get_or asked i 0 ≡ 0 → refused zero_number ≡ whole
      found-zero e =
          let w = within in lowest-zero (s + i) (omega arith) (omega arith) before here (sym (asked_entry i within) ∙ e)

      pub found-shared : (get_or asked i 0 ≡ 0 → ⊥) → refused shared_number ≡ whole
      found-shared n =
          let w = within in lowest-shared (s + i) (omega arith) (omega arith) before here (λ e. n (asked_entry i within ∙ e))

    -- what the pass answers
    module _ (factors : Option (ℕ × Reason)) (is : FactorAnswer m asked factors) where
      pub pass-zero : (i : ℕ) (reason : Reason) → factors ≡ Some (i, reason) → reason ≡ Reason.Zero
          → refused zero_number ≡ whole
      pass-zero i reason e q =
          let said = subst (FactorAnswer m asked) (e ∙ ap (λ why. Some (i, why)) q) is in found-zero i said.0 said.1

      pub pass-shared : (i g : ℕ) (reason : Reason) → factors ≡ Some (i, reason) → reason ≡ Reason.Shared g
          → refused shared_number ≡ whole
      pass-shared i g reason e q =
          let said = subst (FactorAnswer m asked) (e ∙ ap (λ why. Some (i, why)) q) is in found-shared i said.0 said.1.not_zero

      -- the closing number, where every entry has an inverse
      module _ (e : factors ≡ Option.None) where
        passed : some (no_inverse m) asked ≡ false
        passed = subst (FactorAnswer m asked) e is

        entries-pass : (j : ℕ) → first ≤ j → j < r → lacks j ≡ false
        entries-pass j l h =
            let there = asked-at j l h in
            subst (λ x. no_inverse m x ≡ false) there.0 ((some-false (no_inverse m) asked 0).0 passed (j - s) there.1)

        last : entry r ≡ close
        last = sym (entry_past r list long r close (omega arith))

        pub closing-zero : first ≤ r → no_inverse m close ≡ true → close ≡ 0 → refused zero_number ≡ whole
        closing-zero l absent z =
            lowest-zero r l (omega arith) entries-pass (subst (λ x. no_inverse m x ≡ true) (sym last) absent) (last ∙ z)

        pub closing-shared : first ≤ r → no_inverse m close ≡ true → (close ≡ 0 → ⊥) → refused shared_number ≡ whole
        closing-shared l absent n =
            lowest-shared r l (omega arith) entries-pass (subst (λ x. no_inverse m x ≡ true) (sym last) absent) (λ z. n (sym last ∙ z))

        pub closing-passes : (first ≤ r → HasInverse m close) → finished [] ≡ whole
        closing-passes has = column-finishes (λ i l h. by_cases (dec_lt i r)
            (λ g. (no_inverse-false m (entry i) pos).0 (entries-pass i l g))
            (λ g. subst (HasInverse m) (entry_past r list long i close (omega arith)) (has (omega arith))))

-- ---- 17 and 10, 18 and 11
module _ (m r : ℕ) (a c : List ℕ) (first close_a close_c : ℕ) (pos : 0 < m) (a_long : r ≤ length a) (c_long : r ≤ length c)
    (b : List ℕ) (close_b : ℕ) where
  abbrev f : Family
  f = lent m r a b c (row_of close_a close_b close_c)

  abbrev a_column : List Test
  a_column = column_tests m 0 r a close_a 17 10

  abbrev c_column : List Test
  c_column = column_tests m first r c close_c 18 11

  rows_are : a_column ++ c_column ≡ row_inverses first f
  unfolding column_tests row_inverses a_zero_test a_inverse_test c_zero_test c_inverse_test lowest_row some_row row_at
  rows_are = ap (λ n.
      test 17 (lowest_from (λ i. no_inverse m (row_at f i).a) (λ i. eqb (row_at f i).a 0) 0 (suc n - 0))
      ∷ test 10 (some_from (λ i. no_inverse m (row_at f i).a) 0 (suc n - 0))
      ∷ test 18 (lowest_from (λ i. no_inverse m (row_at f i).c) (λ i. eqb (row_at f i).c 0) first (suc n - first))
      ∷ test 11 (some_from (λ i. no_inverse m (row_at f i).c) first (suc n - first))
      ∷ []) (sym (length-take-le r a a_long))

  pub columns-remain : Remaining (row_inverses first f) (a_column ++ c_column)
  columns-remain = record { same = λ values. ap (λ ts. verdict ts values) rows_are }

  -- a product of all has an inverse; last: the closing c where it is asked
  pub joint-passes : (count last product : ℕ) (counted : count ≡ r - first) → (first ≤ r → last ≡ close_c)
      → Joint m (take r a) close_a (asked m first r c close_c 18 11 pos count counted c_long) last product → HasInverse m product
      → finished [] ≡ verdict (row_inverses first f) []
  joint-passes count last product counted e joint h =
      let all = joint.settles h in
      let entries = (some-no_inverse-false m (take r a) close_a pos).0 ((some-no_inverse-false m (take r a) 0 pos).1 all.0.entries) in
      let in_a : Inverted m 0 r a close_a = λ i l h. closed (HasInverse m) (take r a) close_a entries all.0.number i in
      let in_c : Inverted m first r c close_c = c-inverted count last counted e all.1.entries all.1.number in
      sym ((verdict-finished (a_column ++ c_column) []).1 ((none-append a_column c_column).1
      (column-none m 0 r a close_a 17 10 pos in_a, column-none m first r c close_c 18 11 pos in_c)))
      ∙ columns-remain.same []
    where
      c-inverted : (count last : ℕ) (counted : count ≡ r - first) → (first ≤ r → last ≡ close_c)
          → ((i : ℕ) → i < length (asked m first r c close_c 18 11 pos count counted c_long)
          → HasInverse m (get_or (asked m first r c close_c 18 11 pos count counted c_long) i 0)) → HasInverse m last
          → Inverted m first r c close_c
      c-inverted count last counted e entries number i l h = by_cases (dec_lt i r)
          (λ g.
          let there = asked-at m first r c close_c 18 11 pos count counted c_long i l g in
          subst (HasInverse m) there.0 (entries (i - (r - count)) there.1))
          (λ g.
          subst (HasInverse m) (e (omega arith) ∙ entry_past r c c_long i close_c (omega arith)) number)
