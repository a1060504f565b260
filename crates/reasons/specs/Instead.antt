-- Without the reason the calls answer by 10 and 11 alone.
--   reasonless v     the verdict v with 10 in the place of 17, and 11 in that of 18
--   without_reasons  the tests of a call on a family whose rows are tested by 9, 10 and 11
--   Unreasoned ts    no test of ts that holds has the number 17 or 18
-- Proved of each call on a family, of the text call on any bytes, and of the changes of a record that take a row: its verdict without the reason is
-- that of these tests. So 17 is given at the place of 10 and instead of it, 18 instead of 11, and every other answer is the same. 14 is given
-- to the records to which it is given without 17 and 18 (record-stays). Assumes nothing.
use Rattle.std.specs.Prelude.{◌≡◌, Bool, not, ◌||◌, ◌&&◌, ℕ, suc, ◌*◌, ◌-◌, ◌%◌, leb, length}
use Rattle.std.proofs.Math.Path.{refl, ap}
use Rattle.std.proofs.Common.{sym, ◌∙◌, true≢false, zero-mul, eqb-true}
use Rattle.std.proofs.Math.Bool.{true, false}
use mathlib.Core.List.{List, [], ◌∷◌, ◌++◌, append-nil}
use Rattle.std.proofs.Math.Nat.{zero-mod}
use Rattle.std.proofs.Math.Dec.{eqb}
use Rattle.definitions.specs.Family.{Family, Row, first_c, row_at, size}
use Rattle.definitions.specs.JobWriting.{job_output_length, writing_tests}
use Rattle.definitions.specs.Number.{inverse}
use Rattle.definitions.specs.Orthogonality.{moment_count}
use Rattle.definitions.specs.Prepared.{Prepared, own_rows, prepared, any_holds, differs, broken, record_test, absent_row_test}
use Rattle.definitions.specs.Prepared.{row_tests, append_tests, replace_tests}
use Rattle.definitions.specs.Reading.{Read, found, malformed, read_job}
use Rattle.definitions.specs.Refusals.{Test, Verdict, finished, refused, verdict, test, some_row, lowest_row, no_inverse}
use Rattle.definitions.specs.Refusals.{row_count_test, curve_length_test, output_test, work_test}
use Rattle.definitions.specs.Refusals.{entries_test, a_zero_test, a_inverse_test, c_zero_test, c_inverse_test}
use Rattle.definitions.specs.Refusals.{curve_entries_test, family_shape, row_inverses, family_rows, plain_tests, tree_tests, moments_tests}
use Rattle.definitions.specs.Refusals.{norms_tests}
use Rattle.definitions.specs.Text.{Job, meant}
use Rattle.definitions.specs.TextCall.{text_output_length, text_length_test, text_output_test, form_tests, text_tests}
use Rattle.acceptance.specs.Given.{Given, shape-given}
use Rattle.acceptance.specs.NewRow.{nine, ten, eleven}
use Rattle.acceptance.specs.Range.{CallOf, curve_length, curve_entries, job_curve, job_entries}
use Rattle.acceptance.specs.Range.{plain_call, tree_call, moments_call, norms_call, writing_call, text_call}
use Rattle.acceptance.specs.Verdicts.{verdict-here, verdict-next}
use Rattle.reasons.specs.Lowest.{lowest-some}

abbrev pub reasonless_number : ℕ → ℕ
reasonless_number k = elim (eqb k 17) [ true ↦ 10 | false ↦ elim (eqb k 18) [ true ↦ 11 | false ↦ k ] ]

abbrev pub reasonless : Verdict → Verdict
reasonless (finished values) = finished values
reasonless (refused k) = refused (reasonless_number k)

abbrev pub Unreasoned : List Test → Type 0
Unreasoned ts = Given (λ k. reasonless_number k ≡ k) ts

-- ---- tests that have another number, and a test before the one that it tells apart
module _ (values : List ℕ) where
  past : (ts us earlier : List Test) → Unreasoned ts → reasonless (verdict us values) ≡ verdict earlier values
      → reasonless (verdict (ts ++ us) values) ≡ verdict (ts ++ earlier) values
  past [] us earlier none e = e
  past (t ∷ ts) us earlier none e = split t.holds refl (past ts us earlier none.1 e)
    where
      split : (h : Bool) → t.holds ≡ h → reasonless (verdict (ts ++ us) values) ≡ verdict (ts ++ earlier) values
          → reasonless (verdict (t ∷ ts ++ us) values) ≡ verdict (t ∷ ts ++ earlier) values
      split true q rest =
          ap reasonless (verdict-here t (ts ++ us) values q) ∙ ap refused (none.0 q) ∙ sym (verdict-here t (ts ++ earlier) values q)
      split false q rest = ap reasonless (verdict-next t (ts ++ us) values q) ∙ rest ∙ sym (verdict-next t (ts ++ earlier) values q)

  instead : (reason number : ℕ) (zero lacks : Bool) (us earlier : List Test) → reasonless_number reason ≡ number
      → reasonless_number number ≡ number → (zero ≡ true → lacks ≡ true) → reasonless (verdict us values) ≡ verdict earlier values
      → reasonless (verdict (test reason zero ∷ test number lacks ∷ us) values) ≡ verdict (test number lacks ∷ earlier) values
  unfolding verdict
  instead reason number true true us earlier e same implies rest = ap refused e
  instead reason number true false us earlier e same implies rest = let no = implies refl in absurd (true≢false (sym no))
  instead reason number false true us earlier e same implies rest = ap refused same
  instead reason number false false us earlier e same implies rest = rest

  none_left : reasonless (verdict [] values) ≡ verdict [] values
  unfolding verdict
  none_left = refl

  unreasoned-end : (after : List Test) → Unreasoned after → reasonless (verdict after values) ≡ verdict after values
  unreasoned-end after none =
      ap (λ ts. reasonless (verdict ts values)) (sym (append-nil after))
      ∙ past after [] [] none none_left ∙ ap (λ ts. verdict ts values) (append-nil after)

-- ---- the calls on a family
abbrev pub without_reasons : Family → List Test → List Test → List Test → List Test
without_reasons f before between after =
    before ++ (family_shape f ++ (between ++ ((entries_test f ∷ a_inverse_test f ∷ c_inverse_test first_c f ∷ []) ++ after)))

module _ (f : Family) (values : List ℕ) where
  a-implied : (a_zero_test f).holds ≡ true → (a_inverse_test f).holds ≡ true
  unfolding a_zero_test a_inverse_test lowest_row some_row
  a-implied = lowest-some (λ i. no_inverse f.m (row_at f i).a) (λ i. eqb (row_at f i).a 0) 0 (size f - 0)

  c-implied : (c_zero_test first_c f).holds ≡ true → (c_inverse_test first_c f).holds ≡ true
  unfolding c_zero_test c_inverse_test lowest_row some_row
  c-implied = lowest-some (λ i. no_inverse f.m (row_at f i).c) (λ i. eqb (row_at f i).c 0) first_c (size f - first_c)

  module _ (ts : List Test) (call : CallOf f ts) (before : Unreasoned call.before) (between : Unreasoned call.between)
      (after : Unreasoned call.after) where
    pub answers_stay : reasonless (verdict ts values) ≡ verdict (without_reasons f call.before call.between call.after) values
    unfolding row_inverses entries_test a_zero_test a_inverse_test c_zero_test c_inverse_test
    answers_stay =
        ap (λ us. reasonless (verdict us values)) call.tests
        ∙ past values call.before _ _ before
        (past values (family_shape f) _ _ (shape-given (λ k. reasonless_number k ≡ k) _ _ _ _ refl refl refl)
        (past values call.between _ _ between
        (past values (entries_test f ∷ []) _ _ (λ e. refl, tt)
        (instead values 17 10 (a_zero_test f).holds (a_inverse_test f).holds _ _ refl refl a-implied
        (instead values 18 11 (c_zero_test first_c f).holds (c_inverse_test first_c f).holds _ _ refl refl c-implied
        (unreasoned-end values call.after after))))))

module _ (f : Family) (u values : List ℕ) where
  pub plain-stays : (output : ℕ) → reasonless (verdict (plain_tests f u output) values)
      ≡ verdict (without_reasons f [] (curve_length f u ∷ output_test (size f) output ∷ []) (curve_entries f u)) values
  unfolding plain_call curve_length_test output_test curve_entries_test
  plain-stays output = answers_stay f values _ (plain_call f u output) tt (λ e. refl, (λ e. refl, tt)) (λ e. refl, tt)

  pub tree-stays : (output work : ℕ) → reasonless (verdict (tree_tests f u output work) values)
      ≡ verdict (without_reasons f [] (curve_length f u ∷ output_test (size f) output ∷ work_test work ∷ []) (curve_entries f u)) values
  unfolding tree_call curve_length_test output_test work_test curve_entries_test
  tree-stays output work =
      answers_stay f values _ (tree_call f u output work) tt (λ e. refl, (λ e. refl, (λ e. refl, tt))) (λ e. refl, tt)

module _ (f : Family) (values : List ℕ) where
  pub moments-stay : (output work : ℕ) → reasonless (verdict (moments_tests f output work) values)
      ≡ verdict (without_reasons f [] (output_test (moment_count f) output ∷ work_test work ∷ []) []) values
  unfolding moments_call output_test work_test
  moments-stay output work = answers_stay f values _ (moments_call f output work) tt (λ e. refl, (λ e. refl, tt)) tt

  pub norms-stay : (output : ℕ) → reasonless (verdict (norms_tests f output) values)
      ≡ verdict (without_reasons f [] (output_test (size f) output ∷ []) []) values
  unfolding norms_call output_test
  norms-stay output = answers_stay f values _ (norms_call f output) tt (λ e. refl, tt) tt

module _ (j : Job) (output : ℕ) (values : List ℕ) where
  pub writing-stays : reasonless (verdict (writing_tests j output) values)
      ≡ verdict (without_reasons j.family [] (job_curve j output ∷ text_output_test job_output_length output ∷ []) (job_entries j output)) values
  unfolding writing_call curve_length_test text_output_test curve_entries_test
  writing-stays = answers_stay j.family values _ (writing_call j output) tt (λ e. refl, (λ e. refl, tt)) (λ e. refl, tt)

-- any bytes: what is read in them decides which tests stand behind 1 and 2
abbrev pub text_without_reasons : Read → ℕ → ℕ → ℕ → List Test
text_without_reasons malformed bytes output work = text_length_test bytes ∷ test 2 true ∷ []
text_without_reasons (found w) bytes output work =
    without_reasons (meant w).family (text_length_test bytes ∷ test 2 false ∷ [])
    (job_curve (meant w) output ∷ text_output_test text_output_length output ∷ work_test work ∷ []) (job_entries (meant w) output)

pub text-stays : (t : List ℕ) (output work : ℕ) (values : List ℕ)
    → reasonless (verdict (text_tests t output work) values) ≡ verdict (text_without_reasons (read_job t) (length t) output work) values
unfolding text_tests text_length_test form_tests text_call curve_length_test text_output_test work_test curve_entries_test
text-stays t output work values = by (read_job t)
  where
    by : (r : Read) → reasonless (verdict (text_length_test (length t) ∷ form_tests r output work) values)
        ≡ verdict (text_without_reasons r (length t) output work) values
    by malformed = unreasoned-end values (text_length_test (length t) ∷ test 2 true ∷ []) (λ e. refl, (λ e. refl, tt))
    by (found w) = answers_stay (meant w).family values _ (text_call w (length t) output work)
        (λ e. refl, (λ e. refl, tt)) (λ e. refl, (λ e. refl, (λ e. refl, tt))) (λ e. refl, tt)

-- ---- 14: a record's rows are tested by 3, 4, 5, 9, 10 and 11 with the same end
or-implied : (z s t : Bool) → (z ≡ true → s ≡ true) → (z || (s || t)) ≡ (s || t)
or-implied true true t implies = refl
or-implied true false t implies = absurd (true≢false (sym (implies refl)))
or-implied false s t implies = refl

any-behind : (before ts us : List Test) → any_holds ts ≡ any_holds us → any_holds (before ++ ts) ≡ any_holds (before ++ us)
unfolding any_holds
any-behind [] ts us e = e
any-behind (t ∷ before) ts us e = ap (λ h. t.holds || h) (any-behind before ts us e)

rows_alike : (f : Family) → any_holds (entries_test f ∷ a_zero_test f ∷ a_inverse_test f ∷ c_zero_test first_c f ∷ c_inverse_test first_c f ∷ [])
    ≡ any_holds (entries_test f ∷ a_inverse_test f ∷ c_inverse_test first_c f ∷ [])
unfolding any_holds
rows_alike f = ap (λ h. (entries_test f).holds || h)
    (or-implied (a_zero_test f).holds (a_inverse_test f).holds _ (a-implied f [])
    ∙ ap (λ h. (a_inverse_test f).holds || h) (or-implied (c_zero_test first_c f).holds (c_inverse_test first_c f).holds _ (c-implied f [])))

pub rows-hold-alike : (f : Family) → any_holds (family_shape f ++ family_rows f)
    ≡ any_holds (family_shape f ++ (entries_test f ∷ a_inverse_test f ∷ c_inverse_test first_c f ∷ []))
unfolding family_rows row_inverses
rows-hold-alike f = any-behind (family_shape f) _ _ (rows_alike f)

pub record-stays : (p : Prepared) → let f = own_rows p in record_test p
    ≡ test 14 (any_holds (family_shape f ++ (entries_test f ∷ a_inverse_test f ∷ c_inverse_test first_c f ∷ [])) || differs p (prepared f))
unfolding record_test broken
record-stays p = ap (λ h. test 14 (h || differs p (prepared (own_rows p)))) (rows-hold-alike (own_rows p))

-- ---- the changes that take a row
abbrev pub row_without_reasons : ℕ → ℕ → Row → List Test
row_without_reasons m place row = nine m place row ∷ ten m place row ∷ eleven m place row ∷ []

zero-lacks : (m x : ℕ) → eqb x 0 ≡ true → no_inverse m x ≡ true
unfolding no_inverse
zero-lacks m x e =
    let none : x * inverse m x % m ≡ 0 =
    ap (λ y. y * inverse m x % m) (eqb-true x 0 e) ∙ ap (λ y. y % m) (zero-mul (inverse m x)) ∙ zero-mod m in
    ap (λ y. not (eqb y 1)) none

and-implied : (s z t : Bool) → (z ≡ true → t ≡ true) → (s && z) ≡ true → (s && t) ≡ true
and-implied true z t implies = implies
and-implied false z t implies = λ e. e

row_stays : (m place : ℕ) (row : Row) → reasonless (verdict (row_tests m place row) []) ≡ verdict (row_without_reasons m place row) []
unfolding row_tests
row_stays m place row =
    past [] (nine m place row ∷ []) _ _ (λ e. refl, tt)
    (instead [] 17 10 (eqb row.a 0) (no_inverse m row.a) _ _ refl refl (zero-lacks m row.a)
    (instead [] 18 11 (leb first_c place && eqb row.c 0) (leb first_c place && no_inverse m row.c) [] [] refl refl
    (and-implied (leb first_c place) (eqb row.c 0) (no_inverse m row.c) (zero-lacks m row.c))
    (none_left [])))

module _ (p : Prepared) (row : Row) where
  pub append-stays : reasonless (verdict (append_tests p row) [])
      ≡ verdict (record_test p ∷ row_count_test (suc p.rows) ∷ row_without_reasons p.modulus p.rows row) []
  unfolding append_tests record_test row_count_test
  append-stays = past [] (record_test p ∷ row_count_test (suc p.rows) ∷ []) _ _ (λ e. refl, (λ e. refl, tt)) (row_stays _ _ row)

  pub replace-stays : (i : ℕ) → reasonless (verdict (replace_tests p i row) [])
      ≡ verdict (record_test p ∷ absent_row_test p i ∷ row_without_reasons p.modulus (i - 1) row) []
  unfolding replace_tests record_test absent_row_test
  replace-stays i = past [] (record_test p ∷ absent_row_test p i ∷ []) _ _ (λ e. refl, (λ e. refl, tt)) (row_stays _ _ row)
