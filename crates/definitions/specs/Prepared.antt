-- The prepared family: one record of a family's rows, their inverses and its norms.
--   Prepared       what a record holds; its lists are arrays, of 127 numbers and for the norms of 128
--   padded k xs    xs, and then zeros up to k places
--   prepared f     the one record of the family f
--   own_rows p     the family of the rows that a record holds, closed by 1 1 1
--   Right p        p is right: it is the record of its own rows, and these are accepted
--   record_test p  14: it is not
--   appended, shortened, replaced   a family with a row more at its end, without its last row, with another row at a place
--   empty_tests, append_tests, drop_tests, replace_tests  the tests of the changes, in their order
--   Changed        the promise of a change: its answer, and the record that it hands out
--   EmptyCall, AppendCall, DropCall, ReplaceCall          of each change
-- Items 3 and 5 of the change requests. Assumes nothing.
use Rattle.std.specs.Prelude.{◌≡◌, Bool, true, false, ◌||◌, ◌&&◌, List, [], ◌∷◌, ◌++◌, ℕ, suc, ◌-◌, eqb, ltb, leb, length, get_or, take}
use Rattle.std.specs.Prelude.{set, replicate}
use Rattle.definitions.specs.Number.{inverse, table}
use Rattle.definitions.specs.Family.{Family, Row, Accepted, most_rows, first_c, family, rows, row_at}
use Rattle.definitions.specs.Orthogonality.{norms}
use Rattle.definitions.specs.Refusals.{Test, Verdict, finished, refused, verdict, test, some_from, differ, not_below, no_inverse}
use Rattle.definitions.specs.Refusals.{modulus_test, row_count_test, family_shape, family_rows}

pub record Prepared : Type 0 where
  pub modulus : ℕ
  pub rows : ℕ
  pub a : List ℕ
  pub b : List ℕ
  pub c : List ℕ
  pub a_inverses : List ℕ
  pub c_inverses : List ℕ
  pub norms : List ℕ

-- n at most
abbrev pub most_norms : ℕ
most_norms = 128

unfoldable pub padded : ℕ → List ℕ → List ℕ
padded k xs = xs ++ replicate (k - length xs) 0

-- what is stored beside row i + 1: the inverse of its a, and that of its c, but 0 for c_1
unfoldable pub stored_a : Family → ℕ → ℕ
stored_a f i = inverse f.m (row_at f i).a

unfoldable pub stored_c : Family → ℕ → ℕ
stored_c f i = elim (ltb i first_c) [ true ↦ 0 | false ↦ inverse f.m (row_at f i).c ]

unfoldable pub prepared : Family → Prepared
prepared f = record {
  modulus = f.m;
  rows = rows f;
  a = padded most_rows f.a;
  b = padded most_rows f.b;
  c = padded most_rows f.c;
  a_inverses = padded most_rows (table (rows f) (stored_a f));
  c_inverses = padded most_rows (table (rows f) (stored_c f));
  norms = padded most_norms (norms f);
}

abbrev pub own_rows : Prepared → Family
own_rows p = family p.modulus (take p.rows p.a) (take p.rows p.b) (take p.rows p.c)

pub record Right (p : Prepared) : Type 0 where
  pub accepted : Accepted (own_rows p)
  pub own : p ≡ prepared (own_rows p)

-- ---- 14: one of the tests on its rows holds, or it differs from their record in some place
unfoldable pub any_holds : List Test → Bool
any_holds [] = false
any_holds (t ∷ ts) = t.holds || any_holds ts

unfoldable pub unlike : List ℕ → List ℕ → Bool
unlike xs ys = differ (length xs) (length ys) || some_from (λ i. differ (get_or xs i 0) (get_or ys i 0)) 0 (length xs)

unfoldable pub differs : Prepared → Prepared → Bool
differs p q =
    differ p.modulus q.modulus || differ p.rows q.rows
    || unlike p.a q.a || unlike p.b q.b || unlike p.c q.c
    || unlike p.a_inverses q.a_inverses || unlike p.c_inverses q.c_inverses || unlike p.norms q.norms

unfoldable pub broken : Prepared → Bool
broken p = any_holds (family_shape (own_rows p) ++ family_rows (own_rows p)) || differs p (prepared (own_rows p))

unfoldable pub record_test : Prepared → Test
record_test p = test 14 (broken p)

-- ---- the changes of a family; row i + 1 stands at place i
abbrev pub appended : Family → Row → Family
appended f row = family f.m (f.a ++ row.a ∷ []) (f.b ++ row.b ∷ []) (f.c ++ row.c ∷ [])

abbrev pub shortened : Family → Family
shortened f = family f.m (take (rows f - 1) f.a) (take (rows f - 1) f.b) (take (rows f - 1) f.c)

abbrev pub replaced : Family → ℕ → Row → Family
replaced f i row = family f.m (set f.a i row.a) (set f.b i row.b) (set f.c i row.c)

-- ---- the tests of the changes; a row is counted from 1
unfoldable pub no_rows_test : Prepared → Test
no_rows_test p = test 15 (eqb p.rows 0)

unfoldable pub absent_row_test : Prepared → ℕ → Test
absent_row_test p i = test 16 (eqb i 0 || ltb p.rows i)

-- 9 17 10 18 11 of a new row, for the place where it is to stand
unfoldable pub row_tests : ℕ → ℕ → Row → List Test
row_tests m place row =
    test 9 (not_below m row.a || not_below m row.b || not_below m row.c)
    ∷ test 17 (eqb row.a 0)
    ∷ test 10 (no_inverse m row.a)
    ∷ test 18 (leb first_c place && eqb row.c 0)
    ∷ test 11 (leb first_c place && no_inverse m row.c)
    ∷ []

unfoldable pub empty_tests : ℕ → List Test
empty_tests m = modulus_test m ∷ []

unfoldable pub append_tests : Prepared → Row → List Test
append_tests p row = record_test p ∷ row_count_test (suc p.rows) ∷ row_tests p.modulus p.rows row

unfoldable pub drop_tests : Prepared → List Test
drop_tests p = record_test p ∷ no_rows_test p ∷ []

unfoldable pub replace_tests : Prepared → ℕ → Row → List Test
replace_tests p i row = record_test p ∷ absent_row_test p i ∷ row_tests p.modulus (i - 1) row

-- ---- the promises of the changes
abbrev pub handed_back : Verdict → Prepared → Prepared → Prepared
handed_back (finished values) new old = new
handed_back (refused k) new old = old

-- tests: the change's tests; new and old: the record of the changed family and the one that was handed in; v: what the answer says;
-- out: the record that is handed out
pub record Changed (tests : List Test) (new old : Prepared) (v : Verdict) (out : Prepared) : Type 0 where
  pub answer : v ≡ verdict tests []
  pub handed : out ≡ handed_back v new old

-- the record of a refused call for an empty family
unfoldable pub all_zeros : Prepared
all_zeros = record {
  modulus = 0;
  rows = 0;
  a = replicate most_rows 0;
  b = replicate most_rows 0;
  c = replicate most_rows 0;
  a_inverses = replicate most_rows 0;
  c_inverses = replicate most_rows 0;
  norms = replicate most_norms 0;
}

abbrev pub EmptyCall : ℕ → Verdict → Prepared → Type 0
EmptyCall m v out = Changed (empty_tests m) (prepared (family m [] [] [])) all_zeros v out

abbrev pub AppendCall : Prepared → Row → Verdict → Prepared → Type 0
AppendCall p row v out = Changed (append_tests p row) (prepared (appended (own_rows p) row)) p v out

abbrev pub DropCall : Prepared → Verdict → Prepared → Type 0
DropCall p v out = Changed (drop_tests p) (prepared (shortened (own_rows p))) p v out

abbrev pub ReplaceCall : Prepared → ℕ → Row → Verdict → Prepared → Type 0
ReplaceCall p i row v out = Changed (replace_tests p i row) (prepared (replaced (own_rows p) (i - 1) row)) p v out
