-- Verdicts, and each test of the refusals as a plain fact.
--   None ts           no test of ts holds
--   with_values vs v  the verdict v, with the values vs if it is finished
-- Proved: a verdict is finished if and only if no test holds, a verdict is settled test by test, and its values make no difference to
-- whether it is; of each test, that it does not hold is a plain fact about lengths, entries or inverses, and the fact is that it does
-- not hold.
-- Assumes nothing.
use Rattle.std.specs.Prelude.{◌≡◌, Bool, not, ◌||◌, ◌&&◌, ◌↔◌, ℕ, zero, suc, ◌+◌, ◌*◌, ◌-◌, ◌%◌, ◌<◌, ◌≤◌, eqb, ltb, leb, length, get_or}
use Rattle.std.proofs.Math.Path.{refl, sym}
use Rattle.std.proofs.Common.{◌∙◌, ap, ap₂, subst, true≢false, ⊎_elim, le_of_suc-le-suc, eq-or-lt_of_le, arith, eq-eqb, eqb-true, ne_eqb}
use Rattle.std.proofs.Common.{le-leb, le-ltb, leb-false, ltb-false}
use Rattle.std.proofs.Math.Bool.{true, false, not-eq-not}
use mathlib.Core.List.{List, [], ◌∷◌, ◌++◌}
use Rattle.std.proofs.Math.Logic.Iff
use Rattle.std.proofs.Math.Logic.{by_cases}
use Rattle.std.proofs.Math.Decide.{dec_lt}
use Rattle.std.proofs.lemmas.Bool.{eqb-false, lt-leb, not-false}
use Rattle.definitions.specs.Number.{HasInverse, inverse}
use Rattle.definitions.specs.Family.{Row, Family, Modulus, RowBelow, most_rows, size, row_at}
use Rattle.definitions.specs.Refusals.{Test, Verdict, finished, refused, verdict, some, some_from, lowest_from, some_row, lowest_row}
use Rattle.definitions.specs.Refusals.{differ, not_below, no_inverse}
use Rattle.definitions.specs.Refusals.{work_length, modulus_test, equal_lengths_test, row_count_test, curve_length_test, output_test}
use Rattle.definitions.specs.Refusals.{work_test}
use Rattle.definitions.specs.Refusals.{entries_test, a_zero_test, a_inverse_test, c_zero_test, c_inverse_test, curve_entries_test}
use Rattle.definitions.specs.Refusals.{number_test, number_inverse_test}
use Rattle.definitions.specs.TextCall.{most_bytes, text_length_test, text_output_test}
use Rattle.numbers.specs.Inverse.{inverse-right}
use Rattle.numbers.specs.Lists.{Each}

abbrev pub None : List Test → Type 0
None [] = Unit {0}
None (t ∷ ts) = (t.holds ≡ false) × None ts

pub refused-not-finished : (k : ℕ) (values : List ℕ) → refused k ≡ finished values → ⊥
refused-not-finished k values e = let z : ◌≡◌ {A = ℕ} 0 1 = cc in omega arith

module _ (t : Test) (ts : List Test) (values : List ℕ) where
  pub verdict-here : t.holds ≡ true → verdict (t ∷ ts) values ≡ refused t.number
  unfolding verdict
  verdict-here e = rw (e, verdict)

  pub verdict-next : t.holds ≡ false → verdict (t ∷ ts) values ≡ verdict ts values
  unfolding verdict
  verdict-next e = rw (e, verdict)

pub verdict-finished : (ts : List Test) (values : List ℕ) → (verdict ts values ≡ finished values) ↔ None ts
unfolding verdict
verdict-finished [] values = (λ e. tt, λ n. refl)
verdict-finished (t ∷ ts) values = split t.holds refl (verdict-finished ts values)
  where
    split : (h : Bool) → t.holds ≡ h → (verdict ts values ≡ finished values) ↔ None ts
        → (verdict (t ∷ ts) values ≡ finished values) ↔ None (t ∷ ts)
    split true q rest = (
      λ e. absurd (refused-not-finished t.number values (sym (verdict-here t ts values q) ∙ e)),
      λ n. absurd (true≢false (sym q ∙ n.0)),
    )
    split false q rest = rw (verdict-next t ts values q) (λ e. (q, rest.0 e), λ n. rest.1 n.1)

-- a verdict, with the values that it gives if finished
abbrev pub with_values : List ℕ → Verdict → Verdict
with_values values (finished none) = finished values
with_values values (refused k) = refused k

pub verdict-values : (values : List ℕ) (ts : List Test) → verdict ts values ≡ with_values values (verdict ts [])
unfolding verdict
verdict-values values [] = refl
verdict-values values (t ∷ ts) = split t.holds refl (verdict-values values ts)
  where
    split : (h : Bool) → t.holds ≡ h → verdict ts values ≡ with_values values (verdict ts [])
        → verdict (t ∷ ts) values ≡ with_values values (verdict (t ∷ ts) [])
    split true q rest = rw (verdict-here t ts values q, verdict-here t ts [] q)
    split false q rest = rw (verdict-next t ts values q, verdict-next t ts [] q) rest

-- tests that are made in two parts
pub none-append : (ts us : List Test) → None (ts ++ us) ↔ (None ts × None us)
none-append [] us = (λ n. (tt, n), λ p. p.1)
none-append (t ∷ ts) us =
    let rest = none-append ts us in
    (λ n. ((n.0, (rest.0 n.1).0), (rest.0 n.1).1), λ p. (p.0.0, rest.1 (p.0.1, p.1)))

module _ (us : List Test) (values : List ℕ) where
  pub verdict-stops : (ts : List Test) (before : List ℕ) (k : ℕ) → verdict ts before ≡ refused k → verdict (ts ++ us) values ≡ refused k
  unfolding verdict
  verdict-stops [] before k e = absurd (refused-not-finished k before (sym e))
  verdict-stops (t ∷ ts) before k e = split t.holds refl (verdict-stops ts before k)
    where
      split : (h : Bool) → t.holds ≡ h → (verdict ts before ≡ refused k → verdict (ts ++ us) values ≡ refused k)
          → verdict (t ∷ ts ++ us) values ≡ refused k
      split true q rest = verdict-here t (ts ++ us) values q ∙ sym (verdict-here t ts before q) ∙ e
      split false q rest = verdict-next t (ts ++ us) values q ∙ rest (sym (verdict-next t ts before q) ∙ e)

  pub verdict-goes-on : (ts : List Test) → None ts → verdict (ts ++ us) values ≡ verdict us values
  verdict-goes-on [] n = refl
  verdict-goes-on (t ∷ ts) (q, rest) = verdict-next t (ts ++ us) values q ∙ verdict-goes-on ts rest

-- tests that come to the same behind others
pub verdict-behind : (before ts us : List Test) (values : List ℕ) → verdict ts values ≡ verdict us values
    → verdict (before ++ ts) values ≡ verdict (before ++ us) values
unfolding verdict
verdict-behind [] ts us values e = e
verdict-behind (t ∷ before) ts us values e =
    ap (λ v. elim t.holds [ true ↦ refused t.number | false ↦ v ]) (verdict-behind before ts us values e)

-- the tests of a number
pub differ-false : (x y : ℕ) → (differ x y ≡ false) ↔ (x ≡ y)
unfolding differ
differ-false x y = (λ e. eqb-true x y (not-false (eqb x y) e), λ e. ap not (eq-eqb x y e))

pub not_below-false : (m x : ℕ) → (not_below m x ≡ false) ↔ (x < m)
unfolding not_below
not_below-false m x = (leb-false m x, lt-leb m x)

pub zero-false : (x : ℕ) → (eqb x 0 ≡ false) ↔ (0 < x)
zero-false x = (λ e. let other : x ≡ 0 → ⊥ = eqb-false x 0 e in omega arith, λ h. ne_eqb x 0 (λ e. omega arith))

ltb-fails : (x y : ℕ) → (ltb x y ≡ false) ↔ (y ≤ x)
ltb-fails x y = (ltb-false x y, le-ltb x y)

pub no_inverse-false : (m x : ℕ) → 0 < m → (no_inverse m x ≡ false) ↔ HasInverse m x
unfolding no_inverse differ HasInverse
no_inverse-false m x h = Iff.trans (differ-false (x * inverse m x % m) 1) (λ e. (inverse m x, e), inverse-right m x h)

pub no_inverse-true : (m x : ℕ) → 0 < m → (no_inverse m x ≡ true) ↔ (HasInverse m x → ⊥)
no_inverse-true m x h = (
  λ e i. true≢false (sym e ∙ (no_inverse-false m x h).1 i),
  λ n. (not-eq-not {a = no_inverse m x} {b = true}).0 (λ e. n ((no_inverse-false m x h).0 e)),
)

-- the tests of every entry of a list
some-here : (passes : ℕ → Bool) (x : ℕ) (xs : List ℕ) → passes x ≡ true → some passes (x ∷ xs) ≡ true
unfolding some
some-here passes x xs e = rw (e, some)

some_next : (passes : ℕ → Bool) (x : ℕ) (xs : List ℕ) → passes x ≡ false → some passes (x ∷ xs) ≡ some passes xs
unfolding some
some_next passes x xs e = rw (e, some)

pub some-false : (passes : ℕ → Bool) (xs : List ℕ) (d : ℕ) → (some passes xs ≡ false) ↔ Each (λ x. passes x ≡ false) xs d
unfolding some
some-false passes [] d = (λ e i h. absurd (omega arith), λ all. refl)
some-false passes (x ∷ xs) d = split (passes x) refl (some-false passes xs d)
  where
    split : (h : Bool) → passes x ≡ h → (some passes xs ≡ false) ↔ Each (λ y. passes y ≡ false) xs d
        → (some passes (x ∷ xs) ≡ false) ↔ Each (λ y. passes y ≡ false) (x ∷ xs) d
    split true q rest =
        (λ e. absurd (true≢false (sym (some-here passes x xs q) ∙ e)), λ all. absurd (true≢false (sym q ∙ all 0 (omega arith))))
    split false q rest = rw (some_next passes x xs q) (to, λ all. rest.1 (λ i h. all (suc i) (omega arith)))
      where
        to : some passes xs ≡ false → Each (λ y. passes y ≡ false) (x ∷ xs) d
        to e zero h = q
        to e (suc i) h = rest.0 e i (le_of_suc-le-suc h)

pub some-true : (passes : ℕ → Bool) (xs : List ℕ) (i d : ℕ) → i < length xs → passes (get_or xs i d) ≡ true → some passes xs ≡ true
some-true passes xs i d h e = (not-eq-not {a = some passes xs} {b = true}).0
    (λ none. true≢false (sym e ∙ (some-false passes xs d).0 none i h))

-- the tests of numbers and of rows from a place on
from-here : (passes : ℕ → Bool) (first count : ℕ) → passes first ≡ true → some_from passes first (suc count) ≡ true
unfolding some_from
from-here passes first count e = rw (e, some_from)

from_next : (passes : ℕ → Bool) (first count : ℕ) → passes first ≡ false
    → some_from passes first (suc count) ≡ some_from passes (suc first) count
unfolding some_from
from_next passes first count e = rw (e, some_from)

abbrev pub Within : (ℕ → Bool) → ℕ → ℕ → Type 0
Within passes first count = (i : ℕ) → first ≤ i → i < first + count → passes i ≡ false

pub some_from-false : (passes : ℕ → Bool) (first count : ℕ) → (some_from passes first count ≡ false) ↔ Within passes first count
unfolding some_from
some_from-false passes first zero = (λ e i l h. absurd (omega arith), λ all. refl)
some_from-false passes first (suc count) = split (passes first) refl (some_from-false passes (suc first) count)
  where
    split : (h : Bool) → passes first ≡ h → (some_from passes (suc first) count ≡ false) ↔ Within passes (suc first) count
        → (some_from passes first (suc count) ≡ false) ↔ Within passes first (suc count)
    split true q rest = (
      λ e. absurd (true≢false (sym (from-here passes first count q) ∙ e)),
      λ all. absurd (true≢false (sym q ∙ all first (omega arith) (omega arith))),
    )
    split false q rest = rw (from_next passes first count q) (to, λ all. rest.1 (λ i l h. all i (omega arith) (omega arith)))
      where
        to : some_from passes (suc first) count ≡ false → Within passes first (suc count)
        to e i l h = ⊎_elim (λ (same : first ≡ i). subst (λ k. passes k ≡ false) same q)
            (λ (more : first < i). rest.0 e i (omega arith) (omega arith)) (eq-or-lt_of_le {n = first} {m = i} l)

-- the lowest that passes
lowest-here : (passes also : ℕ → Bool) (first count : ℕ) → passes first ≡ true → lowest_from passes also first (suc count) ≡ also first
unfolding lowest_from
lowest-here passes also first count e = rw (e, lowest_from)

lowest-next : (passes also : ℕ → Bool) (first count : ℕ) → passes first ≡ false
    → lowest_from passes also first (suc count) ≡ lowest_from passes also (suc first) count
unfolding lowest_from
lowest-next passes also first count e = rw (e, lowest_from)

pub lowest-none : (passes also : ℕ → Bool) (first count : ℕ) → Within passes first count → lowest_from passes also first count ≡ false
unfolding lowest_from
lowest-none passes also first zero none = refl
lowest-none passes also first (suc count) none =
    lowest-next passes also first count (none first (omega arith) (omega arith))
    ∙ lowest-none passes also (suc first) count (λ i l h. none i (omega arith) (omega arith))

pub lowest-is : (passes also : ℕ → Bool) (first count i : ℕ) → first ≤ i → i < first + count → Within passes first (i - first)
    → passes i ≡ true → lowest_from passes also first count ≡ also i
lowest-is passes also first zero i l h none e = absurd (omega arith)
lowest-is passes also first (suc count) i l h none e = ⊎_elim
    (λ (same : first ≡ i). lowest-here passes also first count (subst (λ k. passes k ≡ true) (sym same) e) ∙ ap also same)
    (λ (more : first < i).
    lowest-next passes also first count (none first (omega arith) (omega arith))
    ∙ lowest-is passes also (suc first) count i (omega arith) (omega arith) (λ j k g. none j (omega arith) (omega arith)) e)
    (eq-or-lt_of_le {n = first} {m = i} l)

pub lowest-equal : (passes passes' also also' : ℕ → Bool) (first count : ℕ) → ((i : ℕ) → first ≤ i → passes i ≡ passes' i)
    → ((i : ℕ) → first ≤ i → also i ≡ also' i) → lowest_from passes also first count ≡ lowest_from passes' also' first count
unfolding lowest_from
lowest-equal passes passes' also also' first zero same so = refl
lowest-equal passes passes' also also' first (suc count) same so =
    let further = lowest-equal passes passes' also also' (suc first) count (λ i l. same i (omega arith)) (λ i l. so i (omega arith)) in
    ap₂ (λ (here : Bool) (this : Bool). elim here [ true ↦ this | false ↦ lowest_from passes also (suc first) count ])
    (same first (omega arith)) (so first (omega arith))
    ∙ ap (λ (rest : Bool). elim (passes' first) [ true ↦ also' first | false ↦ rest ]) further

pub some_from-equal : (passes passes' : ℕ → Bool) (first count : ℕ) → ((i : ℕ) → first ≤ i → passes i ≡ passes' i)
    → some_from passes first count ≡ some_from passes' first count
unfolding some_from
some_from-equal passes passes' first zero same = refl
some_from-equal passes passes' first (suc count) same =
    ap₂ (λ (here : Bool) (further : Bool). elim here [ true ↦ true | false ↦ further ]) (same first (omega arith))
    (some_from-equal passes passes' (suc first) count (λ i l. same i (omega arith)))

pub some_row-false : (f : Family) (first : ℕ) (passes : Row → Bool)
    → (some_row f first passes ≡ false) ↔ ((i : ℕ) → first ≤ i → i < size f → passes (row_at f i) ≡ false)
unfolding some_row
some_row-false f first passes = Iff.trans (some_from-false (λ i. passes (row_at f i)) first (size f - first))
    (λ all i l h. all i l (omega arith), λ all i l h. all i l (omega arith))

lowest_row-none : (f : Family) (first : ℕ) (passes also : Row → Bool)
    → ((i : ℕ) → first ≤ i → i < size f → passes (row_at f i) ≡ false) → lowest_row f first passes also ≡ false
unfolding lowest_row
lowest_row-none f first passes also none = lowest-none _ _ first (size f - first) (λ i l h. none i l (omega arith))

module _ (m : ℕ) (xs : List ℕ) (d : ℕ) where
  pub some-not_below-false : (some (not_below m) xs ≡ false) ↔ Each (λ x. x < m) xs d
  some-not_below-false = simp (some-false (not_below m) xs d, not_below-false) Iff.rfl

  pub some-no_inverse-false : 0 < m → (some (no_inverse m) xs ≡ false) ↔ Each (HasInverse m) xs d
  some-no_inverse-false h = simp (some-false (no_inverse m) xs d, no_inverse-false) Iff.rfl

-- of each test, what it is that it does not hold
pub or-false : (s t : Bool) → ((s || t) ≡ false) ↔ ((s ≡ false) × (t ≡ false))
or-false true t = (λ e. absurd (true≢false e), λ p. absurd (true≢false p.0))
or-false false t = (λ e. (refl, e), λ p. p.1)

pub modulus-passes : (m : ℕ) → ((modulus_test m).holds ≡ false) ↔ Modulus m
unfolding modulus_test
modulus-passes m = simp (or-false, ltb-fails)
    (λ p. record { least = p.0; greatest = p.1 }, λ h. (h.least, h.greatest))

pub output-passes : (wanted output : ℕ) → ((output_test wanted output).holds ≡ false) ↔ (output ≡ wanted)
unfolding output_test
output-passes wanted output = differ-false output wanted

pub text-output-passes : (least output : ℕ) → ((text_output_test least output).holds ≡ false) ↔ (least ≤ output)
unfolding text_output_test
text-output-passes least output = ltb-fails output least

pub text-length-passes : (bytes : ℕ) → ((text_length_test bytes).holds ≡ false) ↔ (bytes ≤ most_bytes)
unfolding text_length_test
text-length-passes bytes = ltb-fails most_bytes bytes

pub work-passes : (work : ℕ) → ((work_test work).holds ≡ false) ↔ (work_length ≤ work)
unfolding work_test
work-passes work = ltb-fails work work_length

pub number-passes : (m x : ℕ) → ((number_test m x).holds ≡ false) ↔ (x < m)
unfolding number_test
number-passes m x = not_below-false m x

pub number-inverse-passes : (m x : ℕ) → 0 < m → ((number_inverse_test m x).holds ≡ false) ↔ HasInverse m x
unfolding number_inverse_test
number-inverse-passes m x h = no_inverse-false m x h

pub equal-lengths-pass : (a b c : ℕ) → ((equal_lengths_test a b c).holds ≡ false) ↔ ((b ≡ a) × (c ≡ a))
unfolding equal_lengths_test
equal-lengths-pass a b c = simp (or-false, differ-false) Iff.rfl

pub row-count-passes : (rows : ℕ) → ((row_count_test rows).holds ≡ false) ↔ (rows ≤ most_rows)
unfolding row_count_test
row-count-passes rows = ltb-fails most_rows rows

pub curve-length-passes : (wanted curve : ℕ) → ((curve_length_test wanted curve).holds ≡ false) ↔ (curve ≡ wanted)
unfolding curve_length_test
curve-length-passes wanted curve = differ-false curve wanted

pub curve-entries-pass : (m : ℕ) (u : List ℕ) (d : ℕ) → ((curve_entries_test m u).holds ≡ false) ↔ Each (λ x. x < m) u d
unfolding curve_entries_test
curve-entries-pass m u d = some-not_below-false m u d

pub row-below-false : (m : ℕ) (row : Row) → ((not_below m row.a || not_below m row.b || not_below m row.c) ≡ false) ↔ RowBelow m row
row-below-false m row = simp (or-false, not_below-false) (
  λ p. record { a_below = p.0.0; b_below = p.0.1; c_below = p.1 },
  λ h. ((h.a_below, h.b_below), h.c_below),
)

-- a test that is made from a place on
pub from_false : (first place : ℕ) (t : Bool) → ((leb first place && t) ≡ false) ↔ (first ≤ place → t ≡ false)
from_false first place t = by_cases (dec_lt place first)
    (λ l. (λ e h. absurd (omega arith), λ h. ap (λ s. s && t) (lt-leb first place l)))
    (λ l. let e : leb first place ≡ true = le-leb first place (omega arith) in rw e (λ q h. q, λ h. h (omega arith)))

pub from-true : (first place : ℕ) (t : Bool) → ((leb first place && t) ≡ true) ↔ ((first ≤ place) × (t ≡ true))
from-true first place t = by_cases (dec_lt place first)
    (λ l. (λ e. absurd (true≢false (sym e ∙ ap (λ s. s && t) (lt-leb first place l))), λ h. absurd (omega (arith, h.0))))
    (λ l. let e : leb first place ≡ true = le-leb first place (omega arith) in rw e (λ q. (omega arith, q), λ h. h.1))

module _ (f : Family) where
  pub entries-pass : ((entries_test f).holds ≡ false) ↔ ((i : ℕ) → i < size f → RowBelow f.m (row_at f i))
  unfolding entries_test
  entries-pass = Iff.trans (some_row-false f 0 _) (
    λ all i h. (row-below-false f.m (row_at f i)).0 (all i (omega arith) h),
    λ all i l h. (row-below-false f.m (row_at f i)).1 (all i h),
  )

  module _ (pos : 0 < f.m) where
    pub a-inverses-pass : ((a_inverse_test f).holds ≡ false) ↔ ((i : ℕ) → i < size f → HasInverse f.m (row_at f i).a)
    unfolding a_inverse_test
    a-inverses-pass = Iff.trans (some_row-false f 0 _) (
      λ all i h. (no_inverse-false f.m (row_at f i).a pos).0 (all i (omega arith) h),
      λ all i l h. (no_inverse-false f.m (row_at f i).a pos).1 (all i h),
    )

    pub c-inverses-pass : (first : ℕ) → ((c_inverse_test first f).holds ≡ false)
        ↔ ((i : ℕ) → first ≤ i → i < size f → HasInverse f.m (row_at f i).c)
    unfolding c_inverse_test
    c-inverses-pass first = Iff.trans (some_row-false f first _) (
      λ all i l h. (no_inverse-false f.m (row_at f i).c pos).0 (all i l h),
      λ all i l h. (no_inverse-false f.m (row_at f i).c pos).1 (all i l h),
    )

    -- where all have inverses there is no lowest without one
    pub a-zeros-pass : ((i : ℕ) → i < size f → HasInverse f.m (row_at f i).a) → (a_zero_test f).holds ≡ false
    unfolding a_zero_test
    a-zeros-pass all = lowest_row-none f 0 _ _ (λ i l h. (no_inverse-false f.m (row_at f i).a pos).1 (all i h))

    pub c-zeros-pass : (first : ℕ) → ((i : ℕ) → first ≤ i → i < size f → HasInverse f.m (row_at f i).c)
        → (c_zero_test first f).holds ≡ false
    unfolding c_zero_test
    c-zeros-pass first all = lowest_row-none f first _ _ (λ i l h. (no_inverse-false f.m (row_at f i).c pos).1 (all i l h))
