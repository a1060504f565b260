-- The definitions of two channels, computed.
--   remainders-of, ranges    remainders on both sides of zero and of the ends of 32 bits; which numbers are in the range of 6 and of 35
--   all-of-six, ends-of-35   the joined values modulo 2 and 3, all six, and modulo 3 and 2; the ends of the range modulo 5 and 7
--   hermite, laguerre        H_4 and 3! L_3 as published: the true coefficients, and the same joined modulo 11 and 13; laguerre-sum a sum of i! L_i
--   past-range               H_4 modulo 5 and 7, whose range is too small for it: the joined value differs by a multiple of 35
--   least-numbers            true coefficients of a curve with the least number of 32 bits, and of rows with it
--   mended, join_mended      inputs with many faults, of which one after another is mended, and some with one fault alone; past_first one more
-- expand-join-order, join-order: the number that each input gives. So no test of a call is left out, and none stands before an earlier one,
-- over all rows of the first channel before the second; but two neighbours with one number, as 3 and 3, or 12 and 12, look alike in
-- either order.
-- join-outcomes, expand-join-outcomes: what the output holds after a call that finishes, and after one that is refused.
-- Assumes nothing.
use Rattle.std.specs.Prelude.{true, false, List, [], ◌∷◌, map, ◌≡◌, refl, ℕ, ℤ, pos, neg_ℤ, length, replicate}
use Rattle.definitions.specs.Figures.{handed}
use Rattle.definitions.specs.Number.{divides, factor_up_to, greatest_factor}
use Rattle.definitions.specs.Refusals.{Verdict, finished, refused, verdict}
use Rattle.joining.specs.Whole.{remainder, in_range, joins, joined_up_to, joined, joined_list}
use Rattle.joining.specs.Expanding.{Signed, signed, whole_times_x, whole_term, whole_sum, coefficient, whole_expand, reduced_expand}
use Rattle.joining.specs.Calls.{shared_factor_test, remainders_test, moduli_tests, list_tests, join_tests, a_tests, c_tests, both_rows}
use Rattle.joining.specs.Calls.{size_tests, expand_join_tests, wholes_after}

-- a number with a sign before it
abbrev minus : ℕ → ℤ
minus n = neg_ℤ (pos n)

abbrev pub both_joined : ℕ → ℕ → Signed → List ℤ → List ℤ
both_joined m m' s u = joined_list m m' (reduced_expand m s u) (reduced_expand m' s u)

-- what the output holds after a call; whoever unfolds these unfolds the definitions that they lead to
unfoldable pub join_outcome : ℕ → ℕ → List ℕ → List ℕ → List ℤ → List ℤ
unfolding handed divides factor_up_to greatest_factor remainder in_range joins joined_up_to joined joined_list shared_factor_test remainders_test
    moduli_tests list_tests join_tests
join_outcome m m' first second output =
    wholes_after (verdict (join_tests m m' first second (length output)) []) (joined_list m m' first second) output

unfoldable pub expand_join_outcome : ℕ → ℕ → Signed → List ℤ → List ℤ → List ℤ
unfolding join_outcome whole_times_x whole_term whole_sum coefficient whole_expand a_tests c_tests both_rows size_tests expand_join_tests
expand_join_outcome m m' s u output =
    wholes_after (verdict (expand_join_tests m m' s u (length output)) []) (both_joined m m' s u) output

-- ---- remainders and ranges
remainders-of : map (remainder 5) (pos 0 ∷ pos 4 ∷ pos 5 ∷ minus 1 ∷ minus 5 ∷ minus 17 ∷ []) ≡ 0 ∷ 4 ∷ 0 ∷ 4 ∷ 0 ∷ 3 ∷ []
unfolding expand_join_outcome
remainders-of = refl

remainders-of-ends : map (remainder 2147483647) (minus 2147483648 ∷ pos 2147483647 ∷ []) ≡ 2147483646 ∷ 0 ∷ []
unfolding expand_join_outcome
remainders-of-ends = refl

ranges : map (in_range 6) (minus 3 ∷ minus 2 ∷ pos 0 ∷ pos 3 ∷ pos 4 ∷ []) ≡ false ∷ true ∷ true ∷ true ∷ false ∷ []
unfolding expand_join_outcome
ranges = refl

ranges-odd : map (in_range 35) (minus 18 ∷ minus 17 ∷ pos 17 ∷ pos 18 ∷ []) ≡ false ∷ true ∷ true ∷ false ∷ []
unfolding expand_join_outcome
ranges-odd = refl

-- ---- joined values: of 0 to 5, and of the ends
all-of-six : joined_list 2 3 (0 ∷ 1 ∷ 0 ∷ 1 ∷ 0 ∷ 1 ∷ []) (0 ∷ 1 ∷ 2 ∷ 0 ∷ 1 ∷ 2 ∷ [])
    ≡ pos 0 ∷ pos 1 ∷ pos 2 ∷ pos 3 ∷ minus 2 ∷ minus 1 ∷ []
unfolding expand_join_outcome
all-of-six = refl

all-of-six-swapped : joined_list 3 2 (0 ∷ 1 ∷ 2 ∷ 0 ∷ 1 ∷ 2 ∷ []) (0 ∷ 1 ∷ 0 ∷ 1 ∷ 0 ∷ 1 ∷ [])
    ≡ pos 0 ∷ pos 1 ∷ pos 2 ∷ pos 3 ∷ minus 2 ∷ minus 1 ∷ []
unfolding expand_join_outcome
all-of-six-swapped = refl

ends-of-35 : joined_list 5 7 (3 ∷ 2 ∷ 4 ∷ 1 ∷ []) (4 ∷ 3 ∷ 6 ∷ 1 ∷ []) ≡ minus 17 ∷ pos 17 ∷ minus 1 ∷ pos 1 ∷ []
unfolding expand_join_outcome
ends-of-35 = refl

-- ---- published polynomials: H_i = 2 x H_{i-1} - 2 (i - 1) H_{i-2}, and i! L_i = (2 i - 1 - x) (i - 1)! L_{i-1} - (i - 1)^2 (i - 2)! L_{i-2}
abbrev hermite_rows : Signed
hermite_rows = signed (replicate 4 (pos 2)) (replicate 4 (pos 0)) (pos 0 ∷ minus 2 ∷ minus 4 ∷ minus 6 ∷ [])

abbrev laguerre_rows : Signed
laguerre_rows = signed (replicate 3 (minus 1)) (pos 1 ∷ pos 3 ∷ pos 5 ∷ []) (pos 0 ∷ minus 1 ∷ minus 4 ∷ [])

abbrev fourth : List ℤ
fourth = pos 0 ∷ pos 0 ∷ pos 0 ∷ pos 0 ∷ pos 1 ∷ []

abbrev third : List ℤ
third = pos 0 ∷ pos 0 ∷ pos 0 ∷ pos 1 ∷ []

hermite : whole_expand hermite_rows fourth ≡ pos 12 ∷ pos 0 ∷ minus 48 ∷ pos 0 ∷ pos 16 ∷ []
unfolding expand_join_outcome
hermite = refl

hermite-joined : both_joined 11 13 hermite_rows fourth ≡ pos 12 ∷ pos 0 ∷ minus 48 ∷ pos 0 ∷ pos 16 ∷ []
unfolding expand_join_outcome
hermite-joined = refl

laguerre : whole_expand laguerre_rows third ≡ pos 6 ∷ minus 18 ∷ pos 9 ∷ minus 1 ∷ []
unfolding expand_join_outcome
laguerre = refl

laguerre-joined : both_joined 11 13 laguerre_rows third ≡ pos 6 ∷ minus 18 ∷ pos 9 ∷ minus 1 ∷ []
unfolding expand_join_outcome
laguerre-joined = refl

-- 2 - 3 (1 - x) + (2 - 4 x + x^2) - (6 - 18 x + 9 x^2 - x^3), of a curve with every entry
laguerre-sum : whole_expand laguerre_rows (pos 2 ∷ minus 3 ∷ pos 1 ∷ minus 1 ∷ []) ≡ minus 5 ∷ pos 17 ∷ minus 8 ∷ pos 1 ∷ []
unfolding expand_join_outcome
laguerre-sum = refl

laguerre-sum-joined : both_joined 11 13 laguerre_rows (pos 2 ∷ minus 3 ∷ pos 1 ∷ minus 1 ∷ []) ≡ minus 5 ∷ pos 17 ∷ minus 8 ∷ pos 1 ∷ []
unfolding expand_join_outcome
laguerre-sum-joined = refl

past-range : both_joined 5 7 hermite_rows fourth ≡ pos 12 ∷ pos 0 ∷ minus 13 ∷ pos 0 ∷ pos 16 ∷ []
unfolding expand_join_outcome
past-range = refl

-- one row -2147483648 1 0, closed by nothing that shows
least-numbers : whole_expand (signed (minus 2147483648 ∷ []) (pos 1 ∷ []) (pos 0 ∷ [])) (minus 2147483648 ∷ minus 2147483648 ∷ [])
    ≡ minus 4294967296 ∷ pos 4611686018427387904 ∷ []
unfolding expand_join_outcome
least-numbers = refl

-- ---- the order of the tests
abbrev number : Verdict → ℕ
number (finished values) = 0
number (refused k) = k

pub record JoinLent : Type 0 where
  pub m : ℕ
  pub m' : ℕ
  pub first : List ℕ
  pub second : List ℕ
  pub output : ℕ

abbrev lend_lists : ℕ → ℕ → List ℕ → List ℕ → ℕ → JoinLent
lend_lists m m' first second output = record { m = m; m' = m'; first = first; second = second; output = output }

abbrev join_mended : List JoinLent
join_mended =
    lend_lists 1 35 (6 ∷ []) [] 2
    ∷ lend_lists 1 0 (6 ∷ []) [] 2
    ∷ lend_lists 4294967295 0 (6 ∷ []) [] 2
    ∷ lend_lists 6 0 (6 ∷ []) [] 2
    ∷ lend_lists 6 2147483648 (6 ∷ []) [] 2
    ∷ lend_lists 6 6 (6 ∷ []) [] 2
    ∷ lend_lists 6 4 (6 ∷ []) [] 2
    ∷ lend_lists 6 35 (6 ∷ []) [] 2
    ∷ lend_lists 6 35 (6 ∷ []) (35 ∷ 35 ∷ []) 2
    ∷ lend_lists 6 35 (6 ∷ []) (35 ∷ []) 2
    ∷ lend_lists 6 35 (6 ∷ []) (35 ∷ []) 0
    ∷ lend_lists 6 35 (6 ∷ []) (35 ∷ []) 1
    ∷ lend_lists 6 35 (6 ∷ []) (34 ∷ []) 1
    ∷ lend_lists 6 35 (5 ∷ []) (35 ∷ []) 1
    ∷ lend_lists 6 35 (5 ∷ []) (34 ∷ []) 1
    ∷ lend_lists 6 35 [] [] 0
    ∷ []

join-order : map (λ l. number (verdict (join_tests l.m l.m' l.first l.second l.output) [])) join_mended
    ≡ 3 ∷ 3 ∷ 3 ∷ 3 ∷ 3 ∷ 19 ∷ 19 ∷ 20 ∷ 20 ∷ 7 ∷ 7 ∷ 12 ∷ 12 ∷ 12 ∷ 0 ∷ 0 ∷ []
unfolding expand_join_outcome
join-order = refl

pub record ExpandLent : Type 0 where
  pub m : ℕ
  pub m' : ℕ
  pub rows : Signed
  pub curve : List ℤ
  pub output : ℕ

abbrev lend_rows : ℕ → ℕ → Signed → List ℤ → ℕ → ExpandLent
lend_rows m m' rows curve output = record { m = m; m' = m'; rows = rows; curve = curve; output = output }

-- two rows, of which the first is -1 0 0
abbrev row_two : ℤ → ℤ → Signed
row_two a c = signed (minus 1 ∷ a ∷ []) (pos 0 ∷ pos 0 ∷ []) (pos 0 ∷ c ∷ [])

abbrev zeros : ℕ → List ℤ
zeros k = replicate k (pos 0)

-- three rows whose a, or whose c from row 2 on, are 14 and then 3: zero modulo 14, and then a factor shared with 15
abbrev lower_on_the_second : Signed
lower_on_the_second = signed (pos 14 ∷ pos 3 ∷ pos 1 ∷ []) (zeros 3) (pos 0 ∷ pos 1 ∷ pos 1 ∷ [])

abbrev lower_on_the_second_for_c : Signed
lower_on_the_second_for_c = signed (pos 1 ∷ pos 1 ∷ pos 1 ∷ []) (zeros 3) (pos 0 ∷ pos 14 ∷ pos 3 ∷ [])

-- modulo 15 and 14: 210 is zero on both; 42 shares 3 with 15 and is zero modulo 14; -15 is zero modulo 15, -14 modulo 14; -2 shares 2 with 14
abbrev mended : List ExpandLent
mended =
    lend_rows 1 14 (signed (zeros 128) [] []) [] 2
    ∷ lend_rows 15 0 (signed (zeros 128) [] []) [] 2
    ∷ lend_rows 15 10 (signed (zeros 128) [] []) [] 2
    ∷ lend_rows 15 14 (signed (zeros 128) [] []) [] 2
    ∷ lend_rows 15 14 (signed (zeros 128) (zeros 128) []) [] 2
    ∷ lend_rows 15 14 (signed (zeros 128) [] (zeros 128)) [] 2
    ∷ lend_rows 15 14 (signed (zeros 128) (zeros 128) (zeros 128)) [] 2
    ∷ lend_rows 15 14 (row_two (pos 210) (pos 210)) (zeros 2) 2
    ∷ lend_rows 15 14 (row_two (pos 210) (pos 210)) (zeros 4) 2
    ∷ lend_rows 15 14 (row_two (pos 210) (pos 210)) (zeros 3) 2
    ∷ lend_rows 15 14 (row_two (pos 210) (pos 210)) (zeros 3) 4
    ∷ lend_rows 15 14 (row_two (pos 210) (pos 210)) (zeros 3) 3
    ∷ lend_rows 15 14 (row_two (minus 15) (pos 210)) (zeros 3) 3
    ∷ lend_rows 15 14 (row_two (pos 42) (pos 210)) (zeros 3) 3
    ∷ lend_rows 15 14 (row_two (minus 14) (pos 210)) (zeros 3) 3
    ∷ lend_rows 15 14 (row_two (minus 2) (pos 210)) (zeros 3) 3
    ∷ lend_rows 15 14 (row_two (minus 1) (pos 210)) (zeros 3) 3
    ∷ lend_rows 15 14 (row_two (minus 1) (minus 15)) (zeros 3) 3
    ∷ lend_rows 15 14 (row_two (minus 1) (pos 42)) (zeros 3) 3
    ∷ lend_rows 15 14 (row_two (minus 1) (minus 14)) (zeros 3) 3
    ∷ lend_rows 15 14 (row_two (minus 1) (minus 2)) (zeros 3) 3
    ∷ lend_rows 15 14 (row_two (minus 1) (minus 1)) (zeros 3) 3
    ∷ lend_rows 15 14 lower_on_the_second (zeros 4) 4
    ∷ lend_rows 15 14 lower_on_the_second_for_c (zeros 4) 4
    ∷ []

expand-join-order : map (λ l. number (verdict (expand_join_tests l.m l.m' l.rows l.curve l.output) [])) mended
    ≡ 3 ∷ 3 ∷ 19 ∷ 4 ∷ 4 ∷ 4 ∷ 5 ∷ 6 ∷ 6 ∷ 7 ∷ 7 ∷ 17 ∷ 17 ∷ 10 ∷ 17 ∷ 10 ∷ 18 ∷ 18 ∷ 11 ∷ 18 ∷ 11 ∷ 0 ∷ 10 ∷ 11 ∷ []
unfolding expand_join_outcome
expand-join-order = refl

-- 3 of the first modulus stands before 19: 2147483648 and 6 share 2
past_first : number (verdict (join_tests 2147483648 6 [] [] 0) []) ≡ 3
unfolding expand_join_outcome
past_first = refl

-- ---- what the output holds after a call
join-outcomes : join_outcome 5 7 (3 ∷ 2 ∷ []) (4 ∷ 3 ∷ []) (pos 9 ∷ pos 8 ∷ []) ≡ minus 17 ∷ pos 17 ∷ []
unfolding expand_join_outcome
join-outcomes = refl

join-outcomes-refused : join_outcome 5 7 (3 ∷ 2 ∷ []) (4 ∷ 7 ∷ []) (pos 9 ∷ pos 8 ∷ []) ≡ pos 9 ∷ pos 8 ∷ []
unfolding expand_join_outcome
join-outcomes-refused = refl

expand-join-outcomes : expand_join_outcome 11 13 laguerre_rows third (zeros 4) ≡ pos 6 ∷ minus 18 ∷ pos 9 ∷ minus 1 ∷ []
unfolding expand_join_outcome
expand-join-outcomes = refl

expand-join-outcomes-refused : expand_join_outcome 4 13 laguerre_rows third (pos 9 ∷ pos 8 ∷ pos 7 ∷ pos 6 ∷ []) ≡ pos 9 ∷ pos 8 ∷ pos 7 ∷ pos 6 ∷ []
unfolding expand_join_outcome
expand-join-outcomes-refused = refl
