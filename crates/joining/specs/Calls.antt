-- The two calls on two channels: their tests in their order, and what they promise on every input.
--   moduli_tests m m'       3 of m, 3 of m', and 19: they share a factor greater than 1
--   list_tests              20: the two lists differ in length, 7, 12 of the first list, 12 of the second
--   size_tests              4 5 6 7
--   both_rows               on the remainders of the rows 17 10 modulo m, 17 10 modulo m', 18 11 modulo m, 18 11 modulo m'
--   join_tests              of Join: 3 3 19, list_tests
--   expand_join_tests       of Expand and join: 3 3 19, size_tests, both_rows
--   wholes_after v new old  what the output holds after the verdict v: new if finished, what it held if refused
--   WholesHanded            the promise of a call that hands out whole numbers;  JoinCall, ExpandJoinCall  of each
-- 9 and 12 are not tested where the numbers are reduced first, since a remainder is below its modulus. Items 6, 5 and 2 of the change
-- requests. Assumes nothing.
use Rattle.std.specs.Prelude.{◌≡◌, List, [], ◌∷◌, ◌++◌, ℕ, suc, ltb, ℤ, length}
use Rattle.definitions.specs.Family.{Family, first_c}
use Rattle.definitions.specs.Number.{greatest_factor}
use Rattle.definitions.specs.Refusals.{Test, Verdict, finished, refused, verdict, test, differ}
use Rattle.definitions.specs.Refusals.{modulus_test, equal_lengths_test, row_count_test, curve_length_test, output_test, curve_entries_test}
use Rattle.definitions.specs.Refusals.{a_zero_test, a_inverse_test, c_zero_test, c_inverse_test}
use Rattle.joining.specs.Whole.{joined_list}
use Rattle.joining.specs.Expanding.{Signed, reduced, reduced_expand}

unfoldable pub shared_factor_test : ℕ → ℕ → Test
shared_factor_test m m' = test 19 (ltb 1 (greatest_factor m m'))

unfoldable pub remainders_test : ℕ → ℕ → Test
remainders_test first second = test 20 (differ second first)

unfoldable pub moduli_tests : ℕ → ℕ → List Test
moduli_tests m m' = modulus_test m ∷ modulus_test m' ∷ shared_factor_test m m' ∷ []

unfoldable pub list_tests : ℕ → ℕ → List ℕ → List ℕ → ℕ → List Test
list_tests m m' xs ys output =
    remainders_test (length xs) (length ys) ∷ output_test (length xs) output ∷ curve_entries_test m xs ∷ curve_entries_test m' ys ∷ []

unfoldable pub join_tests : ℕ → ℕ → List ℕ → List ℕ → ℕ → List Test
join_tests m m' xs ys output = moduli_tests m m' ++ list_tests m m' xs ys output

-- 17 and 10 of a family, and 18 and 11
unfoldable pub a_tests : Family → List Test
a_tests f = a_zero_test f ∷ a_inverse_test f ∷ []

unfoldable pub c_tests : Family → List Test
c_tests f = c_zero_test first_c f ∷ c_inverse_test first_c f ∷ []

unfoldable pub both_rows : Family → Family → List Test
both_rows f f' = a_tests f ++ (a_tests f' ++ (c_tests f ++ c_tests f'))

-- 4 5 6 7, from the lengths of the rows' lists, the curve and the output
unfoldable pub size_tests : ℕ → ℕ → ℕ → ℕ → ℕ → List Test
size_tests a b c u output =
    equal_lengths_test a b c ∷ row_count_test a ∷ curve_length_test (suc a) u ∷ output_test (suc a) output ∷ []

unfoldable pub expand_join_tests : ℕ → ℕ → Signed → List ℤ → ℕ → List Test
expand_join_tests m m' s u output =
    moduli_tests m m'
    ++ (size_tests (length s.a) (length s.b) (length s.c) (length u) output ++ both_rows (reduced m s) (reduced m' s))

abbrev pub wholes_after : Verdict → List ℤ → List ℤ → List ℤ
wholes_after (finished values) new old = new
wholes_after (refused k) new old = old

-- tests: the call's tests; result: the definition's list; v: what the answer says; output and output': the output before and after
pub record WholesHanded (tests : List Test) (result : List ℤ) (v : Verdict) (output output' : List ℤ) : Type 0 where
  pub answer : v ≡ verdict tests []
  pub written : output' ≡ wholes_after v result output

abbrev pub JoinCall : ℕ → ℕ → List ℕ → List ℕ → Verdict → List ℤ → List ℤ → Type 0
JoinCall m m' xs ys v output output' = WholesHanded (join_tests m m' xs ys (length output)) (joined_list m m' xs ys) v output output'

abbrev pub ExpandJoinCall : ℕ → ℕ → Signed → List ℤ → Verdict → List ℤ → List ℤ → Type 0
ExpandJoinCall m m' s u v output output' =
    WholesHanded (expand_join_tests m m' s u (length output)) (joined_list m m' (reduced_expand m s u) (reduced_expand m' s u)) v output output'
