-- The figures to check by, P1 to P12 of the scope paper, and worked examples of our own.
--   Call      a call with its input, its output as long as it must be; call_totals stands for the two sides of the product law
--   handed    what the call hands out: its verdict, with the definition's list or number as the values
--   figures   each call beside what it must hand out
--   examples  the same of our own, for what the paper's figures leave untouched
--   first_cs  families whose c_1 has no inverse, by every operation
--   reasons   families of which the lowest row without an inverse has a zero, or shares a factor with m
-- figures-hold, examples-hold, first-cs-hold and reasons-hold: every row of the tables is right, by computation from the definitions.
-- factors-told: the factor that Inverse tells beside P8 and P9 and of zero, and where it tells none. Assumes nothing.
use Rattle.std.specs.Prelude.{◌≡◌, refl, List, [], ◌∷◌, map, ℕ}
use Rattle.definitions.specs.Number.{sum, table, negative, inverse_below, inverse, divides, factor_up_to, greatest_factor}
use Rattle.definitions.specs.Family.{Family, family, size, row_at, times_x, term, F, G}
use Rattle.definitions.specs.Conversion.{expand, adjoint, top, less_top, decompose_below, decompose}
use Rattle.definitions.specs.Orthogonality.{reversal, next_quotient, quotient, moment_count, moments, signed_product}
use Rattle.definitions.specs.Orthogonality.{norm, norms, product, moment_total, norm_total}
use Rattle.definitions.specs.Refusals.{Verdict, finished, refused, verdict, some, some_from, lowest_from, some_row, lowest_row}
use Rattle.definitions.specs.Refusals.{differ, not_below, no_inverse}
use Rattle.definitions.specs.Refusals.{work_length, modulus_test, equal_lengths_test, row_count_test, curve_length_test, output_test}
use Rattle.definitions.specs.Refusals.{work_test}
use Rattle.definitions.specs.Refusals.{entries_test, a_zero_test, a_inverse_test, c_zero_test, c_inverse_test, curve_entries_test}
use Rattle.definitions.specs.Refusals.{shape_tests, row_inverses}
use Rattle.definitions.specs.Refusals.{family_rows, value_tests, number_test, number_inverse_test, plain_tests, moments_tests, norms_tests}
use Rattle.definitions.specs.Refusals.{inverse_tests}
use Rattle.definitions.specs.Answers.{after_factor}

pub data Call : Type 0 where
  call_expand : Family → List ℕ → Call
  call_adjoint : Family → List ℕ → Call
  call_decompose : Family → List ℕ → Call
  call_moments : Family → Call
  call_norms : Family → Call
  call_inverse : ℕ → ℕ → Call
  call_totals : Family → List ℕ → List ℕ → Call

-- whoever unfolds it unfolds the definitions that it leads to
unfoldable pub handed : Call → Verdict
unfolding sum table negative inverse_below inverse row_at times_x term F G expand adjoint top less_top decompose_below decompose reversal
    next_quotient quotient moments signed_product norm norms product moment_total norm_total verdict some differ not_below no_inverse
    some_from some_row lowest_from lowest_row modulus_test equal_lengths_test row_count_test curve_length_test output_test work_test entries_test
    a_zero_test a_inverse_test c_zero_test c_inverse_test curve_entries_test shape_tests row_inverses family_rows value_tests number_test
    number_inverse_test plain_tests moments_tests norms_tests inverse_tests
handed (call_expand f u) = verdict (plain_tests f u (size f)) (expand f u)
handed (call_adjoint f u) = verdict (plain_tests f u (size f)) (adjoint f u)
handed (call_decompose f p) = verdict (plain_tests f p (size f)) (decompose f p)
handed (call_moments f) = verdict (moments_tests f (moment_count f) work_length) (moments f)
handed (call_norms f) = verdict (norms_tests f (size f)) (norms f)
handed (call_inverse m x) = verdict (inverse_tests m x) (inverse m x ∷ [])
handed (call_totals f u v) =
    finished (moment_total f.m (size f) (expand f u) (expand f v) (moments f) ∷ norm_total f.m (size f) u v (norms f) ∷ [])

pub record Figure : Type 0 where
  pub call : Call
  pub hands : Verdict

infix 80 ◌gives◌
abbrev ◌gives◌ : Call → Verdict → Figure
call gives hands = record { call = call; hands = hands }

-- the paper's R, of which F_2 = 2 x^2 + 3 x + 5, and a family of four rows modulo 35, with any c_1 and with 3
abbrev pub R : Family
R = family 7 (1 ∷ 2 ∷ []) (0 ∷ 3 ∷ []) (1 ∷ 5 ∷ [])

abbrev pub four_from : ℕ → Family
four_from c = family 35 (2 ∷ 3 ∷ 4 ∷ 6 ∷ []) (1 ∷ 0 ∷ 34 ∷ 5 ∷ []) (c ∷ 8 ∷ 9 ∷ 11 ∷ [])

abbrev pub four : Family
four = four_from 3

-- P1 to P12 in their order; P11 and P12 are two rows each
abbrev pub figures : List Figure
figures =
    call_expand R (3 ∷ 0 ∷ 1 ∷ []) gives finished (1 ∷ 3 ∷ 2 ∷ [])
    ∷ call_adjoint R (1 ∷ 3 ∷ 2 ∷ []) gives finished (1 ∷ 3 ∷ 4 ∷ [])
    ∷ call_decompose R (1 ∷ 3 ∷ 2 ∷ []) gives finished (3 ∷ 0 ∷ 1 ∷ [])
    ∷ call_moments R gives finished (1 ∷ 0 ∷ 1 ∷ 2 ∷ 1 ∷ [])
    ∷ call_norms R gives finished (1 ∷ 1 ∷ 5 ∷ [])
    ∷ call_expand (family 2 [] [] []) (1 ∷ []) gives finished (1 ∷ [])
    ∷ call_expand (family 2 (1 ∷ []) (1 ∷ []) (1 ∷ [])) (1 ∷ 1 ∷ []) gives finished (0 ∷ 1 ∷ [])
    ∷ call_inverse 15 4 gives finished (4 ∷ [])
    ∷ call_inverse 15 6 gives refused 13
    ∷ call_expand (family 15 (3 ∷ []) (0 ∷ []) (5 ∷ [])) (1 ∷ 1 ∷ []) gives refused 10
    ∷ call_moments (family 7 [] [] []) gives finished (1 ∷ [])
    ∷ call_norms (family 7 [] [] []) gives finished (1 ∷ [])
    ∷ call_moments (family 15 (2 ∷ []) (1 ∷ []) (4 ∷ [])) gives finished (8 ∷ 11 ∷ 13 ∷ [])
    ∷ call_norms (family 15 (2 ∷ []) (1 ∷ []) (4 ∷ [])) gives finished (8 ∷ 14 ∷ [])
    ∷ []

-- our own: the four-row family both ways; factors that are zero, that equal m and that share a factor with m; two faults at once; the
-- greatest modulus, which passes 3, with no curve, so that 6 is given before an inverse is searched for by as many steps as it says
abbrev pub examples : List Figure
examples =
    call_expand four (1 ∷ 2 ∷ 3 ∷ 4 ∷ 5 ∷ []) gives finished (6 ∷ 31 ∷ 7 ∷ 1 ∷ 20 ∷ [])
    ∷ call_adjoint four (1 ∷ 2 ∷ 3 ∷ 4 ∷ 5 ∷ []) gives finished (1 ∷ 5 ∷ 32 ∷ 34 ∷ 4 ∷ [])
    ∷ call_decompose four (6 ∷ 31 ∷ 7 ∷ 1 ∷ 20 ∷ []) gives finished (1 ∷ 2 ∷ 3 ∷ 4 ∷ 5 ∷ [])
    ∷ call_moments four gives finished (18 ∷ 26 ∷ 33 ∷ 13 ∷ 20 ∷ 9 ∷ 30 ∷ 26 ∷ 19 ∷ [])
    ∷ call_norms four gives finished (18 ∷ 9 ∷ 18 ∷ 8 ∷ 22 ∷ [])
    ∷ call_totals four (1 ∷ 2 ∷ 3 ∷ 4 ∷ 5 ∷ []) (2 ∷ 7 ∷ 1 ∷ 8 ∷ 2 ∷ []) gives finished (27 ∷ 27 ∷ [])
    ∷ call_inverse 7 0 gives refused 13
    ∷ call_inverse 7 7 gives refused 12
    ∷ call_inverse 1 0 gives refused 3
    ∷ call_inverse 1 1 gives refused 3
    ∷ call_norms (family 7 (1 ∷ 0 ∷ []) (0 ∷ 0 ∷ []) (1 ∷ 1 ∷ [])) gives refused 17
    ∷ call_norms (family 7 (1 ∷ 7 ∷ []) (0 ∷ 0 ∷ []) (1 ∷ 1 ∷ [])) gives refused 9
    ∷ call_norms (family 15 (1 ∷ 1 ∷ []) (0 ∷ 0 ∷ []) (1 ∷ 6 ∷ [])) gives refused 11
    ∷ call_expand (family 15 (1 ∷ 1 ∷ []) (0 ∷ 0 ∷ []) (1 ∷ 0 ∷ [])) (15 ∷ 15 ∷ 15 ∷ []) gives refused 18
    ∷ call_expand (family 15 (1 ∷ []) (0 ∷ []) (1 ∷ [])) (15 ∷ 15 ∷ []) gives refused 12
    ∷ call_expand (family 2147483647 [] [] []) [] gives refused 6
    ∷ call_expand (family 2147483648 [] [] []) [] gives refused 3
    ∷ []

-- a c_1 that is 0; one that shares 5 with 35, in the family of four rows; and one that shares 3 with 15, in P12's, which has one row
abbrev pub zero_first : Family
zero_first = family 35 (1 ∷ 3 ∷ []) (0 ∷ 0 ∷ []) (0 ∷ 6 ∷ [])

abbrev pub shared_first : Family
shared_first = four_from 10

abbrev pub only_row : Family
only_row = family 15 (2 ∷ []) (1 ∷ []) (6 ∷ [])

-- each operation finishes on them; what must still be refused: a c_1 that is not below m, an a_1 without an inverse, and a c_2
abbrev pub first_cs : List Figure
first_cs =
    call_expand zero_first (1 ∷ 2 ∷ 3 ∷ []) gives finished (19 ∷ 2 ∷ 9 ∷ [])
    ∷ call_adjoint zero_first (1 ∷ 2 ∷ 3 ∷ []) gives finished (1 ∷ 2 ∷ 15 ∷ [])
    ∷ call_decompose zero_first (19 ∷ 2 ∷ 9 ∷ []) gives finished (1 ∷ 2 ∷ 3 ∷ [])
    ∷ call_moments zero_first gives finished (1 ∷ 0 ∷ 33 ∷ 0 ∷ 28 ∷ [])
    ∷ call_norms zero_first gives finished (1 ∷ 33 ∷ 6 ∷ [])
    ∷ call_totals zero_first (1 ∷ 2 ∷ 3 ∷ []) (4 ∷ 5 ∷ 6 ∷ []) gives finished (22 ∷ 22 ∷ [])
    ∷ call_expand shared_first (1 ∷ 2 ∷ 3 ∷ 4 ∷ 5 ∷ []) gives finished (6 ∷ 31 ∷ 7 ∷ 1 ∷ 20 ∷ [])
    ∷ call_adjoint shared_first (1 ∷ 2 ∷ 3 ∷ 4 ∷ 5 ∷ []) gives finished (1 ∷ 5 ∷ 32 ∷ 34 ∷ 4 ∷ [])
    ∷ call_decompose shared_first (6 ∷ 31 ∷ 7 ∷ 1 ∷ 20 ∷ []) gives finished (1 ∷ 2 ∷ 3 ∷ 4 ∷ 5 ∷ [])
    ∷ call_moments shared_first gives finished (18 ∷ 26 ∷ 33 ∷ 13 ∷ 20 ∷ 9 ∷ 30 ∷ 26 ∷ 19 ∷ [])
    ∷ call_norms shared_first gives finished (18 ∷ 9 ∷ 18 ∷ 8 ∷ 22 ∷ [])
    ∷ call_totals shared_first (1 ∷ 2 ∷ 3 ∷ 4 ∷ 5 ∷ []) (2 ∷ 7 ∷ 1 ∷ 8 ∷ 2 ∷ []) gives finished (27 ∷ 27 ∷ [])
    ∷ call_expand only_row (1 ∷ 2 ∷ []) gives finished (3 ∷ 4 ∷ [])
    ∷ call_adjoint only_row (1 ∷ 2 ∷ []) gives finished (1 ∷ 5 ∷ [])
    ∷ call_decompose only_row (3 ∷ 4 ∷ []) gives finished (1 ∷ 2 ∷ [])
    ∷ call_moments only_row gives finished (8 ∷ 11 ∷ 13 ∷ [])
    ∷ call_norms only_row gives finished (8 ∷ 14 ∷ [])
    ∷ call_totals only_row (1 ∷ 2 ∷ []) (3 ∷ 4 ∷ []) gives finished (1 ∷ 1 ∷ [])
    ∷ call_norms (family 15 (2 ∷ []) (1 ∷ []) (15 ∷ [])) gives refused 9
    ∷ call_norms (family 15 (6 ∷ []) (1 ∷ []) (0 ∷ [])) gives refused 10
    ∷ call_norms (family 35 (1 ∷ 3 ∷ []) (0 ∷ 0 ∷ []) (0 ∷ 0 ∷ [])) gives refused 18
    ∷ []

-- P10's family with a zero in the place of its a; three rows modulo 15, of which 3, 6 and 10 share a factor with 15
abbrev pub three : List ℕ → List ℕ → Family
three a c = family 15 a (0 ∷ 0 ∷ 0 ∷ []) c

abbrev pub reasons : List Figure
reasons =
    call_expand (family 15 (0 ∷ []) (0 ∷ []) (5 ∷ [])) (1 ∷ 1 ∷ []) gives refused 17
    ∷ call_norms (three (1 ∷ 3 ∷ 0 ∷ []) (1 ∷ 1 ∷ 1 ∷ [])) gives refused 10
    ∷ call_norms (three (1 ∷ 0 ∷ 3 ∷ []) (1 ∷ 1 ∷ 1 ∷ [])) gives refused 17
    ∷ call_norms (three (6 ∷ 0 ∷ 1 ∷ []) (1 ∷ 1 ∷ 1 ∷ [])) gives refused 10
    ∷ call_norms (three (0 ∷ 1 ∷ 10 ∷ []) (1 ∷ 1 ∷ 1 ∷ [])) gives refused 17
    ∷ call_norms (three (1 ∷ 1 ∷ 1 ∷ []) (1 ∷ 3 ∷ 0 ∷ [])) gives refused 11
    ∷ call_norms (three (1 ∷ 1 ∷ 1 ∷ []) (1 ∷ 0 ∷ 3 ∷ [])) gives refused 18
    ∷ call_norms (three (1 ∷ 1 ∷ 1 ∷ []) (0 ∷ 6 ∷ 1 ∷ [])) gives refused 11
    ∷ call_norms (three (1 ∷ 1 ∷ 1 ∷ []) (6 ∷ 1 ∷ 0 ∷ [])) gives refused 18
    ∷ call_norms (three (1 ∷ 1 ∷ 10 ∷ []) (1 ∷ 0 ∷ 1 ∷ [])) gives refused 10
    ∷ call_norms (three (1 ∷ 1 ∷ 0 ∷ []) (1 ∷ 6 ∷ 1 ∷ [])) gives refused 17
    ∷ call_norms (three (1 ∷ 0 ∷ 15 ∷ []) (1 ∷ 1 ∷ 1 ∷ [])) gives refused 9
    ∷ []

-- a table holds: each call hands out what stands beside it
abbrev pub Hold : List Figure → Type 0
Hold figures = map (λ x. handed x.call) figures ≡ map (λ x. x.hands) figures

pub figures-hold : Hold figures
unfolding handed
figures-hold = refl

pub examples-hold : Hold examples
unfolding handed
examples-hold = refl

pub first-cs-hold : Hold first_cs
unfolding handed
first-cs-hold = refl

pub reasons-hold : Hold reasons
unfolding handed
reasons-hold = refl

abbrev pub factor_told : ℕ × ℕ → List ℕ
factor_told (m, x) = after_factor (verdict (inverse_tests m x) []) (greatest_factor m x ∷ []) []

pub factors-told : map factor_told ((15, 4) ∷ (15, 6) ∷ (15, 0) ∷ (15, 10) ∷ (12, 8) ∷ (7, 0) ∷ (2, 1) ∷ (15, 15) ∷ (1, 0) ∷ [])
    ≡ (1 ∷ []) ∷ (3 ∷ []) ∷ (15 ∷ []) ∷ (5 ∷ []) ∷ (4 ∷ []) ∷ (7 ∷ []) ∷ (1 ∷ []) ∷ [] ∷ [] ∷ []
unfolding handed divides factor_up_to greatest_factor
factors-told = refl

pub greatest-expanded : expand (family 2147483647 [] [] []) (2147483646 ∷ []) ≡ 2147483646 ∷ []
unfolding handed
greatest-expanded = refl
