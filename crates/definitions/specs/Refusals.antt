-- Who causes which refusal: for each call one list of tests, in the order in which they are tested.
--   Test             a refusal number, and whether its condition holds
--   verdict ts vs    refused with the number of the first test that holds; finished with the values vs if none does
--   family_shape f   the tests 3 4 5 of a family, and family_rows f its tests 9 17 10 18 11: each call on a family makes both
--   value_tests f u  the rows, and then 12 of the curve's entries: 9 17 10 18 11 12
--   plain_tests      of Expand, Adjoint and Decompose by the plain way;  tree_tests  by the tree way
--   moments_tests, norms_tests, inverse_tests
-- So a number is given if its condition holds and none before it does, and otherwise not. A test on
-- lengths is one of numbers; a call is given its family and its curve, and the lengths of the other lists. It skips the tests on things that
-- it is not lent.
-- The scope paper, 'Who causes which refusal', and items 2 and 5 of the change requests. Assumes nothing.
use Rattle.std.specs.Prelude.{Bool, true, false, not, ◌||◌, List, [], ◌∷◌, ◌++◌, ℕ, zero, suc, ◌*◌, ◌-◌, ◌%◌, eqb, ltb, leb, length}
use Rattle.definitions.specs.Number.{inverse}
use Rattle.definitions.specs.Family.{Row, Family, size, row_at, first_c, greatest_modulus, most_rows}
use Rattle.definitions.specs.Orthogonality.{moment_count}

pub record Test : Type 0 where
  pub number : ℕ
  pub holds : Bool

pub data Verdict : Type 0 where
  finished : List ℕ → Verdict
  refused : ℕ → Verdict

unfoldable pub verdict : List Test → List ℕ → Verdict
verdict [] values = finished values
verdict (t ∷ ts) values = elim t.holds [ true ↦ refused t.number | false ↦ verdict ts values ]

-- some entry of a list passes
unfoldable pub some : (ℕ → Bool) → List ℕ → Bool
some passes [] = false
some passes (x ∷ xs) = elim (passes x) [ true ↦ true | false ↦ some passes xs ]

-- one of the count numbers from first on passes
unfoldable pub some_from : (ℕ → Bool) → ℕ → ℕ → Bool
some_from passes first zero = false
some_from passes first (suc count) = elim (passes first) [ true ↦ true | false ↦ some_from passes (suc first) count ]

-- the lowest of the count numbers from first on that passes is also so; if none passes, it is not
unfoldable pub lowest_from : (ℕ → Bool) → (ℕ → Bool) → ℕ → ℕ → Bool
lowest_from passes also first zero = false
lowest_from passes also first (suc count) = elim (passes first) [ true ↦ also first | false ↦ lowest_from passes also (suc first) count ]

-- a row passes, of those from place first on up to row n, the closing row
unfoldable pub some_row : Family → ℕ → (Row → Bool) → Bool
some_row f first passes = some_from (λ i. passes (row_at f i)) first (size f - first)

-- the lowest of these rows that passes is also so
unfoldable pub lowest_row : Family → ℕ → (Row → Bool) → (Row → Bool) → Bool
lowest_row f first passes also = lowest_from (λ i. passes (row_at f i)) (λ i. also (row_at f i)) first (size f - first)

unfoldable pub differ : ℕ → ℕ → Bool
differ x y = not (eqb x y)

unfoldable pub not_below : ℕ → ℕ → Bool
not_below m x = leb m x

unfoldable pub no_inverse : ℕ → ℕ → Bool
no_inverse m x = not (eqb (x * inverse m x % m) 1)

abbrev pub work_length : ℕ
work_length = 16384

abbrev pub test : ℕ → Bool → Test
test number holds = record { number = number; holds = holds }

-- the writer of the station's program
unfoldable pub modulus_test : ℕ → Test
modulus_test m = test 3 (ltb m 2 || ltb greatest_modulus m)

unfoldable pub equal_lengths_test : ℕ → ℕ → ℕ → Test
equal_lengths_test a b c = test 4 (differ b a || differ c a)

unfoldable pub row_count_test : ℕ → Test
row_count_test rows = test 5 (ltb most_rows rows)

unfoldable pub curve_length_test : ℕ → ℕ → Test
curve_length_test wanted curve = test 6 (differ curve wanted)

unfoldable pub output_test : ℕ → ℕ → Test
output_test wanted output = test 7 (differ output wanted)

unfoldable pub work_test : ℕ → Test
work_test work = test 8 (ltb work work_length)

-- the maker of the element, who supplies the family
unfoldable pub entries_test : Family → Test
entries_test f = test 9 (some_row f 0 (λ row. not_below f.m row.a || not_below f.m row.b || not_below f.m row.c))

-- the lowest row whose a has no inverse has a zero there
unfoldable pub a_zero_test : Family → Test
a_zero_test f = test 17 (lowest_row f 0 (λ row. no_inverse f.m row.a) (λ row. eqb row.a 0))

unfoldable pub a_inverse_test : Family → Test
a_inverse_test f = test 10 (some_row f 0 (λ row. no_inverse f.m row.a))

-- the same of the c from place first on
unfoldable pub c_zero_test : ℕ → Family → Test
c_zero_test first f = test 18 (lowest_row f first (λ row. no_inverse f.m row.c) (λ row. eqb row.c 0))

unfoldable pub c_inverse_test : ℕ → Family → Test
c_inverse_test first f = test 11 (some_row f first (λ row. no_inverse f.m row.c))

-- the sender of the curve
unfoldable pub curve_entries_test : ℕ → List ℕ → Test
curve_entries_test m u = test 12 (some (not_below m) u)

unfoldable pub number_test : ℕ → ℕ → Test
number_test m x = test 12 (not_below m x)

unfoldable pub number_inverse_test : ℕ → ℕ → Test
number_inverse_test m x = test 13 (no_inverse m x)

-- the stages of a family: its shape, 3 4 5, from the modulus and the lengths of its lists
unfoldable pub shape_tests : ℕ → ℕ → ℕ → ℕ → List Test
shape_tests m a b c = modulus_test m ∷ equal_lengths_test a b c ∷ row_count_test a ∷ []

abbrev pub family_shape : Family → List Test
family_shape f = shape_tests f.m (length f.a) (length f.b) (length f.c)

-- and its rows, 9 17 10 18 11; of the c those from place first on
unfoldable pub row_inverses : ℕ → Family → List Test
row_inverses first f = a_zero_test f ∷ a_inverse_test f ∷ c_zero_test first f ∷ c_inverse_test first f ∷ []

unfoldable pub family_rows : Family → List Test
family_rows f = entries_test f ∷ row_inverses first_c f

-- the rows of a family, and the entries of a curve, 12
unfoldable pub value_tests : Family → List ℕ → List Test
value_tests f u = family_rows f ++ (curve_entries_test f.m u ∷ [])

-- the calls
unfoldable pub plain_tests : Family → List ℕ → ℕ → List Test
plain_tests f u output =
    family_shape f
    ++ (curve_length_test (size f) (length u) ∷ output_test (size f) output
    ∷ value_tests f u)

unfoldable pub tree_tests : Family → List ℕ → ℕ → ℕ → List Test
tree_tests f u output work =
    family_shape f
    ++ (curve_length_test (size f) (length u) ∷ output_test (size f) output ∷ work_test work
    ∷ value_tests f u)

unfoldable pub moments_tests : Family → ℕ → ℕ → List Test
moments_tests f output work =
    family_shape f
    ++ (output_test (moment_count f) output ∷ work_test work
    ∷ family_rows f)

unfoldable pub norms_tests : Family → ℕ → List Test
norms_tests f output =
    family_shape f
    ++ (output_test (size f) output
    ∷ family_rows f)

unfoldable pub inverse_tests : ℕ → ℕ → List Test
inverse_tests m x = modulus_test m ∷ number_test m x ∷ number_inverse_test m x ∷ []
