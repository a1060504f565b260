-- The tests of signed rows modulo m, column by column.
-- Proved: 17 and 10 of the reduced family are those of the column of its a, and 18 and 11 those of the column of its c (a-column, c-column);
-- a column of a list that begins with remainders is that of the remainders (front-column). Assumes nothing.
use Rattle.std.specs.Prelude.{List, [], ◌∷◌, ◌++◌, ◌≡◌, ℕ, suc, ◌-◌, eqb, ℤ, length, get_or, take}
use Rattle.std.proofs.Math.Path.{refl, sym}
use Rattle.std.proofs.Common.{◌∙◌, ap, ap₂, arith, take_at, take_all}
use Rattle.std.proofs.lemmas.List.{length-map}
use Rattle.definitions.specs.Family.{first_c, row_at}
use Rattle.definitions.specs.Refusals.{Test, test, some_from, lowest_from, some_row, lowest_row, no_inverse}
use Rattle.definitions.specs.Refusals.{a_zero_test, a_inverse_test, c_zero_test, c_inverse_test}
use Rattle.checks.specs.Columns.{column_tests}
use Rattle.joining.specs.Whole.{remainder}
use Rattle.joining.specs.Expanding.{signed, reduced_list, reduced}
use Rattle.joining.specs.Calls.{a_tests, c_tests}

-- the tests of the numbers of a list, closed by 1
abbrev listed : ℕ → ℕ → ℕ → List ℕ → ℕ → ℕ → List Test
listed m first count xs zero_number shared_number =
    test zero_number (lowest_from (λ i. no_inverse m (get_or xs i 1)) (λ i. eqb (get_or xs i 1) 0) first count)
    ∷ test shared_number (some_from (λ i. no_inverse m (get_or xs i 1)) first count)
    ∷ []

module _ (m first r : ℕ) (list : List ℕ) (zero_number shared_number : ℕ) where
  column-listed : column_tests m first r list 1 zero_number shared_number ≡ listed m first (suc r - first) (take r list) zero_number shared_number
  unfolding column_tests
  column-listed = refl

module _ (m first : ℕ) (xs : List ℤ) (zero_number shared_number : ℕ) where
  pub front-column : (rest list : List ℕ) → list ≡ reduced_list m xs ++ rest
      → column_tests m first (length xs) list 1 zero_number shared_number ≡ column_tests m first (length xs) (reduced_list m xs) 1 zero_number shared_number
  front-column rest list e =
      column-listed m first (length xs) list zero_number shared_number
      ∙ ap (λ l. listed m first (suc (length xs) - first) l zero_number shared_number)
      (ap (take (length xs)) e ∙ take_at (reduced_list m xs) rest (length xs) (length-map xs (remainder m))
      ∙ sym (take_all (length xs) (reduced_list m xs) (omega (arith, length-map xs (remainder m)))))
      ∙ sym (column-listed m first (length xs) (reduced_list m xs) zero_number shared_number)

  -- where the rows are counted by another list
  whole-column : (r : ℕ) → r ≡ length xs
      → listed m first (suc r - first) (reduced_list m xs) zero_number shared_number
      ≡ column_tests m first (length xs) (reduced_list m xs) 1 zero_number shared_number
  whole-column r e =
      ap₂ (λ k l. listed m first (suc k - first) l zero_number shared_number) e
      (sym (take_all (length xs) (reduced_list m xs) (omega (arith, length-map xs (remainder m)))))
      ∙ sym (column-listed m first (length xs) (reduced_list m xs) zero_number shared_number)

module _ (m : ℕ) (a b c : List ℤ) where
  pub a-column : a_tests (reduced m (signed a b c)) ≡ column_tests m 0 (length a) (reduced_list m a) 1 17 10
  unfolding a_tests a_zero_test a_inverse_test lowest_row some_row row_at
  a-column = whole-column m 0 a 17 10 (length (reduced_list m a)) (length-map a (remainder m))

  pub c-column : length c ≡ length a → c_tests (reduced m (signed a b c)) ≡ column_tests m first_c (length c) (reduced_list m c) 1 18 11
  unfolding c_tests c_zero_test c_inverse_test lowest_row some_row row_at
  c-column e = whole-column m first_c c 18 11 (length (reduced_list m a)) (length-map a (remainder m) ∙ sym e)
