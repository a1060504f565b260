-- Expand over the whole numbers, and its family and curve reduced modulo m.
--   Signed              rows of whole numbers: the lists a, b and c. Past their end rows read as the closing row 1 1 1
--   whole_term row k i  the coefficient of x^i in P_{k-1}, by the recurrence of `definitions`, Family, over the whole numbers
--   coefficient s u i   the true expanded coefficient: that of x^i in the sum of u_j F_j over the whole numbers, j from 0 to r
--   whole_expand s u    the n true coefficients
--   reduced_list m xs   the remainders of a list; reduced m s the family modulo m of the remainders of the rows
--   reduced_expand      Expand modulo m of the remainders of rows and curve
-- Item 6 of the change requests. Assumes nothing.
use Rattle.std.specs.Prelude.{List, map, ℕ, zero, suc, ℤ, pos, ◌+ℤ◌, ◌*ℤ◌, length, get_or}
use Rattle.definitions.specs.Conversion.{expand}
use Rattle.definitions.specs.Family.{Family, family}
use Rattle.definitions.specs.Number.{table}
use Rattle.joining.specs.Whole.{remainder}

pub record Signed : Type 0 where
  pub a : List ℤ
  pub b : List ℤ
  pub c : List ℤ

abbrev pub signed : List ℤ → List ℤ → List ℤ → Signed
signed a b c = record { a = a; b = b; c = c }

pub record SignedRow : Type 0 where
  pub a : ℤ
  pub b : ℤ
  pub c : ℤ

-- row i + 1
abbrev pub signed_row : Signed → ℕ → SignedRow
signed_row s i = record { a = get_or s.a i (pos 1); b = get_or s.b i (pos 1); c = get_or s.c i (pos 1) }

unfoldable pub whole_times_x : (ℕ → ℤ) → ℕ → ℤ
whole_times_x p zero = pos 0
whole_times_x p (suc i) = p i

unfoldable pub whole_term : (ℕ → SignedRow) → ℕ → ℕ → ℤ
whole_term row zero i = pos 0
whole_term row (suc zero) zero = pos 1
whole_term row (suc zero) (suc i) = pos 0
whole_term row (suc (suc k)) i =
    (row k).a *ℤ whole_times_x (whole_term row (suc k)) i +ℤ (row k).b *ℤ whole_term row (suc k) i +ℤ (row k).c *ℤ whole_term row k i

unfoldable pub whole_sum : ℕ → (ℕ → ℤ) → ℤ
whole_sum zero f = pos 0
whole_sum (suc n) f = whole_sum n f +ℤ f n

unfoldable pub coefficient : Signed → List ℤ → ℕ → ℤ
coefficient s u i = whole_sum (suc (length s.a)) (λ j. get_or u j (pos 0) *ℤ whole_term (signed_row s) (suc j) i)

unfoldable pub whole_expand : Signed → List ℤ → List ℤ
whole_expand s u = map (coefficient s u) (table (suc (length s.a)) (λ i. i))

abbrev pub reduced_list : ℕ → List ℤ → List ℕ
reduced_list m xs = map (remainder m) xs

abbrev pub reduced : ℕ → Signed → Family
reduced m s = family m (reduced_list m s.a) (reduced_list m s.b) (reduced_list m s.c)

abbrev pub reduced_expand : ℕ → Signed → List ℤ → List ℕ
reduced_expand m s u = expand (reduced m s) (reduced_list m u)
