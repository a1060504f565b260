-- The family and its polynomials.
--   Modulus m      m is a channel number of the paper: from 2 to 2147483647
--   Row            three numbers a, b, c;  ones  the closing row 1 1 1;  RowBelow  all three are below m
--   Family         the modulus, the lists a, b and c, and the closing row, which is row n
--   F f j i        the coefficient of x^i in F_j; G f j i the same of G_j
--   Accepted f     what the paper accepts;  Convertible f  what the laws need of it: the inverses
--   Curve f u      u is a list of n numbers below m
-- Row i of the paper, i = 1 to n, stands at place i - 1: the closing row is row n. Places n - 1 and higher read as the closing row, so
-- that F_j is there for every j. The scope paper, 'Channel, family, curve' and 'The definitions'. Assumes nothing.
use Rattle.std.specs.Prelude.{◌≡◌, List, ℕ, zero, suc, ◌+◌, ◌*◌, ◌%◌, ◌<◌, ◌≤◌, length, get_or}
use Rattle.definitions.specs.Number.{HasInverse}

abbrev pub greatest_modulus : ℕ
greatest_modulus = 2147483647

abbrev pub most_rows : ℕ
most_rows = 127

pub record Modulus (m : ℕ) : Type 0 where
  pub least : 2 ≤ m
  pub greatest : m ≤ greatest_modulus

pub record Row : Type 0 where
  pub a : ℕ
  pub b : ℕ
  pub c : ℕ

abbrev pub row_of : ℕ → ℕ → ℕ → Row
row_of a b c = record { a = a; b = b; c = c }

pub record Family : Type 0 where
  pub m : ℕ
  pub a : List ℕ
  pub b : List ℕ
  pub c : List ℕ
  pub close : Row

-- the paper's closing row 1 1 1, and the family of three lists that it closes
abbrev pub ones : Row
ones = row_of 1 1 1

abbrev pub family : ℕ → List ℕ → List ℕ → List ℕ → Family
family m a b c = record { m = m; a = a; b = b; c = c; close = ones }

-- r, and n = r + 1
abbrev pub rows : Family → ℕ
rows f = length f.a

abbrev pub size : Family → ℕ
size f = suc (rows f)

-- row i + 1
unfoldable pub row_at : Family → ℕ → Row
row_at f i = record { a = get_or f.a i f.close.a; b = get_or f.b i f.close.b; c = get_or f.c i f.close.c }

-- the coefficients of x times p
unfoldable pub times_x : (ℕ → ℕ) → ℕ → ℕ
times_x p zero = 0
times_x p (suc i) = p i

-- the coefficient of x^i in P_{k-1}, where P_{-1} = 0, P_0 = 1, P_k = (a_k x + b_k) P_{k-1} + c_k P_{k-2}
unfoldable pub term : ℕ → (ℕ → Row) → ℕ → ℕ → ℕ
term m row zero i = 0
term m row (suc zero) zero = 1
term m row (suc zero) (suc i) = 0
term m row (suc (suc k)) i = ((row k).a * times_x (term m row (suc k)) i + (row k).b * term m row (suc k) i + (row k).c * term m row k i) % m

unfoldable pub F : Family → ℕ → ℕ → ℕ
F f j = term f.m (row_at f) (suc j)

-- the rows of G begin with row 2
unfoldable pub G : Family → ℕ → ℕ → ℕ
G f j = term f.m (λ i. row_at f (suc i)) (suc j)

pub record RowBelow (m : ℕ) (row : Row) : Type 0 where
  pub a_below : row.a < m
  pub b_below : row.b < m
  pub c_below : row.c < m

-- the place of the first row whose c must have an inverse: row 2, since c_1 multiplies F_{-1} = 0 only
abbrev pub first_c : ℕ
first_c = 1

-- the entries and the inverses of the a are asked of rows 1 to n, those of the c of rows 2 to n; 1 1 1 passes as row n for every modulus
pub record Accepted (f : Family) : Type 0 where
  pub modulus : Modulus f.m
  pub b_length : length f.b ≡ rows f
  pub c_length : length f.c ≡ rows f
  pub row_count : rows f ≤ most_rows
  pub below : (i : ℕ) → i < size f → RowBelow f.m (row_at f i)
  pub a_inverse : (i : ℕ) → i < size f → HasInverse f.m (row_at f i).a
  pub c_inverse : (i : ℕ) → first_c ≤ i → i < size f → HasInverse f.m (row_at f i).c

-- the a of rows 1 to n and the c of rows 2 to n have inverses
pub record Convertible (f : Family) : Type 0 where
  pub modulus : 2 ≤ f.m
  pub a_inverse : (i : ℕ) → i < size f → HasInverse f.m (row_at f i).a
  pub c_inverse : (i : ℕ) → i < rows f → HasInverse f.m (row_at f (suc i)).c

pub record Curve (f : Family) (u : List ℕ) : Type 0 where
  pub long : length u ≡ size f
  pub below : (i : ℕ) → i < size f → get_or u i 0 < f.m
