-- Whole numbers modulo m, by their remainders from 0 to m - 1.
--   sum n f       f 0 + .. + f (n - 1)
--   table n f     the list f 0, .., f (n - 1)
--   negative m x  a number that with x adds up to a multiple of m
--   HasInverse    some number times x leaves remainder 1
--   inverse m x   the inverse of x: the number below m that does
--   greatest_factor m x  the greatest common factor of x and m: the greatest number that divides both
-- The scope paper, 'Channel, family, curve', and item 5 of the change requests. Assumes nothing.
use Rattle.std.specs.Prelude.{◌≡◌, Bool, true, false, ◌&&◌, List, [], ◌∷◌, ℕ, zero, suc, ◌+◌, ◌*◌, ◌-◌, ◌%◌, eqb}

unfoldable pub sum : ℕ → (ℕ → ℕ) → ℕ
sum zero f = 0
sum (suc n) f = sum n f + f n

unfoldable pub table : ℕ → (ℕ → ℕ) → List ℕ
table zero f = []
table (suc n) f = f 0 ∷ table n (λ i. f (suc i))

unfoldable pub negative : ℕ → ℕ → ℕ
negative m x = m - x % m

unfoldable pub HasInverse : ℕ → ℕ → Type 0
HasInverse m x = (y : ℕ) × (x * y % m ≡ 1)

-- the greatest y below k whose product with x leaves 1, and 0 if there is none; below m there is at most one
unfoldable pub inverse_below : ℕ → ℕ → ℕ → ℕ
inverse_below m x zero = 0
inverse_below m x (suc y) = elim (eqb (x * y % m) 1) [ true ↦ y | false ↦ inverse_below m x y ]

unfoldable pub inverse : ℕ → ℕ → ℕ
inverse m x = inverse_below m x m

-- d divides x: nothing is left
unfoldable pub divides : ℕ → ℕ → Bool
divides d x = eqb (x % d) 0

-- the greatest d up to k that divides both x and m, and 0 if there is none
unfoldable pub factor_up_to : ℕ → ℕ → ℕ → ℕ
factor_up_to m x zero = 0
factor_up_to m x (suc d) = elim (divides (suc d) x && divides (suc d) m) [ true ↦ suc d | false ↦ factor_up_to m x d ]

-- from m = 1 on nothing greater than m divides m; every number divides 0
unfoldable pub greatest_factor : ℕ → ℕ → ℕ
greatest_factor m x = factor_up_to m x m
