-- Whole numbers with a sign, and the joined value of two remainders. The kit's ℤ has pos n for n and negsuc n for -(n + 1).
--   remainder m v           from m = 1 on the number below m that v leaves modulo m: it differs from v by a multiple of m
--   in_range w v            2v is greater than -w and at most w
--   joins m m' x y v        v is in the range of m m', and leaves x modulo m and y modulo m'
--   joined m m' x y         the joined value: the whole number that joins, found by search, and 0 where there is none
--   joined_list m m' xs ys  the joined values of two lists, place by place
-- m and m' are the two moduli (the paper's channel numbers). Item 6 of the change requests. Assumes nothing.
use Rattle.std.specs.Prelude.{Bool, true, false, ◌&&◌, List, [], ◌∷◌, ℕ, zero, suc, ◌*◌, ◌%◌, eqb, ℤ, pos, negsuc, neg_ℤ, ◌*ℤ◌}
use Rattle.std.specs.Int.Signed.{lt_z, le_z}
use Rattle.definitions.specs.Number.{negative}

unfoldable pub remainder : ℕ → ℤ → ℕ
remainder m (pos n) = n % m
remainder m (negsuc n) = negative m (suc n) % m

unfoldable pub in_range : ℕ → ℤ → Bool
in_range w v = lt_z (neg_ℤ (pos w)) (pos 2 *ℤ v) && le_z (pos 2 *ℤ v) (pos w)

unfoldable pub joins : ℕ → ℕ → ℕ → ℕ → ℤ → Bool
joins m m' x y v = in_range (m * m') v && eqb (remainder m v) x && eqb (remainder m' v) y

-- the first that joins of k, -k, k - 1, .., 1, -1, and 0 if none of these does; where m and m' share no factor, one number at most joins
unfoldable pub joined_up_to : ℕ → ℕ → ℕ → ℕ → ℕ → ℤ
joined_up_to m m' x y zero = pos 0
joined_up_to m m' x y (suc k) =
    elim (joins m m' x y (pos (suc k))) [
      | true ↦ pos (suc k)
      | false ↦ elim (joins m m' x y (negsuc k)) [ true ↦ negsuc k | false ↦ joined_up_to m m' x y k ]
    ]

-- what is in the range of m m' is in size at most m m'
unfoldable pub joined : ℕ → ℕ → ℕ → ℕ → ℤ
joined m m' x y = joined_up_to m m' x y (m * m')

-- as long as the shorter list
unfoldable pub joined_list : ℕ → ℕ → List ℕ → List ℕ → List ℤ
joined_list m m' [] ys = []
joined_list m m' (x ∷ xs) [] = []
joined_list m m' (x ∷ xs) (y ∷ ys) = joined m m' x y ∷ joined_list m m' xs ys
