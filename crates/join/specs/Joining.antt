-- Joining remainders modulo m and m' by words of 64 bits.
--   Paired m m' k           two moduli, and k, below m', is the inverse of m modulo m'
--   Prepared m m' k big     and big, at most m + m', is a multiple of m' not below m
--   Remainders m m' xs ys l two lists of l entries at least, of which the first l are below m and below m'
--   Balancing w u           u is below w, and w is a product of two moduli at most
--   Joined                  a pass over two lists in progress: the first i places of the output are joined
-- Proved: what is found once for two moduli is Prepared; how a pass over two lists begins, goes on and ends. That no product and no sum is too
-- large, and what each step comes to, stands in Joining of proofs/. Assumes nothing.
use Rattle.std.specs.Prelude.{List, ◌≡◌, refl, ℕ, suc, ◌+◌, ◌*◌, ◌-◌, ◌/◌, ◌%◌, ◌≤◌, ◌<◌, ℤ, pos, length, get_or, set}
use Rattle.std.specs.Prelude.{take}
use Rattle.std.proofs.Common.{sym, ◌∙◌, ap₂, mod-lt, mul-suc, arith, below_more, length-set, get_or-set_same, get_or-set_other}
use Rattle.std.proofs.Common.{get_or-take, length-take-le}
use Rattle.std.proofs.Math.Path.{ap}
use Rattle.std.proofs.Math.Nat.{mod-add-div, mul-mod_right}
use Rattle.definitions.specs.Family.{Modulus}
use Rattle.joining.specs.Whole.{joined, joined_list}
use Rattle.wholes.specs.Lists.{joined-list-is}

pub record Paired (m m' k : ℕ) : Type 0 where
  pub first : Modulus m
  pub second : Modulus m'
  pub below : k < m'
  pub inverse : m * k % m' ≡ 1

pub record Prepared (m m' k big : ℕ) : Type 0 where
  pub pair : Paired m m' k
  pub multiple : big % m' ≡ 0
  pub least : m ≤ big
  pub most : big ≤ m + m'

pub record Remainders (m m' : ℕ) (xs ys : List ℕ) (l : ℕ) : Type 0 where
  pub first_long : l ≤ length xs
  pub second_long : l ≤ length ys
  pub first_below : (i : ℕ) → i < l → get_or xs i 0 < m
  pub second_below : (i : ℕ) → i < l → get_or ys i 0 < m'

abbrev pub most_product : ℕ
most_product = 4611686014132420609

pub record Balancing (w u : ℕ) : Type 0 where
  pub below : u < w
  pub small : w ≤ most_product

-- ---- what is found once
pub rest-most : (m m' k : ℕ) → Paired m m' k → m % m' ≤ m'
rest-most m m' k p = let rest : m % m' < m' = mod-lt m (omega (arith, p.second.least)) in omega arith

pub prepare : (m m' k : ℕ) → Paired m m' k → Prepared m m' k (m + (m' - m % m'))
prepare m m' k p =
    let rest : m % m' < m' = mod-lt m (omega (arith, p.second.least)) in
    record { pair = p; multiple = divided; least = omega arith; most = omega arith }
  where
    divided : (m + (m' - m % m')) % m' ≡ 0
    divided =
        let rest : m % m' < m' = mod-lt m (omega (arith, p.second.least)) in
        let whole : m' * suc (m / m') ≡ m' * (m / m') + m' = mul-suc m' (m / m') in
        let e : m + (m' - m % m') ≡ m' * suc (m / m') = omega (arith, mod-add-div m m') in
        ap (λ z. z % m') e ∙ mul-mod_right m' (suc (m / m'))

-- ---- a pass over two lists
pub record Joined (m m' : ℕ) (xs ys : List ℕ) (old out : List ℤ) (i : ℕ) : Type 0 where
  pub size : length out ≡ length old
  pub within : i ≤ length out
  pub done : (j : ℕ) → j < i → get_or out j (pos 0) ≡ joined m m' (get_or xs j 0) (get_or ys j 0)

module _ (m m' : ℕ) (xs ys : List ℕ) (old : List ℤ) where
  pub joined-starts : Joined m m' xs ys old old 0
  joined-starts = record { size = refl; within = omega arith; done = λ j h. absurd (omega arith) }

  module _ (out : List ℤ) (i : ℕ) (g : Joined m m' xs ys old out i) where
    pub joined-next : (v : ℤ) → i < length out → v ≡ joined m m' (get_or xs i 0) (get_or ys i 0) → Joined m m' xs ys old (set out i v) (i + 1)
    joined-next v l e = record {
      size = length-set out i v ∙ g.size;
      within = omega (arith, length-set out i v);
      done = below_more _ i (λ j h. get_or-set_other out i j v (pos 0) (λ q. omega arith) ∙ g.done j h) (get_or-set_same out i v (pos 0) l ∙ e);
    }

    pub joined-ends : length out ≤ i → length old ≤ length xs → length old ≤ length ys
        → out ≡ joined_list m m' (take (length old) xs) (take (length old) ys)
    joined-ends l h h' =
        let x_long : length (take (length old) xs) ≡ length old = length-take-le (length old) xs h in
        let y_long : length (take (length old) ys) ≡ length old = length-take-le (length old) ys h' in
        joined-list-is m m' (take (length old) xs) (take (length old) ys) out (y_long ∙ sym x_long) (g.size ∙ sym x_long)
        (λ j b. g.done j (omega (arith, g.size))
        ∙ sym (ap₂ (joined m m') (get_or-take (length old) xs j 0 (omega arith)) (get_or-take (length old) ys j 0 (omega arith))))
