-- Reducing signed numbers of 32 bits.
--   Reducing   a pass over a list in progress: the first i places are reduced, and the others are as they were
-- Proved: what -1 - x is for x below 0, and that the remainder is found from it; how a pass begins, goes on and ends. Assumes nothing.
use Rattle.std.specs.Prelude.{true, false, List, [], ◌∷◌, ◌++◌, ◌≡◌, refl, ℕ, suc, ◌+◌, ◌*◌, ◌-◌, ◌/◌, ◌%◌, ◌≤◌, ◌<◌, ℤ, pos, negsuc, ◌-ℤ◌}
use Rattle.std.specs.Prelude.{length, get_or, set, take, drop}
use Rattle.std.proofs.Common.{true≢false, append_assoc, sym, ◌∙◌, mod-lt, mod-eq_of_lt, mul-suc, add-one, arith, ltb-true, length-set}
use Rattle.std.proofs.Common.{drop-cons, take-suc, length-take-le, SFits, to_z, of_z}
use Rattle.std.proofs.Math.Path.{ap}
use Rattle.std.proofs.Math.Nat.{mod-add-div, mul-mod_right}
use Rattle.std.proofs.lemmas.List.{length-map, set_at}
use Rattle.std.proofs.Math.Seq.{take-length}
use Rattle.std.specs.Int.Signed.{mag, lt_z}
use Rattle.std.specs.Int.{w32}
use Rattle.std.proofs.lemmas.Int.{to_z-of_z, to_z_pos}
use Rattle.joining.specs.Whole.{remainder}
use Rattle.joining.specs.Expanding.{reduced_list}
use Rattle.wholes.specs.Integers.{z-ext, add-law}
use Rattle.wholes.specs.Reduction.{remainder-apart}

-- ---- one number
remainder-negative : (m n : ℕ) → 0 < m → m - 1 - n % m ≡ remainder m (negsuc n)
remainder-negative m n p =
    let rest : n % m < m = mod-lt n p in
    let whole : m * suc (n / m) ≡ m * (n / m) + m = mul-suc m (n / m) in
    sym (remainder-apart m p (negsuc n) (m - 1 - n % m) (m * suc (n / m)) (mul-mod_right m (suc (n / m))) (omega (arith, mod-add-div n m))
    ∙ mod-eq_of_lt (omega arith))

below-zero : (x : ℤ) → lt_z x (pos 0) ≡ true → x ≡ negsuc (mag x)
below-zero (pos n) e = absurd (omega (arith, ltb-true n 0 e))
below-zero (negsuc n) e = refl

not-below-zero : (x : ℤ) → lt_z x (pos 0) ≡ false → x ≡ pos (mag x)
not-below-zero (pos n) e = refl
not-below-zero (negsuc n) e = absurd (true≢false e)

flip : (n : ℕ) → negsuc 0 -ℤ negsuc n ≡ pos n
flip n = z-ext _ _ (omega (arith, add-law (negsuc 0) (pos (suc n))))

module _ (x : ℤ) (fits : SFits w32 x) where
  word : to_z w32 (of_z w32 x) ≡ x
  word = to_z-of_z w32 x fits

  module _ (e : lt_z (to_z w32 (of_z w32 x)) (pos 0) ≡ true) where
    negative-is : x ≡ negsuc (mag x)
    negative-is = below-zero x (rw word at e)

    pub flipped : negsuc 0 -ℤ to_z w32 (of_z w32 x) ≡ pos (mag x)
    flipped = ap (λ z. negsuc 0 -ℤ z) (word ∙ negative-is) ∙ flip (mag x)

    pub flipped_word : to_z w32 (of_z w32 (negsuc 0 -ℤ to_z w32 (of_z w32 x))) ≡ pos (mag x)
    flipped_word = ap (λ z. to_z w32 (of_z w32 z)) flipped ∙ to_z_pos w32 (mag x) fits.sfits

    pub reduced-negative : (m : ℕ) → 0 < m → m - 1 - mag x % m ≡ remainder m x
    reduced-negative m p = remainder-negative m (mag x) p ∙ ap (remainder m) (sym negative-is)

  module _ (e : lt_z (to_z w32 (of_z w32 x)) (pos 0) ≡ false) where
    positive-is : x ≡ pos (mag x)
    positive-is = not-below-zero x (rw word at e)

    pub positive-word : to_z w32 (of_z w32 x) ≡ pos (mag x)
    positive-word = word ∙ positive-is

    pub reduced-positive : (m : ℕ) → mag x % m ≡ remainder m x
    unfolding remainder
    reduced-positive m = ap (remainder m) (sym positive-is)

-- ---- a list
pub record Reducing (m : ℕ) (xs : List ℤ) (old out : List ℕ) (i : ℕ) : Type 0 where
  pub size : length out ≡ length old
  pub within : i ≤ length xs
  pub stored : out ≡ reduced_list m (take i xs) ++ drop i old

module _ (m : ℕ) (xs : List ℤ) (old : List ℕ) where
  pub reducing-starts : Reducing m xs old old 0
  reducing-starts = record { size = refl; within = omega arith; stored = refl }

  -- what is stored after i places
  abbrev after : ℕ → List ℕ
  after i = reduced_list m (take i xs) ++ drop i old

  module _ (out : List ℕ) (i : ℕ) (g : Reducing m xs old out i) where
    pub reducing-ends : length xs ≤ i → out ≡ reduced_list m xs ++ drop (length xs) old
    reducing-ends l =
        let e : i ≡ length xs = omega (arith, g.within) in
        g.stored ∙ ap after e ∙ ap (λ s. reduced_list m s ++ drop (length xs) old) (take-length xs)

    pub reducing-next : (r : ℕ) → i < length xs → length xs ≤ length old → r ≡ remainder m (get_or xs i (pos 0))
        → Reducing m xs old (set out i r) (i + 1)
    reducing-next r l room e = record {
      size = length-set out i r ∙ g.size;
      within = omega arith;
      stored = ap (λ o. set o i r) (g.stored ∙ ap (λ s. front ++ s) (drop-cons old i 0 (omega arith)))
          ∙ set_at front (get_or old i 0) (drop (suc i) old) r i size-front ∙ sym (ap after (add-one i) ∙ one_more);
    }
      where
        front : List ℕ
        front = reduced_list m (take i xs)

        size-front : length front ≡ i
        size-front = length-map (take i xs) (remainder m) ∙ length-take-le i xs (omega arith)

        map_snoc : (s : List ℤ) (z : ℤ) → reduced_list m (s ++ z ∷ []) ≡ reduced_list m s ++ remainder m z ∷ []
        map_snoc [] z = refl
        map_snoc (y ∷ s) z = ap (λ t. remainder m y ∷ t) (map_snoc s z)

        one_more : after (suc i) ≡ front ++ r ∷ drop (suc i) old
        one_more = ap (λ s. reduced_list m s ++ drop (suc i) old) (take-suc xs i (pos 0) l)
            ∙ ap (λ s. s ++ drop (suc i) old) (map_snoc (take i xs) (get_or xs i (pos 0)))
            ∙ append_assoc front (remainder m (get_or xs i (pos 0)) ∷ []) (drop (suc i) old) ∙ ap (λ x. front ++ x ∷ drop (suc i) old) (sym e)
