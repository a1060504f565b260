-- Numbers and lists of numbers put into an output.
--   entry k x                      entry k of a list: after a space if it is not the first
--   Listing old at xs out next k   a list in progress: its first k numbers are put, and the next one goes to place next
-- Proved: a number below ten, and any other from its tens; an entry; how a list begins, goes on and ends. Assumes nothing.
use Rattle.std.specs.Prelude.{◌≡◌, refl, List, [], ◌∷◌, ◌++◌, ℕ, zero, suc, ◌+◌, ◌*◌, ◌/◌, ◌%◌, ◌<◌, ◌≤◌, length, get_or, set, take}
use Rattle.std.proofs.Math.Path.{sym}
use Rattle.std.proofs.Common.{◌∙◌, ap, append_assoc, append-nil, add-one, arith, length-take-le, take_all, take-suc}
use Rattle.definitions.specs.Text.{greatest_number, space, nought, decimal, spaced, numbers}
use Rattle.texts.specs.Decimal.{decimal-small, decimal-large, length-decimal, length-decimal-large}
use Rattle.texts.specs.Overwriting.{over_none}
use Rattle.writer.specs.Putting.{Put, put_one, put-length, put_then, put_as}

-- ---- a number
module _ (old : List ℕ) (at x : ℕ) (room : at + 10 ≤ length old) where
  pub put_small : x < 10 → Put old at (decimal x) 10 (set old at (nought + x)) (at + 1)
  put_small h =
      put_as old at ((nought + x) ∷ []) 1 _ _ (put_one old at (nought + x) (omega arith))
      (decimal x) 10 (sym (decimal-small x h)) (omega arith)

  module _ (h : 10 ≤ x) (l : x ≤ greatest_number) (new : List ℕ) (next : ℕ) (p : Put old at (decimal (x / 10)) 10 new next) where
    pub large-inside : next + 1 ≤ at + 10
    large-inside = omega (arith, p.place, length-decimal x l, length-decimal-large x h)

    pub put-large : Put old at (decimal x) 10 (set new next (nought + x % 10)) (next + 1)
    put-large =
        let size = put-length old at (decimal (x / 10)) 10 new next p room in
        let digit = nought + x % 10 in
        let last = put_one new next digit (omega (arith, large-inside)) in
        let q = put_then old at (decimal (x / 10)) 10 new next p (digit ∷ []) 1 _ _ room last in
        let r = put_as old at (decimal (x / 10) ++ digit ∷ []) 11 _ _ q (decimal x) 11 (sym (decimal-large x h)) (omega arith) in
        record { place = r.place; short = length-decimal x l; stored = r.stored }

-- ---- an entry of a list
unfoldable pub entry : ℕ → ℕ → List ℕ
entry zero x = decimal x
entry (suc k) x = space ∷ decimal x

entry_first : (k x : ℕ) → k ≡ 0 → decimal x ≡ entry k x
unfolding entry
entry_first zero x e = refl
entry_first (suc k) x e = absurd (omega arith)

entry-later : (k x : ℕ) → (k ≡ 0 → ⊥) → space ∷ decimal x ≡ entry k x
unfolding entry
entry-later zero x n = absurd (n refl)
entry-later (suc k) x n = refl

module _ (old : List ℕ) (at k x : ℕ) (new : List ℕ) (next : ℕ) where
  pub put_first : k ≡ 0 → Put old at (decimal x) 10 new next → Put old at (entry k x) 11 new next
  put_first e p = put_as old at (decimal x) 10 new next p (entry k x) 11 (entry_first k x e) (omega arith)

  pub put-later : (k ≡ 0 → ⊥) → at + 11 ≤ length old → Put (set old at space) (at + 1) (decimal x) 10 new next
      → Put old at (entry k x) 11 new next
  put-later n room p =
      let first = put_one old at space (omega arith) in
      let q = put_then old at (space ∷ []) 1 (set old at space) (at + 1) first (decimal x) 10 new next (omega arith) p in
      put_as old at (space ∷ decimal x) 11 new next q (entry k x) 11 (entry-later k x n) (omega arith)

-- ---- a list, number by number
spaced-more : (xs : List ℕ) (x : ℕ) → spaced (xs ++ x ∷ []) ≡ spaced xs ++ space ∷ decimal x
unfolding spaced
spaced-more [] x = ap (λ ds. space ∷ ds) (append-nil (decimal x))
spaced-more (y ∷ ys) x =
    ap (λ ds. space ∷ ds) (ap (λ ds. decimal y ++ ds) (spaced-more ys x) ∙ sym (append_assoc (decimal y) (spaced ys) (space ∷ decimal x)))

numbers_more : (xs : List ℕ) (x : ℕ) → numbers (xs ++ x ∷ []) ≡ numbers xs ++ entry (length xs) x
unfolding numbers entry spaced
numbers_more [] x = append-nil (decimal x)
numbers_more (y ∷ ys) x = ap (λ ds. decimal y ++ ds) (spaced-more ys x) ∙ sym (append_assoc (decimal y) (spaced ys) (space ∷ decimal x))

pub record Listing (old : List ℕ) (at : ℕ) (xs out : List ℕ) (next k : ℕ) : Type 0 where
  pub within : k ≤ length xs
  pub size : length out ≡ length old
  pub inside : next ≤ at + 11 * k
  pub put : Put old at (numbers (take k xs)) (11 * k) out next

module _ (old : List ℕ) (at : ℕ) (xs : List ℕ) where
  pub listing-starts : Listing old at xs old at 0
  unfolding numbers
  listing-starts = record {
    within = omega arith;
    size = refl;
    inside = omega arith;
    put = record { place = omega arith; short = omega arith; stored = sym (over_none old at) };
  }

  module _ (out : List ℕ) (next k : ℕ) (s : Listing old at xs out next k) where
    pub listing-ends : length xs ≤ k → Put old at (numbers xs) (11 * length xs) out next
    listing-ends l =
        let within = s.within in
        put_as old at (numbers (take k xs)) (11 * k) out next s.put (numbers xs) (11 * length xs)
        (ap numbers (take_all k xs l)) (omega arith)

    module _ (room : at + 11 * length xs ≤ length old) (l : k < length xs) where
      numbers-next : numbers (take k xs) ++ entry k (get_or xs k 0) ≡ numbers (take (k + 1) xs)
      numbers-next =
          sym (ap (λ j. numbers (take j xs)) (add-one k) ∙ ap numbers (take-suc xs k 0 l) ∙ numbers_more (take k xs) (get_or xs k 0)
          ∙ ap (λ j. numbers (take k xs) ++ entry j (get_or xs k 0)) (length-take-le k xs (omega arith)))

      pub listing-next : (new : List ℕ) (next' : ℕ) → Put out next (entry k (get_or xs k 0)) 11 new next'
          → Listing old at xs new next' (k + 1)
      listing-next new next' p =
          let x = entry k (get_or xs k 0) in
          let q = put_then old at (numbers (take k xs)) (11 * k) out next s.put x 11 new next' (omega arith) p in
          record {
            within = omega arith;
            size = put-length out next x 11 new next' p (omega (arith, s.size, s.inside)) ∙ s.size;
            inside = omega (arith, s.inside, p.place, p.short);
            put = put_as old at (numbers (take k xs) ++ x) (11 * k + 11) new next' q
                (numbers (take (k + 1) xs)) (11 * (k + 1)) numbers-next (omega arith);
          }
