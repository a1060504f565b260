-- Parts of a working list, which holds a tree, vectors and scratch side by side.
--   part w at n       the n numbers of w from place at on, zeros past its end
--   written w at xs   w with the numbers of xs in place of what stood from place at on
--   Apart lo hi p k   the k places from p on lie before the places lo to hi - 1, or behind them
--   ResiduesIn m w lo hi    the entries of w at the places lo to hi - 1 are below m
--   KeptOutside lo hi w w'   w' is as long as w, and has its entries but for those at the places lo to hi - 1
--   Writing           a loop in progress that writes a table
-- Proved: length and entries of both; a part of a written list, at the same place and apart from it; two lists written side by
-- side, one entry more, a table written entry by entry; what lies outside is kept, also by several steps one after the other.
-- Assumes nothing.
use Rattle.std.specs.Prelude.{◌≡◌, refl, List, [], ◌∷◌, ◌++◌, ◌⊎◌, ℕ, suc, ◌+◌, ◌-◌, ◌<◌, ◌≤◌, take, set}
use Rattle.std.proofs.Math.Path.{sym, ap}
use Rattle.std.proofs.Common.{◌∙◌, ap₂, inl, inr, add-zero, add-one, length-append, length-set, take-append-drop, length-take-le, ext_get_or}
use Rattle.std.proofs.Math.Decide.{dec_lt}
use native.Mathlib.Omega.{arith}
use Rattle.std.proofs.Math.ListN.{length, get_or, drop, length-drop, get_or-append}
use Rattle.std.proofs.Math.Seq.{get_or-append-add, get_or-take, get_or-drop}
use Rattle.std.proofs.lemmas.List.{set_split}
use Rattle.definitions.specs.Number.{table}
use Rattle.numbers.specs.Lists.{table-length, table-entry, table-past, table-equal, table-unique, table-snoc}

unfoldable pub part : List ℕ → ℕ → ℕ → List ℕ
part w at n = table n (λ i. get_or w (at + i) 0)

unfoldable pub written : List ℕ → ℕ → List ℕ → List ℕ
written w at xs = take at w ++ (xs ++ drop (at + length xs) w)

abbrev pub Apart : ℕ → ℕ → ℕ → ℕ → Type 0
Apart lo hi p k = (p + k ≤ lo) ⊎ (hi ≤ p)

abbrev pub ResiduesIn : ℕ → List ℕ → ℕ → ℕ → Type 0
ResiduesIn m w lo hi = (i : ℕ) → lo ≤ i → i < hi → get_or w i 0 < m

pub record KeptOutside (lo hi : ℕ) (w w' : List ℕ) : Type 0 where
  pub long : length w' ≡ length w
  pub before : (i : ℕ) → i < lo → get_or w' i 0 ≡ get_or w i 0
  pub behind : (i : ℕ) → hi ≤ i → get_or w' i 0 ≡ get_or w i 0

-- ---- parts
pub part_length : (w : List ℕ) (at n : ℕ) → length (part w at n) ≡ n
unfolding part
part_length w at n = table-length n _

module _ (w : List ℕ) (at n i : ℕ) where
  pub part-entry : i < n → get_or (part w at n) i 0 ≡ get_or w (at + i) 0
  unfolding part
  part-entry h = table-entry n _ i 0 h

  pub part-past : n ≤ i → get_or (part w at n) i 0 ≡ 0
  unfolding part
  part-past h = table-past n _ i 0 h

-- a part is settled by its entries
pub part-equal : (w v : List ℕ) (at n : ℕ) → ((i : ℕ) → at ≤ i → i < at + n → get_or w i 0 ≡ get_or v i 0) → part w at n ≡ part v at n
unfolding part
part-equal w v at n e = table-equal n _ _ (λ i h. e (at + i) (omega arith) (omega arith))

pub part-unique : (w : List ℕ) (at : ℕ) (xs : List ℕ) → ((i : ℕ) → i < length xs → get_or w (at + i) 0 ≡ get_or xs i 0)
    → part w at (length xs) ≡ xs
unfolding part
part-unique w at xs e = sym (table-unique xs (length xs) _ refl (λ i h. sym (e i h)))

-- the numbers that a slice lends
pub part_slice : (w : List ℕ) (at n : ℕ) → at + n ≤ length w → take n (drop at w) ≡ part w at n
unfolding part
part_slice w at n h =
    table-unique (take n (drop at w)) n _ (length-take-le n (drop at w) (simp length-drop (omega arith)))
    (λ i l. get_or-take n (drop at w) i 0 l ∙ get_or-drop at w i 0)

pub part-take : (w : List ℕ) (n k : ℕ) (at : ℕ) → k ≤ n → take k (part w at n) ≡ part w at k
part-take w n k at h =
    let l : k ≤ length (part w at n) = rw part_length h in
    let e : length (take k (part w at n)) ≡ k = length-take-le k (part w at n) l in
    ext_get_or 0 (take k (part w at n)) (part w at k) (e ∙ sym (part_length w at k)) (λ i p.
    let q : i < k = omega arith in
    get_or-take k (part w at n) i 0 q ∙ part-entry w at n i (omega arith) ∙ sym (part-entry w at k i q))

pub part-below : (m : ℕ) (w : List ℕ) (at n : ℕ) → 0 < m → ResiduesIn m w at (at + n) → (i : ℕ) → get_or (part w at n) i 0 < m
part-below m w at n pos h i = reads (dec_lt i n)
  where
    reads : Dec (i < n) → get_or (part w at n) i 0 < m
    reads (yes l) = rw (part-entry w at n i l) (h (at + i) (omega arith) (omega arith))
    reads (no l) = rw (part-past w at n i (omega arith)) pos

-- ---- a part that holds two lists side by side
module _ (w : List ℕ) (at n k : ℕ) (xs ys : List ℕ) (first : length xs ≡ n) (second : length ys ≡ k)
    (holds : part w at (n + k) ≡ xs ++ ys) where
  pub part_left : part w at n ≡ xs
  part_left = ap (part w at) (sym first) ∙ part-unique w at xs (λ i h.
      sym (part-entry w at (n + k) i (omega arith)) ∙ ap (λ t. get_or t i 0) holds ∙ get_or-append xs ys 0 i h)

  pub part_right : part w (at + n) k ≡ ys
  part_right = ap (part w (at + n)) (sym second) ∙ part-unique w (at + n) ys (λ i h.
      let e : at + n + i ≡ at + (n + i) = omega arith in
      let g : n + i ≡ length xs + i = omega arith in
      ap (λ j. get_or w j 0) e ∙ sym (part-entry w at (n + k) (n + i) (omega arith)) ∙ ap₂ (λ t j. get_or t j 0) holds g
      ∙ get_or-append-add xs ys i 0)

-- entries below m
pub part-residues : (m : ℕ) (w : List ℕ) (at n : ℕ) (xs : List ℕ) → part w at n ≡ xs → ((i : ℕ) → get_or xs i 0 < m)
    → ResiduesIn m w at (at + n)
part-residues m w at n xs holds below i p q =
    let e : at + (i - at) ≡ i = omega arith in
    let l : i - at < n = omega arith in
    let g : get_or w i 0 ≡ get_or xs (i - at) 0 =
    ap (λ j. get_or w j 0) (sym e) ∙ sym (part-entry w at n (i - at) l) ∙ ap (λ t. get_or t (i - at) 0) holds in
    rw g (below (i - at))

pub part-both : (w : List ℕ) (at : ℕ) (xs ys : List ℕ) → part w at (length xs) ≡ xs → part w (at + length xs) (length ys) ≡ ys
    → part w at (length (xs ++ ys)) ≡ xs ++ ys
part-both w at xs ys left right = part-unique w at (xs ++ ys) (λ i h. reads i h (dec_lt i (length xs)))
  where
    behind : (i : ℕ) → i < length ys → get_or w (at + length xs + i) 0 ≡ get_or (xs ++ ys) (length xs + i) 0
    behind i l = sym (part-entry w (at + length xs) (length ys) i l) ∙ ap (λ t. get_or t i 0) right ∙ sym (get_or-append-add xs ys i 0)

    reads : (i : ℕ) → i < length (xs ++ ys) → Dec (i < length xs) → get_or w (at + i) 0 ≡ get_or (xs ++ ys) i 0
    reads i h (yes p) = sym (part-entry w at (length xs) i p) ∙ ap (λ t. get_or t i 0) left ∙ sym (get_or-append xs ys 0 i p)
    reads i h (no p) =
        let k : length xs + (i - length xs) ≡ i = omega arith in
        let j : at + i ≡ at + length xs + (i - length xs) = omega arith in
        let l : i - length xs < length ys = omega (arith, length-append xs ys) in
        ap (λ n. get_or w n 0) j ∙ behind (i - length xs) l ∙ ap (λ n. get_or (xs ++ ys) n 0) k

-- ---- written lists
pub written_none : (w : List ℕ) (at : ℕ) → written w at [] ≡ w
unfolding written
written_none w at = ap (λ k. take at w ++ drop k w) (add-zero at) ∙ take-append-drop at w

module _ (w : List ℕ) (at : ℕ) (xs : List ℕ) (room : at + length xs ≤ length w) where
  front : length (take at w) ≡ at
  front = length-take-le at w (omega arith)

  pub written-length : length (written w at xs) ≡ length w
  unfolding written
  written-length = simp (length-append, length-drop, front) (omega arith)

  pub written-before : (i : ℕ) → i < at → get_or (written w at xs) i 0 ≡ get_or w i 0
  unfolding written
  written-before i h = get_or-append (take at w) (xs ++ drop (at + length xs) w) 0 i (rw front h) ∙ get_or-take at w i 0 h

  pub written-inside : (i : ℕ) → i < length xs → get_or (written w at xs) (at + i) 0 ≡ get_or xs i 0
  unfolding written
  written-inside i h =
      ap (λ n. get_or (take at w ++ (xs ++ drop (at + length xs) w)) (n + i) 0) (sym front)
      ∙ get_or-append-add (take at w) (xs ++ drop (at + length xs) w) i 0 ∙ get_or-append xs (drop (at + length xs) w) 0 i h

  pub written_behind : (i : ℕ) → at + length xs ≤ i → get_or (written w at xs) i 0 ≡ get_or w i 0
  unfolding written
  written_behind i h =
      let k = i - (at + length xs) in
      let e : i ≡ at + (length xs + k) = omega arith in
      let g : at + length xs + k ≡ i = omega arith in
      ap (λ n. get_or (take at w ++ (xs ++ drop (at + length xs) w)) n 0) (e ∙ ap (λ n. n + (length xs + k)) (sym front))
      ∙ get_or-append-add (take at w) (xs ++ drop (at + length xs) w) (length xs + k) 0
      ∙ get_or-append-add xs (drop (at + length xs) w) k 0
      ∙ get_or-drop (at + length xs) w k 0 ∙ ap (λ n. get_or w n 0) g

  pub written-kept : KeptOutside at (at + length xs) w (written w at xs)
  written-kept = record { long = written-length; before = written-before; behind = written_behind }

  pub part-written : part (written w at xs) at (length xs) ≡ xs
  part-written = part-unique (written w at xs) at xs written-inside

-- what lies outside settles the rest of a written list
pub written-unique : (w : List ℕ) (at : ℕ) (xs w' : List ℕ) → at + length xs ≤ length w → KeptOutside at (at + length xs) w w'
    → part w' at (length xs) ≡ xs → w' ≡ written w at xs
written-unique w at xs w' room kept holds =
    ext_get_or 0 w' (written w at xs) (kept.long ∙ sym (written-length w at xs room))
    (λ i h. reads i (dec_lt i at) (dec_lt i (at + length xs)))
  where
    inside : (i : ℕ) → at ≤ i → i < at + length xs → get_or w' i 0 ≡ get_or (written w at xs) i 0
    inside i p q =
        let e : at + (i - at) ≡ i = omega arith in
        let l : i - at < length xs = omega arith in
        ap (λ k. get_or w' k 0) (sym e) ∙ sym (part-entry w' at (length xs) (i - at) l) ∙ ap (λ t. get_or t (i - at) 0) holds
        ∙ sym (written-inside w at xs room (i - at) l) ∙ ap (λ k. get_or (written w at xs) k 0) e

    reads : (i : ℕ) → Dec (i < at) → Dec (i < at + length xs) → get_or w' i 0 ≡ get_or (written w at xs) i 0
    reads i (yes p) q = kept.before i p ∙ sym (written-before w at xs room i p)
    reads i (no p) (yes q) = inside i (omega arith) q
    reads i (no p) (no q) = kept.behind i (omega arith) ∙ sym (written_behind w at xs room i (omega arith))

-- ---- what is kept
pub kept-wider : (lo hi lo' hi' : ℕ) (w w' : List ℕ) → lo' ≤ lo → hi ≤ hi' → KeptOutside lo hi w w' → KeptOutside lo' hi' w w'
kept-wider lo hi lo' hi' w w' p q k =
    record { long = k.long; before = λ i h. k.before i (omega arith); behind = λ i h. k.behind i (omega arith) }

pub kept_then : (lo hi : ℕ) (w w' w'' : List ℕ) → KeptOutside lo hi w w' → KeptOutside lo hi w' w'' → KeptOutside lo hi w w''
kept_then lo hi w w' w'' k j = record {
  long = j.long ∙ k.long;
  before = λ i h. j.before i h ∙ k.before i h;
  behind = λ i h. j.behind i h ∙ k.behind i h;
}

module _ (lo hi : ℕ) (w w' : List ℕ) (kept : KeptOutside lo hi w w') where
  pub kept_entry : (p k i : ℕ) → Apart lo hi p k → p ≤ i → i < p + k → get_or w' i 0 ≡ get_or w i 0
  kept_entry p k i (inl h) a b = kept.before i (omega arith)
  kept_entry p k i (inr h) a b = kept.behind i (omega arith)

  pub kept-part : (p k : ℕ) → Apart lo hi p k → part w' p k ≡ part w p k
  kept-part p k apart = part-equal w' w p k (λ i a b. kept_entry p k i apart a b)

  pub kept-residues : (m p k : ℕ) → Apart lo hi p k → ResiduesIn m w p (p + k) → ResiduesIn m w' p (p + k)
  kept-residues m p k apart below i a b = rw (kept_entry p k i apart a b) (below i a b)

  pub kept-drop : (k : ℕ) → hi ≤ k → drop k w' ≡ drop k w
  kept-drop k h = ext_get_or 0 (drop k w') (drop k w) (simp (length-drop, kept.long))
      (λ i l. get_or-drop k w' i 0 ∙ kept.behind (k + i) (omega arith) ∙ sym (get_or-drop k w i 0))

-- ---- written in steps
module _ (w : List ℕ) (at : ℕ) (xs ys : List ℕ) (room : at + (length xs + length ys) ≤ length w) where
  -- the place behind xs, and w with the first list, and with both
  abbrev next : ℕ
  next = at + length xs

  abbrev first : List ℕ
  first = written w at xs

  abbrev second : List ℕ
  second = written first next ys

  -- side by side
  pub written_next : second ≡ written w at (xs ++ ys)
  written_next = written-unique w at (xs ++ ys) second (rw length-append room) kept holds
    where
      one : next ≤ length w
      one = omega arith

      two : next + length ys ≤ length first
      two = rw (written-length w at xs one) (omega arith)

      kept : KeptOutside at (at + length (xs ++ ys)) w second
      kept =
          let f : length (xs ++ ys) ≡ length xs + length ys = length-append xs ys in
          let end = at + length (xs ++ ys) in
          kept_then at end w first second
          (kept-wider at next at end w first (omega arith) (omega arith) (written-kept w at xs one))
          (kept-wider next (next + length ys) at end first second (omega arith) (omega arith) (written-kept first next ys two))

      left : part second at (length xs) ≡ xs
      left = kept-part next (next + length ys) first second (written-kept first next ys two) at (length xs) (inl (omega arith))
          ∙ part-written w at xs one

      holds : part second at (length (xs ++ ys)) ≡ xs ++ ys
      holds = part-both second at xs ys left (part-written first next ys two)

pub written_then : (w : List ℕ) (at : ℕ) (xs : List ℕ) (p : ℕ) (ys w₁ w₂ : List ℕ) → at + (length xs + length ys) ≤ length w
    → p ≡ at + length xs
    → w₁ ≡ written w at xs → w₂ ≡ written w₁ p ys → w₂ ≡ written w at (xs ++ ys)
written_then w at xs p ys w₁ w₂ room e one two = two ∙ ap₂ (λ v q. written v q ys) one e ∙ written_next w at xs ys room

-- one entry, one entry more, and a table entry by entry
pub written_one : (w : List ℕ) (at x : ℕ) → at < length w → set w at x ≡ written w at (x ∷ [])
unfolding written
written_one w at x h = set_split w at x h ∙ ap (λ n. take at w ++ x ∷ drop n w) (sym (add-one at))

pub written-more : (w : List ℕ) (at : ℕ) (xs : List ℕ) (x : ℕ) → at + suc (length xs) ≤ length w
    → set (written w at xs) (at + length xs) x ≡ written w at (xs ++ x ∷ [])
written-more w at xs x room =
    written_one (written w at xs) (at + length xs) x (rw (written-length w at xs (omega arith)) (omega arith))
    ∙ written_next w at xs (x ∷ []) (rw add-one room)

pub written-table : (w : List ℕ) (at : ℕ) (f : ℕ → ℕ) (k : ℕ) → at + k < length w
    → set (written w at (table k f)) (at + k) (f k) ≡ written w at (table (k + 1) f)
written-table w at f k h =
    let e : length (table k f) ≡ k = table-length k f in
    ap (λ n. set (written w at (table k f)) (at + n) (f k)) (sym e) ∙ written-more w at (table k f) (f k) (rw e (omega arith))
    ∙ rw (add-one, table-snoc)

-- ---- a loop that writes the n numbers f 0, .., f (n - 1) from place at on; k of them stand
pub record Writing (w₀ : List ℕ) (at n : ℕ) (f : ℕ → ℕ) (w : List ℕ) (k : ℕ) : Type 0 where
  pub room : at + n ≤ length w₀
  pub reached : k ≤ n
  pub long : length w ≡ length w₀
  pub is : w ≡ written w₀ at (table k f)

module _ (w₀ : List ℕ) (at n : ℕ) (f : ℕ → ℕ) where
  pub writing-starts : at + n ≤ length w₀ → Writing w₀ at n f w₀ 0
  unfolding table
  writing-starts h = record { room = h; reached = omega arith; long = refl; is = sym (written_none w₀ at) }

  module _ (w : List ℕ) (k : ℕ) (h : Writing w₀ at n f w k) where
    pub writing-kept : KeptOutside at (at + n) w₀ w
    writing-kept =
        let e : length (table k f) ≡ k = table-length k f in
        rw h.is (kept-wider at (at + length (table k f)) at (at + n) w₀ (written w₀ at (table k f))
        (omega arith) (omega (arith, h.reached))
        (written-kept w₀ at (table k f) (omega (arith, h.room, h.reached))))

    pub writing-next : (v : ℕ) → k < n → v ≡ f k → Writing w₀ at n f (set w (at + k) v) (k + 1)
    writing-next v l e = record {
      room = h.room;
      reached = omega arith;
      long = length-set w (at + k) v ∙ h.long;
      is = ap₂ (λ x y. set x (at + k) y) h.is e ∙ written-table w₀ at f k (omega (arith, h.room));
    }

    pub writing-ends : n ≤ k → w ≡ written w₀ at (table n f)
    writing-ends l =
        let e : k ≡ n = omega (arith, h.reached) in
        h.is ∙ ap (λ j. written w₀ at (table j f)) e
