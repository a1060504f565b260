-- Lists that are written entry by entry, and lists that a loop fills from the front.
--   Each P xs d           every entry of xs has P; d is the default by which entries are read
--   filled f k old        old with f 0, .., f (k - 1) in the place of its first k entries
--   Filling f k old out   the invariant of a loop that fills a list, at the entry k: out is filled, and as long as old
-- Proved: length and entries of a table, of a list with one entry more at its end, and of a filled list; a table is settled by its
-- entries and every list is the table of its own; where such a loop begins, one entry more, and where it ends.
-- Assumes nothing.
use Rattle.std.specs.Prelude.{◌≡◌, List, [], ◌∷◌, ◌++◌, ℕ, zero, suc, ◌+◌, ◌-◌, ◌<◌, ◌≤◌, set}
use Rattle.std.proofs.Math.Path.{refl, sym, ap}
use Rattle.std.proofs.Common.{◌∙◌, append_assoc, le_of_suc-le-suc, add-one, length-append, length-drop, length-set, drop-cons}
use Rattle.std.proofs.Common.{get_or-append-add}
use native.Mathlib.Omega.{arith}
use Rattle.std.proofs.Math.ListN.{length, get_or, drop, get_or-append, get_or-eq_default}
use Rattle.std.proofs.lemmas.List.{get_or_at, set_at}
use Rattle.std.proofs.Math.Seq.{get_or-drop}
use Rattle.definitions.specs.Number.{table}

abbrev pub Each : (ℕ → Type 0) → List ℕ → ℕ → Type 0
Each P xs d = (i : ℕ) → i < length xs → P (get_or xs i d)

-- below its length an entry does not depend on the default
pub get_or-default : (xs : List ℕ) (i d e : ℕ) → i < length xs → get_or xs i d ≡ get_or xs i e
get_or-default [] i d e h = absurd (omega arith)
get_or-default (x ∷ xs) zero d e h = refl
get_or-default (x ∷ xs) (suc i) d e h = get_or-default xs i d e (le_of_suc-le-suc h)

-- one entry more at the end
module _ (xs : List ℕ) (x : ℕ) where
  pub snoc-length : length (xs ++ x ∷ []) ≡ suc (length xs)
  snoc-length = length-append xs (x ∷ []) ∙ add-one (length xs)

  pub snoc-entry : (i d : ℕ) → i < length xs → get_or (xs ++ x ∷ []) i d ≡ get_or xs i d
  snoc-entry i d h = get_or-append xs (x ∷ []) d i h

  pub snoc-last : (i d : ℕ) → length xs ≡ i → get_or (xs ++ x ∷ []) i d ≡ x
  snoc-last i d h = get_or_at xs x [] d i h

pub table-length : (n : ℕ) (f : ℕ → ℕ) → length (table n f) ≡ n
unfolding table
table-length zero f = refl
table-length (suc n) f = ap suc (table-length n (λ i. f (suc i)))

pub table-entry : (n : ℕ) (f : ℕ → ℕ) (i d : ℕ) → i < n → get_or (table n f) i d ≡ f i
unfolding table
table-entry zero f i d h = absurd (omega arith)
table-entry (suc n) f zero d h = refl
table-entry (suc n) f (suc i) d h = table-entry n (λ i. f (suc i)) i d (le_of_suc-le-suc h)

pub table-past : (n : ℕ) (f : ℕ → ℕ) (i d : ℕ) → n ≤ i → get_or (table n f) i d ≡ d
table-past n f i d h = get_or-eq_default (table n f) d (simp table-length h)

pub table-snoc : (n : ℕ) (f : ℕ → ℕ) → table (suc n) f ≡ table n f ++ f n ∷ []
unfolding table
table-snoc zero f = refl
table-snoc (suc n) f = ap (λ t. f 0 ∷ t) (table-snoc n (λ i. f (suc i)))

pub table-equal : (n : ℕ) (f g : ℕ → ℕ) → ((i : ℕ) → i < n → f i ≡ g i) → table n f ≡ table n g
unfolding table
table-equal zero f g e = refl
table-equal (suc n) f g e =
    let rest = table-equal n (λ i. f (suc i)) (λ i. g (suc i)) (λ i h. e (suc i) (omega arith)) in
    rw (e 0 (omega arith), rest)

-- a list is the table of its entries
pub table-entries : (xs : List ℕ) (d : ℕ) → table (length xs) (λ i. get_or xs i d) ≡ xs
unfolding table
table-entries [] d = refl
table-entries (x ∷ xs) d = ap (λ t. x ∷ t) (table-entries xs d)

-- a list whose entries are those of f is a table of f
pub table-unique : (xs : List ℕ) (n : ℕ) (f : ℕ → ℕ) → length xs ≡ n → ((i : ℕ) → i < n → get_or xs i 0 ≡ f i) → xs ≡ table n f
table-unique xs n f l e = sym (table-entries xs 0) ∙ rw l (table-equal n (λ i. get_or xs i 0) f e)

pub table_below : (m n : ℕ) (f : ℕ → ℕ) → ((i : ℕ) → i < n → f i < m) → (i : ℕ) → i < n → get_or (table n f) i 0 < m
table_below m n f below i h = rw (table-entry n f i 0 h) (below i h)

unfoldable pub filled : (ℕ → ℕ) → ℕ → List ℕ → List ℕ
filled f k old = table k f ++ drop k old

module _ (f : ℕ → ℕ) (old : List ℕ) where
  pub filled_none : filled f 0 old ≡ old
  unfolding filled table
  filled_none = refl

  pub filled_more : (k : ℕ) → k < length old → set (filled f k old) k (f k) ≡ filled f (k + 1) old
  unfolding filled
  filled_more k h =
      rw (drop-cons old k 0) (set_at (table k f) (get_or old k 0) (drop (suc k) old) (f k) k (table-length k f))
      ∙ sym (append_assoc (table k f) (f k ∷ []) (drop (suc k) old)) ∙ rw (add-one, table-snoc)

  pub filled-length : (k : ℕ) → k ≤ length old → length (filled f k old) ≡ length old
  unfolding filled
  filled-length k h = simp (length-append, table-length, length-drop) (omega arith)

  pub filled-below : (k i d : ℕ) → i < k → get_or (filled f k old) i d ≡ f i
  unfolding filled
  filled-below k i d h = get_or-append (table k f) (drop k old) d i (simp table-length h) ∙ table-entry k f i d h

  pub filled-from : (k i d : ℕ) → k ≤ i → get_or (filled f k old) i d ≡ get_or old i d
  unfolding filled
  filled-from k i d h =
      let e : i ≡ length (table k f) + (i - k) = simp table-length (omega arith) in
      let g : k + (i - k) ≡ i = omega arith in
      ap (λ j. get_or (table k f ++ drop k old) j d) e ∙ rw (get_or-append-add, get_or-drop, g)

-- the invariant of such a loop: out is filled, and as long as old
pub record Filling (f : ℕ → ℕ) (k : ℕ) (old out : List ℕ) : Type 0 where
  pub written : out ≡ filled f k old
  pub same_length : length out ≡ length old

pub filling-start : {f : ℕ → ℕ} {old : List ℕ} → Filling f 0 old old
filling-start {f} {old} = record { written = sym (filled_none f old); same_length = refl }

module _ {f : ℕ → ℕ} {k : ℕ} {old out : List ℕ} (now : Filling f k old out) where
  pub filling-next : {r : ℕ} → k < length old → r ≡ f k → Filling f (k + 1) old (set out k r)
  filling-next {r} h e =
      record { written = rw (now.written, e) (filled_more f old k h); same_length = length-set out k r ∙ now.same_length }

  pub filling-stop : (n : ℕ) → k ≡ n → out ≡ filled f n old
  filling-stop n e = now.written ∙ ap (λ i. filled f i old) e

  pub filling-below : (i d : ℕ) → i < k → get_or out i d ≡ f i
  filling-below i d h = rw now.written (filled-below f old k i d h)

  pub filling-from : (i d : ℕ) → k ≤ i → get_or out i d ≡ get_or old i d
  filling-from i d h = rw now.written (filled-from f old k i d h)
