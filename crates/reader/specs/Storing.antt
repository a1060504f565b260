-- A list of numbers that was read and put at the front of a lent list.
--   kept xs out          out after the numbers xs were put at its front, as far as it has room
--   Stored xs n out out' xs are n numbers, and out' is what out holds after them
--   ListAt t f n next out out'   the reader's answer f is n numbers, what is left of t begins at place next, and out' holds them
--   Listed t f out out' r        what a reader of numbers answers
-- Proved: one number more; a list that fits is at the front (kept-front). Assumes nothing.
use Rattle.std.specs.Prelude.{◌≡◌, refl, List, [], ◌∷◌, ◌++◌, ℕ, ◌≤◌, length, take, drop, set, Option, Some, None}
use Rattle.std.proofs.Common.{sym, ◌∙◌, ap, take_all, take_at}
use Rattle.std.proofs.Math.Seq.{take-nil}
use Rattle.definitions.specs.Reading.{Front, got, bad}
use Rattle.reader.specs.declared.Read.{Read}

unfoldable pub kept : List ℕ → List ℕ → List ℕ
kept xs out = take (length out) xs ++ drop (length xs) out

pub record Stored (xs : List ℕ) (n : ℕ) (out out' : List ℕ) : Type 0 where
  pub count : length xs ≡ n
  pub front : out' ≡ kept xs out

pub record ListAt (t : List ℕ) (f : Front (List ℕ)) (n next : ℕ) (out out' : List ℕ) : Type 0 where
  pub xs : List ℕ
  pub read : f ≡ got xs (drop next t)
  pub inside : next ≤ length t
  pub stored : Stored xs n out out'

abbrev pub Listed : List ℕ → Front (List ℕ) → List ℕ → List ℕ → Option (Read ℕ) → Type 0
Listed t f out out' (Some r) = ListAt t f r.value r.next out out'
Listed t f out out' None = f ≡ bad

pub kept-none : (out : List ℕ) → kept [] out ≡ out
unfolding kept
kept-none out = rw take-nil

-- past the room of out nothing is put
pub kept_next : (xs out : List ℕ) (x : ℕ) → set (kept xs out) (length xs) x ≡ kept (xs ++ x ∷ []) out
unfolding kept
kept_next [] [] x = refl
kept_next [] (y ∷ ys) x = ap (λ zs. x ∷ zs) (sym (kept-none ys))
kept_next (z ∷ zs) [] x = refl
kept_next (z ∷ zs) (y ∷ ys) x = ap (λ ws. z ∷ ws) (kept_next zs ys x)

pub kept-front : (xs : List ℕ) (n : ℕ) (out out' : List ℕ) → Stored xs n out out' → n ≤ length out → take n out' ≡ xs
unfolding kept
kept-front xs n out out' s h =
    ap (take n) s.front ∙ ap (λ ys. take n (ys ++ drop (length xs) out)) (take_all (length out) xs (rw s.count h))
    ∙ take_at xs (drop (length xs) out) n s.count
