-- A list of which a part is written over.
--   over w at xs   w with xs in the place of what stood there from place at on
-- Proved: its length; nothing and one entry written over; a second part right after the first; what over says at the front.
-- Assumes nothing.
use Rattle.std.specs.Prelude.{◌≡◌, ℕ, ◌+◌, ◌<◌, ◌≤◌, set}
use Rattle.std.proofs.Math.Path.{sym, ap}
use Rattle.std.proofs.Common.{◌∙◌, add-zero, add_assoc, zero-add, add-one, arith, take-append-drop, length-take-le}
use mathlib.Core.List.{List, [], ◌∷◌, ◌++◌, append_assoc}
use Rattle.std.proofs.Math.ListN.{length, take, drop, length-append, length-drop}
use Rattle.std.proofs.Math.Seq.{take_at, drop-append-add, drop-drop}
use Rattle.std.proofs.lemmas.List.{set_split}

unfoldable pub over : List ℕ → ℕ → List ℕ → List ℕ
over w at xs = take at w ++ (xs ++ drop (at + length xs) w)

pub over-front : (w xs : List ℕ) → over w 0 xs ≡ xs ++ drop (length xs) w
unfolding over
over-front w xs = rw zero-add

pub over_none : (w : List ℕ) (at : ℕ) → over w at [] ≡ w
unfolding over
over_none w at = rw add-zero (take-append-drop at w)

pub over-one : (w : List ℕ) (at x : ℕ) → at < length w → set w at x ≡ over w at (x ∷ [])
unfolding over
over-one w at x h = set_split w at x h ∙ ap (λ n. take at w ++ x ∷ drop n w) (sym (add-one at))

module _ (w : List ℕ) (at : ℕ) (xs : List ℕ) (fits : at + length xs ≤ length w) where
  length_before : length (take at w) ≡ at
  length_before = length-take-le at w (omega arith)

  pub length_over : length (over w at xs) ≡ length w
  unfolding over
  length_over = simp (length-append, length-drop, length_before) (omega arith)

  over-next : (ys : List ℕ) → over (over w at xs) (at + length xs) ys ≡ over w at (xs ++ ys)
  unfolding over
  over-next ys =
      let before = take at w in
      let rest = drop (at + length xs) w in
      let long : length (before ++ xs) ≡ at + length xs = length-append before xs ∙ ap (λ n. n + length xs) length_before in
      let grouped : before ++ (xs ++ rest) ≡ (before ++ xs) ++ rest = sym (append_assoc before xs rest) in
      let kept : take (at + length xs) (before ++ (xs ++ rest)) ≡ before ++ xs =
      ap (take (at + length xs)) grouped ∙ take_at (before ++ xs) rest (at + length xs) long in
      let left : drop (at + length xs + length ys) (before ++ (xs ++ rest)) ≡ drop (at + length (xs ++ ys)) w =
      ap (drop (at + length xs + length ys)) grouped ∙ ap (λ n. drop (n + length ys) ((before ++ xs) ++ rest)) (sym long)
      ∙ drop-append-add (before ++ xs) rest (length ys) ∙ drop-drop (length ys) (at + length xs) w
      ∙ ap (λ n. drop n w) (add_assoc at (length xs) (length ys) ∙ ap (λ n. at + n) (sym (length-append xs ys))) in
      let after = drop (at + length (xs ++ ys)) w in
      ap (λ l. l ++ (ys ++ drop (at + length xs + length ys) (before ++ (xs ++ rest)))) kept ∙ ap (λ l. (before ++ xs) ++ (ys ++ l)) left
      ∙ append_assoc before xs (ys ++ after) ∙ ap (λ l. before ++ l) (sym (append_assoc xs ys after))

  -- v is w with xs written over it, and u is v with ys right after them
  pub over-on : (v u ys : List ℕ) (next : ℕ) → v ≡ over w at xs → next ≡ at + length xs → u ≡ over v next ys
      → u ≡ over w at (xs ++ ys)
  over-on v u ys next e f g = g ∙ ap (λ n. over v n ys) f ∙ ap (λ l. over l (at + length xs) ys) e ∙ over-next ys
