-- Bytes put over a part of a list.
--   Put old at xs most new next   new is old with xs from place at on, at most `most` of them, and next is the place after them
--   Written text most r old new   r is the length of a text, at most `most`, and new is that text and then what old held
-- Proved: the length stays; one entry; all of a list at once; a second part right after the first; what is put at the front is written so.
-- Assumes nothing.
use Rattle.std.specs.Prelude.{◌≡◌, refl, List, [], ◌∷◌, ◌++◌, ℕ, ◌+◌, ◌<◌, ◌≤◌, length, drop, set, take}
use Rattle.std.proofs.Common.{sym, ◌∙◌, ap, arith, length-append, drop-drop}
use borrow.Rule.Slice.PartMut.{put_mid}
use Rattle.texts.specs.Overwriting.{over, over-front, over-one, length_over, over-on}

pub record Put (old : List ℕ) (at : ℕ) (xs : List ℕ) (most : ℕ) (new : List ℕ) (next : ℕ) : Type 0 where
  pub place : next ≡ at + length xs
  pub short : length xs ≤ most
  pub stored : new ≡ over old at xs

pub put_one : (old : List ℕ) (at x : ℕ) → at < length old → Put old at (x ∷ []) 1 (set old at x) (at + 1)
put_one old at x h = record { place = refl; short = omega arith; stored = over-one old at x h }

module _ (old : List ℕ) (at : ℕ) (xs : List ℕ) (most : ℕ) (new : List ℕ) (next : ℕ) (p : Put old at xs most new next) where
  pub put-length : at + most ≤ length old → length new ≡ length old
  put-length h = ap length p.stored ∙ length_over old at xs (omega (arith, p.short))

  pub put_then : (ys : List ℕ) (more : ℕ) (new' : List ℕ) (next' : ℕ) → at + most ≤ length old → Put new next ys more new' next'
      → Put old at (xs ++ ys) (most + more) new' next'
  put_then ys more new' next' h q = record {
    place = omega (arith, p.place, q.place, length-append xs ys);
    short = omega (arith, p.short, q.short, length-append xs ys);
    stored = over-on old at xs (omega (arith, p.short)) new new' ys next p.stored p.place q.stored;
  }

  -- the same under another name for what was put, and with more room
  pub put_as : (ys : List ℕ) (room : ℕ) → xs ≡ ys → most ≤ room → Put old at ys room new next
  put_as ys room e h = record {
    place = p.place ∙ ap (λ zs. at + length zs) e;
    short = omega (arith, p.short, ap length e);
    stored = p.stored ∙ ap (over old at) e;
  }

-- all of xs at once, as a part of the list that is copied over
pub put_whole : (old : List ℕ) (at n : ℕ) (xs mid : List ℕ) → mid ≡ xs → n ≡ length xs
    → Put old at xs (length xs) (put_mid at n old mid) (at + length xs)
unfolding over
put_whole old at n xs mid same long = record {
  place = refl;
  short = omega arith;
  stored = rw (same, long) (ap (λ rest. take at old ++ (xs ++ rest)) (drop-drop (length xs) at old));
}

pub record Written (text : List ℕ) (most r : ℕ) (old new : List ℕ) : Type 0 where
  pub answer : r ≡ length text
  pub short : r ≤ most
  pub written : new ≡ text ++ drop r old

pub put_front : (old text : List ℕ) (room : ℕ) (new : List ℕ) (r : ℕ) → Put old 0 text room new r → (most : ℕ) → room ≤ most
    → Written text most r old new
put_front old text room new r p most h =
    let place : r ≡ length text = omega (arith, p.place) in
    record {
      answer = place;
      short = omega (arith, p.short);
      written = p.stored ∙ over-front old text ∙ ap (λ n. text ++ drop n old) (sym place);
    }
