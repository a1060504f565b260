-- A copy, entry by entry.
--   Copying old at xs out k   the first k entries of xs are put
-- Proved: how a copy begins, goes on and ends. `put_bytes` copies at once, to the same promise; these say it of a copy by steps. Assumes
-- nothing.
use Rattle.std.specs.Prelude.{◌≡◌, refl, List, [], ◌∷◌, ℕ, ◌+◌, ◌<◌, ◌≤◌, length, get_or, set, take}
use Rattle.std.proofs.Common.{sym, ◌∙◌, ap, add-one, arith, length-set, length-take-le, take_all, take-suc}
use Rattle.texts.specs.Overwriting.{over, over_none, over-one, over-on}
use Rattle.writer.specs.Putting.{Put}

pub record Copying (old : List ℕ) (at : ℕ) (xs out : List ℕ) (k : ℕ) : Type 0 where
  pub within : k ≤ length xs
  pub size : length out ≡ length old
  pub stored : out ≡ over old at (take k xs)

module _ (old : List ℕ) (at : ℕ) (xs : List ℕ) where
  pub copying-starts : Copying old at xs old 0
  copying-starts = record { within = omega arith; size = refl; stored = sym (over_none old at) }

  module _ (out : List ℕ) (k : ℕ) (c : Copying old at xs out k) where
    pub copying-ends : length xs ≤ k → Put old at xs (length xs) out (at + k)
    copying-ends l = record {
      place = omega (arith, c.within);
      short = omega arith;
      stored = c.stored ∙ ap (over old at) (take_all k xs l);
    }

    pub copying-next : at + length xs ≤ length old → k < length xs → Copying old at xs (set out (at + k) (get_or xs k 0)) (k + 1)
    copying-next room l =
        let x = get_or xs k 0 in
        let taken : length (take k xs) ≡ k = length-take-le k xs (omega arith) in
        let one = over-one out (at + k) x (omega (arith, c.size)) in
        record {
          within = omega arith;
          size = length-set out (at + k) x ∙ c.size;
          stored =
              over-on old at (take k xs) (omega arith) out (set out (at + k) x) (x ∷ []) (at + k) c.stored (omega arith) one
              ∙ ap (over old at) (sym (ap (λ j. take j xs) (add-one k) ∙ take-suc xs k 0 l));
        }
