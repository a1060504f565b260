-- Decompose in local arrays, against the plain model. After i steps the curve has i entries that may not be zero, so that each step
-- touches one more. No row's a is read, only its inverse: all that is said here holds of every list a that has these inverses.
--   Decomposes f u output output'            f has the inverses of some a in the place of the a: of every such a, Decompose of the first
--                                            entries of u stands at the front of output', and the rest of output behind it
--   negative_product m xs ys i               - xs_i ys_i, modulo m
--   Tables m n v b c rise stay fall          the arrays of multiplication by x in the basis; v holds the inverses of the a
--   Decomposing m n v b c p current i        the array matches the model's state after i steps
-- Proved: how the arrays are filled, and how the loop starts. What its step is lent, how it goes on, and that it ends with Decompose stands in
-- Decomposing of proofs/. Assumes nothing.
use Rattle.std.specs.Prelude.{◌≡◌, List, ◌++◌, ℕ, ◌*◌, ◌-◌, ◌%◌, ◌≤◌, take, drop}
use Rattle.std.proofs.Math.Path.{sym, ap}
use Rattle.std.proofs.Common.{◌∙◌, arith}
use Rattle.std.proofs.Math.ListN.{length, get_or}
use Rattle.definitions.specs.Family.{Family, ones, rows, size}
use Rattle.definitions.specs.Conversion.{decompose}
use Rattle.definitions.specs.Number.{negative}
use Rattle.numbers.specs.Lists.{filled}
use Rattle.lists.specs.Inverses.{Inverts}
use Rattle.lists.specs.Lent.{lent}
use Rattle.plain_model.specs.PlainModels.{zeros, zeros-entry, decompose_state}
use Rattle.plain.specs.Matching.{Match}

abbrev pub Decomposes : Family → List ℕ → List ℕ → List ℕ → Type 0
Decomposes f u output output' = (a : List ℕ) → Inverts f.m 0 (rows f) a f.a 1 1
    → output' ≡ decompose (lent f.m (rows f) a f.b f.c ones) (take (size f) u) ++ drop (size f) output

unfoldable pub negative_product : ℕ → List ℕ → List ℕ → ℕ → ℕ
negative_product m xs ys i = negative m (get_or xs i 0) * get_or ys i 0 % m

pub record Tables (m n : ℕ) (v b c rise stay fall : List ℕ) : Type 0 where
  pub rise_is : rise ≡ filled (λ i. get_or v i 0) (n - 1) (zeros 128)
  pub stay_is : stay ≡ filled (negative_product m b v) (n - 1) (zeros 128)
  pub fall_is : fall ≡ filled (negative_product m c v) (n - 1) (zeros 128)

pub tables-filled : {m n : ℕ} {v b c z₁ z₂ z₃ rise stay fall : List ℕ} → z₁ ≡ zeros 128 → z₂ ≡ zeros 128 → z₃ ≡ zeros 128
    → rise ≡ filled (λ i. get_or v i 0) (n - 1) z₁ → stay ≡ filled (negative_product m b v) (n - 1) z₂
    → fall ≡ filled (negative_product m c v) (n - 1) z₃ → Tables m n v b c rise stay fall
tables-filled z₁ z₂ z₃ e₁ e₂ e₃ =
    record { rise_is = e₁ ∙ ap (filled _ _) z₁; stay_is = e₂ ∙ ap (filled _ _) z₂; fall_is = e₃ ∙ ap (filled _ _) z₃ }

pub record Decomposing (m n : ℕ) (v b c p : List ℕ) (current : List ℕ) (i : ℕ) : Type 0 where
  pub reached : i ≤ n
  pub long : length current ≡ 128
  pub is : (a : List ℕ) → n - 1 ≤ length a
      → Match current (decompose_state (lent m (n - 1) a b c ones) (take (n - 1) v) (take n p) i)

pub decomposing-starts : {m n : ℕ} {v b c p current : List ℕ} → current ≡ zeros 128 → Decomposing m n v b c p current 0
unfolding decompose_state
decomposing-starts {m} {n} {v} {b} {c} {p} {current} e = record {
  reached = omega arith;
  long = ap length e;
  is = λ a h t. ap (λ s. get_or s t 0) e ∙ zeros-entry 128 t ∙ sym (zeros-entry (size (lent m (n - 1) a b c ones)) t);
}
