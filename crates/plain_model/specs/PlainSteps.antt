-- What loops over the plain models cite.
--   Agree k xs ys   the entries of xs and ys below place k are the same
-- Proves that an entry of a step depends only on the entries beside it. Assumes nothing.
use Rattle.std.specs.Prelude.{◌≡◌, List, get_or}
use Rattle.std.proofs.Math.Path.{refl}
use Prim.Native.Nat.{ℕ, zero, suc, ◌<◌}
use Rattle.std.proofs.Common.{le_of_suc-le-suc, arith}
use Rattle.definitions.specs.Family.{times_x}
use Rattle.plain_model.specs.PlainModels.{expand_entry, adjoint_entry}

abbrev pub Agree : ℕ → List ℕ → List ℕ → Type 0
Agree k xs ys = (i : ℕ) → i < k → get_or xs i 0 ≡ get_or ys i 0

module _ (k : ℕ) (p p' q q' : List ℕ) where
  times_x-agree : Agree k p p' → (i : ℕ) → i < suc k → times_x (λ j. get_or p j 0) i ≡ times_x (λ j. get_or p' j 0) i
  unfolding times_x
  times_x-agree e zero h = refl
  times_x-agree e (suc i) h = e i (le_of_suc-le-suc h)

  pub expand_entry-agree : (m y a b c : ℕ) → Agree k p p' → Agree k q q' → (i : ℕ) → i < k
      → expand_entry m y a b c p q i ≡ expand_entry m y a b c p' q' i
  unfolding expand_entry
  expand_entry-agree m y a b c e e' i h = rw (times_x-agree e i (omega arith), e i h, e' i h)

  pub adjoint_entry-agree : (m a b c : ℕ) → Agree (suc k) p p' → Agree k q q' → (t : ℕ) → t < k
      → adjoint_entry m a b c p q t ≡ adjoint_entry m a b c p' q' t
  unfolding adjoint_entry
  adjoint_entry-agree m a b c e e' t h = rw (e (suc t) (omega arith), e t (omega arith), e' t h)
