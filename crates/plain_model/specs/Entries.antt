-- Lists as sequences of residues, zero past their end (entries, of `theory`, Bridge).
--   Holding m pos s now before   the two lists of the state s have the residues now and before
-- Proves what the entries of a table and of zeros are, and that a curve has a zero where its residue is one.
-- The plain models' lists are tables of n entries, and their proofs speak of all places. Assumes nothing.
use Rattle.std.specs.Prelude.{◌≡◌, List, ℕ, ◌<◌, ◌≤◌, length, get_or}
use Rattle.std.proofs.Common.{sym, ◌∙◌, ap, arith}
use Rattle.std.proofs.Math.Logic.{by_cases}
use Rattle.std.proofs.Math.Decide.{dec_lt}
use Rattle.std.proofs.Math.ListN.{get_or-eq_default}
use Rattle.algebra.specs.Residues.{Zmod, res, res-zero, res-injective}
use Rattle.definitions.specs.Family.{Family, Curve, size}
use Rattle.definitions.specs.Number.{table}
use Rattle.numbers.specs.Lists.{table-entry, table-past}
use Rattle.theory.specs.Bridge.{entries}
use Rattle.plain_model.specs.PlainModels.{State, zeros, zeros-entry}

module _ (m : ℕ) (pos : 0 < m) where
  open Zmod m pos use {Car, zero as 𝟘}

  pub entries-zeros : (n i : ℕ) → entries m pos (zeros n) i ≡ 𝟘
  entries-zeros n i = ap (res m pos) (zeros-entry n i) ∙ res-zero m pos

  -- a table of all that is not zero
  pub entries-table : (n : ℕ) (g : ℕ → ℕ) (w : ℕ → Car) → ((i : ℕ) → i < n → res m pos (g i) ≡ w i) → ((i : ℕ) → n ≤ i → w i ≡ 𝟘)
      → (i : ℕ) → entries m pos (table n g) i ≡ w i
  entries-table n g w e z i = by_cases (dec_lt i n) (λ h. ap (res m pos) (table-entry n g i 0 h) ∙ e i h)
      (λ h. let l : n ≤ i = omega arith in ap (res m pos) (table-past n g i 0 l) ∙ res-zero m pos ∙ sym (z i l))

  pub record Holding (s : State) (now before : ℕ → Car) : Type 0 where
    pub current_holds : (t : ℕ) → entries m pos s.current t ≡ now t
    pub older_holds : (t : ℕ) → entries m pos s.older t ≡ before t

pub entry_zero : (f : Family) (pos : 0 < f.m) (u : List ℕ) → Curve f u → (i : ℕ)
    → entries f.m pos u i ≡ (Zmod f.m pos).zero → get_or u i 0 ≡ 0
entry_zero f pos u cu i e = by_cases (dec_lt i (size f))
    (λ h. res-injective f.m pos (get_or u i 0) 0 (cu.below i h) pos (e ∙ sym (res-zero f.m pos)))
    (λ h. let long : length u ≡ size f = cu.long in get_or-eq_default u 0 (omega arith))
