-- A step of Expand downwards, the plain model's `expand_entry` in the place of the list before it.
--   ExpandingRow   the step in progress: the first i entries of both lists are done
-- Proved: how the step starts, what it sums, how it goes on and how it ends.
-- Assumes nothing.
use Rattle.std.specs.Prelude.{◌≡◌, refl, List, set}
use Rattle.std.proofs.Math.Path.{sym}
use Rattle.std.proofs.Common.{◌∙◌, ap, add-one}
use Prim.Native.Nat.{ℕ, zero, suc, ◌+◌, ◌*◌, ◌%◌, ◌≤◌, ◌<◌}
use native.Mathlib.Omega.{arith}
use Rattle.std.proofs.Math.ListN.{get_or}
use Rattle.definitions.specs.Family.{times_x}
use Rattle.numbers.specs.Lists.{Filling, filling-start, filling-next, filling-stop, filling-from}
use Rattle.plain_model.specs.PlainModels.{constant, expand_entry}
use Rattle.residue.specs.Summands.{Summands}
use Rattle.row_steps.specs.Row.{RowInput, Stepped, constant-below}

module _ (m x a b c : ℕ) (current₀ older₀ : List ℕ) (count : ℕ) where
  pub record ExpandingRow (current older : List ℕ) (carried previous i : ℕ) : Type 0 where
    pub reached : i ≤ count
    pub current_filling : Filling (expand_entry m x a b c current₀ older₀) i current₀ current
    pub older_filling : Filling (λ j. get_or current₀ j 0) i older₀ older
    pub carried_is : carried ≡ constant x i
    pub previous_is : previous ≡ times_x (λ j. get_or current₀ j 0) i

  module _ (input : RowInput m x a b c current₀ older₀ count) where
    pub expand-row-starts : ExpandingRow current₀ older₀ x 0 0
    unfolding constant times_x
    expand-row-starts = record {
      reached = omega arith;
      current_filling = filling-start;
      older_filling = filling-start;
      carried_is = refl;
      previous_is = refl;
    }

    module _ (current older : List ℕ) (carried previous i : ℕ) (l : i < count) (h : ExpandingRow current older carried previous i) where
      here-is : get_or current i 0 ≡ get_or current₀ i 0
      here-is = filling-from h.current_filling i 0 (omega arith)

      old-is : get_or older i 0 ≡ get_or older₀ i 0
      old-is = filling-from h.older_filling i 0 (omega arith)

      previous-below : (i : ℕ) → times_x (λ j. get_or current₀ j 0) i < m
      unfolding times_x
      previous-below zero = let p : x < m = input.x_below in omega arith
      previous-below (suc i) = input.current_below i

      pub expand-row-summands : Summands m carried a previous b (get_or current i 0) c (get_or older i 0)
      expand-row-summands = record {
        most = input.most;
        s_below = rw h.carried_is (constant-below m x i input.x_below);
        a_below = input.a_below;
        p_below = rw h.previous_is (previous-below i);
        b_below = input.b_below;
        q_below = rw here-is (input.current_below i);
        c_below = input.c_below;
        r_below = rw old-is (input.older_below i);
      }

      pub expand-row-next : (v : ℕ) → v ≡ (carried + a * previous + b * get_or current i 0 + c * get_or older i 0) % m
          → ExpandingRow (set current i v) (set older i (get_or current i 0)) 0 (get_or current i 0) (i + 1)
      unfolding expand_entry constant times_x
      expand-row-next v e = record {
        reached = omega arith;
        current_filling = filling-next h.current_filling (omega (arith, input.current_long))
            (e ∙ rw (here-is, old-is, h.carried_is, h.previous_is));
        older_filling = filling-next h.older_filling (omega (arith, input.older_long)) here-is;
        carried_is = sym (ap (constant x) (add-one i));
        previous_is = here-is ∙ sym (ap (times_x (λ j. get_or current₀ j 0)) (add-one i));
      }

  pub expand-row-ends : (current older : List ℕ) (carried previous i : ℕ) → count ≤ i → ExpandingRow current older carried previous i
      → Stepped (expand_entry m x a b c current₀ older₀) count current₀ current older₀ older
  expand-row-ends current older carried previous i l h = record {
    current_is = filling-stop h.current_filling count (omega arith);
    older_is = filling-stop h.older_filling count (omega arith);
  }
