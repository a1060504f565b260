-- A step of Adjoint upwards, the plain model's `adjoint_entry` in the place of the list before it.
--   AdjoiningRow   the step in progress: the first i entries of both lists are done
-- Proved: how the step starts, what it sums, how it goes on and how it ends.
-- Assumes nothing.
use Rattle.std.specs.Prelude.{◌≡◌, List, ℕ, suc, ◌+◌, ◌*◌, ◌%◌, ◌≤◌, ◌<◌, get_or, set}
use Rattle.std.proofs.Common.{◌∙◌, ap, zero-add, add-one, arith}
use Rattle.numbers.specs.Lists.{Filling, filling-start, filling-next, filling-stop, filling-from}
use Rattle.plain_model.specs.PlainModels.{adjoint_entry}
use Rattle.residue.specs.Summands.{Summands}
use Rattle.row_steps.specs.Row.{RowInput, Stepped}

module _ (m a b c : ℕ) (current₀ older₀ : List ℕ) (count : ℕ) where
  pub record AdjoiningRow (current older : List ℕ) (i : ℕ) : Type 0 where
    pub reached : i ≤ count
    pub current_filling : Filling (adjoint_entry m a b c current₀ older₀) i current₀ current
    pub older_filling : Filling (λ j. get_or current₀ j 0) i older₀ older

  module _ (input : RowInput m 0 a b c current₀ older₀ count) where
    pub adjoint-row-starts : AdjoiningRow current₀ older₀ 0
    adjoint-row-starts = record {
      reached = omega arith;
      current_filling = filling-start;
      older_filling = filling-start;
    }

    module _ (current older : List ℕ) (i : ℕ) (l : i < count) (h : AdjoiningRow current older i) where
      next-is : get_or current (i + 1) 0 ≡ get_or current₀ (suc i) 0
      next-is = filling-from h.current_filling (i + 1) 0 (omega arith) ∙ ap (λ j. get_or current₀ j 0) (add-one i)

      here-is : get_or current i 0 ≡ get_or current₀ i 0
      here-is = filling-from h.current_filling i 0 (omega arith)

      old-is : get_or older i 0 ≡ get_or older₀ i 0
      old-is = filling-from h.older_filling i 0 (omega arith)

      pub adjoint-row-summands : Summands m 0 a (get_or current (i + 1) 0) b (get_or current i 0) c (get_or older i 0)
      adjoint-row-summands = record {
        most = input.most;
        s_below = input.x_below;
        a_below = input.a_below;
        p_below = rw next-is (input.current_below (suc i));
        b_below = input.b_below;
        q_below = rw here-is (input.current_below i);
        c_below = input.c_below;
        r_below = rw old-is (input.older_below i);
      }

      pub adjoint-row-next : (v : ℕ) → v ≡ (0 + a * get_or current (i + 1) 0 + b * get_or current i 0 + c * get_or older i 0) % m
          → AdjoiningRow (set current i v) (set older i (get_or current i 0)) (i + 1)
      unfolding adjoint_entry
      adjoint-row-next v e = record {
        reached = omega arith;
        current_filling = filling-next h.current_filling (omega (arith, input.current_long)) (e ∙ rw (zero-add, next-is, here-is, old-is));
        older_filling = filling-next h.older_filling (omega (arith, input.older_long)) here-is;
      }

  pub adjoint-row-ends : (current older : List ℕ) (i : ℕ) → count ≤ i → AdjoiningRow current older i
      → Stepped (adjoint_entry m a b c current₀ older₀) count current₀ current older₀ older
  adjoint-row-ends current older i l h = record {
    current_is = filling-stop h.current_filling count (omega arith);
    older_is = filling-stop h.older_filling count (omega arith);
  }
