-- A step of Decompose: x times a list in the basis F, and a constant more. Multiplication by x in the basis is three lists,
-- x F_i = rise_i F_{i+1} + stay_i F_i + fall_i F_{i-1}.
--   DecomposeRowInput   the three lists and the one that the step moves on hold residues and have room for count entries
--   Multiplying         the step in progress: the first i entries are done
-- Proved: how the step starts, what it sums, how it goes on and how it ends.
-- Assumes nothing.
use Rattle.std.specs.Prelude.{◌≡◌, refl, List, ℕ, suc, ◌+◌, ◌*◌, ◌%◌, ◌≤◌, ◌<◌, length, set}
use Rattle.std.proofs.Math.Path.{sym}
use Rattle.std.proofs.Common.{◌∙◌, ap, add-one, arith}
use Rattle.std.proofs.Math.ListN.{get_or}
use Rattle.definitions.specs.Family.{greatest_modulus, times_x}
use Rattle.numbers.specs.Lists.{filled, Filling, filling-start, filling-next, filling-stop, filling-from}
use Rattle.numbers.specs.Products.{Below}
use Rattle.plain_model.specs.PlainBasis.{basis_entry}
use Rattle.plain_model.specs.PlainModels.{constant}
use Rattle.residue.specs.Summands.{Summands}
use Rattle.row_steps.specs.Row.{constant-below}

pub record DecomposeRowInput (m p : ℕ) (rise stay fall current : List ℕ) (count : ℕ) : Type 0 where
  pub most : m ≤ greatest_modulus
  pub p_below : p < m
  pub rise_below : Below m rise
  pub stay_below : Below m stay
  pub fall_below : Below m fall
  pub current_below : Below m current
  pub rise_long : count ≤ length rise
  pub stay_long : count ≤ length stay
  pub current_long : count ≤ length current

module _ (m p : ℕ) (rise stay fall current₀ : List ℕ) (count : ℕ) where
  pub record Multiplying (current : List ℕ) (carried lead previous i : ℕ) : Type 0 where
    pub reached : i ≤ count
    pub filling : Filling (basis_entry m p rise stay fall current₀) i current₀ current
    pub carried_is : carried ≡ constant p i
    pub behind_is : lead * previous ≡ times_x (λ j. get_or rise j 0 * get_or current₀ j 0) i
    pub lead_below : lead < m
    pub previous_below : previous < m

  module _ (input : DecomposeRowInput m p rise stay fall current₀ count) where
    pub multiplying-starts : Multiplying current₀ p 0 0 0
    unfolding constant times_x
    multiplying-starts =
        let b : p < m = input.p_below in
        record {
          reached = omega arith;
          filling = filling-start;
          carried_is = refl;
          behind_is = refl;
          lead_below = omega arith;
          previous_below = omega arith;
        }

    module _ (current : List ℕ) (carried lead previous i : ℕ) (l : i < count) (h : Multiplying current carried lead previous i) where
      here-is : get_or current i 0 ≡ get_or current₀ i 0
      here-is = filling-from h.filling i 0 (omega arith)

      next-is : get_or current (i + 1) 0 ≡ get_or current₀ (suc i) 0
      next-is = filling-from h.filling (i + 1) 0 (omega arith) ∙ ap (λ j. get_or current₀ j 0) (add-one i)

      module _ (f n : ℕ) (ef : f ≡ get_or fall (i + 1) 0) (en : n ≡ get_or current (i + 1) 0) where
        pub multiplying-summands : Summands m carried lead previous (get_or stay i 0) (get_or current i 0) f n
        multiplying-summands = record {
          most = input.most;
          s_below = rw h.carried_is (constant-below m p i input.p_below);
          a_below = h.lead_below;
          p_below = h.previous_below;
          b_below = input.stay_below i;
          q_below = rw here-is (input.current_below i);
          c_below = rw ef (input.fall_below (i + 1));
          r_below = rw (en, next-is) (input.current_below (suc i));
        }

        pub multiplying-next : (v : ℕ) → v ≡ (carried + lead * previous + get_or stay i 0 * get_or current i 0 + f * n) % m
            → Multiplying (set current i v) 0 (get_or rise i 0) (get_or current i 0) (i + 1)
        unfolding basis_entry constant times_x
        multiplying-next v e = record {
          reached = omega arith;
          filling = filling-next h.filling (omega (arith, input.current_long))
              (e ∙ rw (h.carried_is, h.behind_is, ef, en, next-is, here-is, add-one));
          carried_is = sym (ap (constant p) (add-one i));
          behind_is = rw here-is (sym (ap (times_x (λ j. get_or rise j 0 * get_or current₀ j 0)) (add-one i)));
          lead_below = input.rise_below i;
          previous_below = rw here-is (input.current_below i);
        }

  pub multiplying-ends : (current : List ℕ) (carried lead previous i : ℕ) → count ≤ i → Multiplying current carried lead previous i
      → current ≡ filled (basis_entry m p rise stay fall current₀) count current₀
  multiplying-ends current carried lead previous i l h = filling-stop h.filling count (omega arith)
