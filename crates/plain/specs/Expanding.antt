-- Expand downwards in local arrays, against the plain model. After i steps the lists have i coefficients that may not be zero, so
-- that each step touches one more.
--   ExpandRow f u k x a b c           the numbers that a step reads: entry k of the curve, the a and b of row k + 1, the c of row k + 2
--   Expanding f u n current older i   the arrays match the model's state after i steps
-- Proved: how the loop starts, what its step is lent, how it goes on, and that it ends with Expand.
-- Assumes nothing.
use Rattle.std.specs.Prelude.{◌≡◌, List, ◌++◌, take}
use Rattle.std.proofs.Math.Path.{sym, ap}
use Rattle.std.proofs.Common.{◌∙◌, add-one, get_or-take}
use Prim.Native.Nat.{ℕ, zero, suc, ◌+◌, ◌-◌, ◌≤◌, ◌<◌}
use native.Mathlib.Omega.{arith}
use Rattle.std.proofs.Math.ListN.{length, get_or, drop}
use Rattle.definitions.specs.Conversion.{expand}
use Rattle.definitions.specs.Family.{Family, ones, rows, size, row_at}
use Rattle.numbers.specs.Lists.{table-entry, filled, filled-length}
use Rattle.lists.specs.Lent.{lent}
use Rattle.plain_model.specs.PlainExpand.{expand_state-ends, plain_expand-expand}
use Rattle.plain_model.specs.PlainModels.{State, zeros, zeros-entry, expand_entry, expand_step, expand_state, expand_state-curves}
use Rattle.plain_model.specs.PlainModels.{plain_expand}
use Rattle.plain_model.specs.PlainSteps.{expand_entry-agree}
use Rattle.row_steps.specs.Row.{RowInput, Stepped}
use Rattle.plain.specs.Input.{ConvertInput}
use Rattle.plain.specs.Matching.{Match, ZeroFrom, curve-below, filled-matches, filled-copies, table-matches}
use Rattle.plain.specs.Fitting.{Fitting, RowsBelow, input-fitting, input-below}

pub record ExpandRow (f : Family) (u : List ℕ) (k x a b c : ℕ) : Type 0 where
  pub x_is : x ≡ get_or u k 0
  pub a_is : a ≡ (row_at f k).a
  pub b_is : b ≡ (row_at f k).b
  pub c_is : c ≡ (row_at f (suc k)).c

-- ---- the loop
module _ (f : Family) (u : List ℕ) (n : ℕ) where
  abbrev state : ℕ → State
  state = expand_state f u

  pub record Expanding (current older : List ℕ) (i : ℕ) : Type 0 where
    pub reached : i ≤ n
    pub current_long : length current ≡ 128
    pub older_long : length older ≡ 128
    pub current_is : Match current (state i).current
    pub older_is : Match older (state i).older

  pub expanding-starts : (current older : List ℕ) → current ≡ zeros 128 → older ≡ zeros 128 → Expanding current older 0
  unfolding expand_state
  expanding-starts current older p q = record {
    reached = omega arith;
    current_long = ap length p;
    older_long = ap length q;
    current_is = λ t. ap (λ s. get_or s t 0) p ∙ zeros-entry 128 t ∙ sym (zeros-entry (size f) t);
    older_is = λ t. ap (λ s. get_or s t 0) q ∙ zeros-entry 128 t ∙ sym (zeros-entry (size f) t);
  }

  module _ (fitting : Fitting f u n) where
    older-ends : (i t : ℕ) → i ≤ size f → i ≤ t → get_or (state i).older t 0 ≡ 0
    unfolding expand_state expand_step
    older-ends zero t b h = zeros-entry (size f) t
    older-ends (suc i) t b h = expand_state-ends f fitting.positive u i t (omega arith) (omega arith)

    module _ {x a b c i : ℕ} {current older : List ℕ} (l : i < n) (h : Expanding current older i)
        (row : ExpandRow f u (n - 1 - i) x a b c) where
      sized : size f ≡ n
      sized = fitting.sized

      pub expanding-input : RowsBelow f → RowInput f.m x a b c current older (i + 1)
      expanding-input below =
          let n-small : n ≤ 128 = fitting.fits in
          let size_is : size f ≡ n = sized in
          let curves = expand_state-curves f fitting.positive u i in
          record {
            most = fitting.greatest;
            x_below = rw row.x_is (fitting.curve.below (n - 1 - i) (omega arith));
            a_below = rw row.a_is (below (n - 1 - i)).a_below;
            b_below = rw row.b_is (below (n - 1 - i)).b_below;
            c_below = rw row.c_is (below (suc (n - 1 - i))).c_below;
            current_below = λ t. rw (h.current_is t) (curve-below f (state i).current fitting.positive curves.current_curve t);
            older_below = λ t. rw (h.older_is t) (curve-below f (state i).older fitting.positive curves.older_curve t);
            current_long = omega arith;
            older_long = omega arith;
          }

      zero-current : ZeroFrom (i + 1) current
      zero-current t g = h.current_is t ∙ expand_state-ends f fitting.positive u i t (omega (arith, sized)) (omega arith)

      zero-older : ZeroFrom (i + 1) older
      zero-older t g = h.older_is t ∙ older-ends i t (omega (arith, sized)) (omega arith)

      current-next : Match (filled (expand_entry f.m x a b c current older) (i + 1) current) (state (suc i)).current
      unfolding expand_state expand_step
      current-next =
          let size_is : size f ≡ n = sized in
          let k : rows f - i ≡ n - 1 - i = omega arith in
          filled-matches (i + 1) current zero-current (expand_entry f.m x a b c current older) _ (size f) (omega arith)
          (λ t g. expand_entry-agree (i + 1) current (state i).current older (state i).older f.m x a b c
          (λ s _. h.current_is s) (λ s _. h.older_is s) t g ∙ rw (k, row.x_is, row.a_is, row.b_is, row.c_is))
          (λ t g d. sym (table-entry (size f) _ t 0 d) ∙ expand_state-ends f fitting.positive u (suc i) t (omega arith) (omega arith))

      older-next : Match (filled (λ t. get_or current t 0) (i + 1) older) (state (suc i)).older
      unfolding expand_state expand_step
      older-next t = filled-copies (i + 1) older zero-older current zero-current t ∙ h.current_is t

      pub expanding-next : {current' older' : List ℕ}
          → Stepped (expand_entry f.m x a b c current older) (i + 1) current current' older older' → Expanding current' older' (i + 1)
      expanding-next e = record {
        reached = omega arith;
        current_long = ap length e.current_is ∙ filled-length _ current (i + 1) (omega (arith, fitting.fits)) ∙ h.current_long;
        older_long = ap length e.older_is ∙ filled-length _ older (i + 1) (omega (arith, fitting.fits)) ∙ h.older_long;
        current_is = λ t. ap (λ s. get_or s t 0) e.current_is ∙ current-next t ∙ ap (λ j. get_or (state j).current t 0) (sym (add-one i));
        older_is = λ t. ap (λ s. get_or s t 0) e.older_is ∙ older-next t ∙ ap (λ j. get_or (state j).older t 0) (sym (add-one i));
      }

    pub expanding-ends : (output : List ℕ) {current older output' : List ℕ} {i : ℕ} → n ≤ i → Expanding current older i
        → output' ≡ filled (λ t. get_or current t 0) n output → output' ≡ expand f u ++ drop n output
    unfolding filled plain_expand
    expanding-ends output {current} {i = i} l h e =
        let sized : size f ≡ n = fitting.sized in
        let done : i ≡ size f = omega arith in
        let long : length (plain_expand f u) ≡ n = (expand_state-curves f fitting.positive u (size f)).current_curve.long ∙ sized in
        e ∙ ap (λ s. s ++ drop n output) (table-matches current (plain_expand f u) n long
        (λ t. h.current_is t ∙ ap (λ j. get_or (state j).current t 0) done) ∙ plain_expand-expand f fitting.positive u)

-- ---- over the lists that are lent
module _ {m n : ℕ} {a b c curve output : List ℕ} (input : ConvertInput m a b c curve n output) where
  abbrev f : Family
  f = lent m (n - 1) a b c ones

  abbrev u : List ℕ
  u = take n curve

  fitting : Fitting f u n
  fitting = input-fitting input a input.rows.a_holds.long

  module _ {current older : List ℕ} {i p q r : ℕ} (l : i < n) (h : Expanding f u n current older i)
      (ep : p ≡ get_or (take (n - 1) a) (n - 1 - i) 1) (eq : q ≡ get_or (take (n - 1) b) (n - 1 - i) 1)
      (er : r ≡ get_or (take (n - 1) c) (n - 1 - i + 1) 1) where
    row : ExpandRow f u (n - 1 - i) (get_or curve (n - 1 - i) 0) p q r
    unfolding row_at
    row = record {
      x_is = sym (get_or-take n curve (n - 1 - i) 0 (omega arith));
      a_is = ep;
      b_is = eq;
      c_is = er ∙ ap (λ k. get_or (take (n - 1) c) k 1) (add-one (n - 1 - i));
    }

    pub expand-step-input : RowInput m (get_or curve (n - 1 - i) 0) p q r current older (i + 1)
    expand-step-input = expanding-input f u n fitting l h row (input-below input)

    pub expand-step : {current' older' : List ℕ}
        → Stepped (expand_entry m (get_or curve (n - 1 - i) 0) p q r current older) (i + 1) current current' older older'
        → Expanding f u n current' older' (i + 1)
    expand-step e = expanding-next f u n fitting l h row e

  pub expand-ends : {current older output' : List ℕ} {i : ℕ} → n ≤ i → Expanding f u n current older i
      → output' ≡ filled (λ t. get_or current t 0) n output → output' ≡ expand f u ++ drop n output
  expand-ends l h e = expanding-ends f u n fitting output l h e
