-- Adjoint upwards in local arrays, against the plain model. Entry t after j rows rests on the entries up to t + j of the input, so
-- that each row touches one entry less, and what lies past n - j is left from earlier rows.
--   Adjoining f u n output₀ current older output j   the arrays agree with the model's state after j rows as far as they count, and
--                                                    the answer's first j entries are written
-- Proved: how the loop starts, what its step is lent, how it goes on, and that it ends with Adjoint.
-- Assumes nothing.
use Rattle.std.specs.Prelude.{◌≡◌, List, ◌++◌, ℕ, suc, ◌+◌, ◌-◌, ◌≤◌, ◌<◌, set, take}
use Rattle.std.proofs.Math.Path.{sym, ap}
use Rattle.std.proofs.Common.{◌∙◌, mod-lt, add-one, arith, get_or-take}
use Rattle.std.proofs.Math.Logic.{by_cases}
use Rattle.std.proofs.Math.Decide.{dec_lt}
use Rattle.std.proofs.Math.ListN.{length, get_or, drop}
use Rattle.definitions.specs.Conversion.{adjoint}
use Rattle.definitions.specs.Family.{Family, ones, size, row_at}
use Rattle.definitions.specs.Number.{table}
use Rattle.numbers.specs.Lists.{table-entry, filled, filled-below, filled-from, filled-length}
use Rattle.numbers.specs.Lists.{Filling, filling-start, filling-next, filling-stop}
use Rattle.numbers.specs.Products.{Below}
use Rattle.lists.specs.Lent.{lent}
use Rattle.plain_model.specs.PlainAdjoint.{plain_adjoint-adjoint}
use Rattle.plain_model.specs.PlainModels.{State, zeros, zeros-entry, adjoint_entry, adjoint_step, adjoint_state, plain_adjoint}
use Rattle.plain_model.specs.PlainSteps.{Agree, adjoint_entry-agree}
use Rattle.row_steps.specs.Row.{RowInput, Stepped}
use Rattle.plain.specs.Input.{ConvertInput}
use Rattle.plain.specs.Fitting.{Fitting, RowsBelow, input-fitting, input-below}

filled-residues : (m count : ℕ) (g : ℕ → ℕ) (old : List ℕ) → ((t : ℕ) → t < count → g t < m) → Below m old
    → Below m (filled g count old)
filled-residues m count g old p q t = by_cases (dec_lt t count)
    (λ h. rw (filled-below g old count t 0 h) (p t h))
    (λ h. rw (filled-from g old count t 0 (omega arith)) (q t))

adjoint_entry-below : (m a b c : ℕ) (current older : List ℕ) (t : ℕ) → 0 < m → adjoint_entry m a b c current older t < m
unfolding adjoint_entry
adjoint_entry-below m a b c current older t pos = mod-lt _ pos

-- ---- the loop
module _ (f : Family) (u : List ℕ) (n : ℕ) where
  abbrev state : ℕ → State
  state = adjoint_state f u

  -- entry j of the answer
  abbrev answer : ℕ → ℕ
  answer j = get_or (state j).current 0 0

  -- entry t of the next list
  abbrev next : List ℕ → List ℕ → ℕ → ℕ → ℕ
  next current older j = adjoint_entry f.m (row_at f j).a (row_at f j).b (row_at f j).c current older

  pub record Adjoining (output₀ current older output : List ℕ) (j : ℕ) : Type 0 where
    pub reached : j ≤ n
    pub current_long : length current ≡ 128
    pub older_long : length older ≡ 128
    pub current_below : Below f.m current
    pub older_below : Below f.m older
    pub current_is : Agree (n - j) current (state j).current
    pub older_is : Agree (n - j) older (state j).older
    pub written : Filling answer j output₀ output

  module _ (fitting : Fitting f u n) where
    pub adjoining-starts : (g : ℕ → ℕ) → ((t : ℕ) → t < n → g t ≡ get_or u t 0) → (output current older : List ℕ)
        → current ≡ filled g n (zeros 128) → older ≡ zeros 128 → Adjoining output current older output 0
    unfolding adjoint_state
    adjoining-starts g same output current older p q =
        let sized : size f ≡ n = fitting.sized in
        let zeros-below : Below f.m (zeros 128) = λ t. rw (zeros-entry 128 t) fitting.positive in
        record {
          reached = omega arith;
          current_long = ap length p ∙ filled-length g (zeros 128) n fitting.fits;
          older_long = ap length q;
          current_below = rw p
              (filled-residues f.m n g (zeros 128) (λ t h. rw (same t h) (fitting.curve.below t (omega arith))) zeros-below);
          older_below = rw q zeros-below;
          current_is = λ t h. ap (λ s. get_or s t 0) p ∙ filled-below g (zeros 128) n t 0 (omega arith) ∙ same t (omega arith);
          older_is = λ t h. ap (λ s. get_or s t 0) q ∙ zeros-entry 128 t ∙ sym (zeros-entry (size f) t);
          written = filling-start;
        }

    module _ {output₀ current older output : List ℕ} {j : ℕ} (l : j < n) (h : Adjoining output₀ current older output j) where
      pub adjoining-input : RowsBelow f
          → RowInput f.m 0 (row_at f j).a (row_at f j).b (row_at f j).c current older (n - 1 - j) × (n - 1 - j < length current)
      adjoining-input below =
          let fits : n ≤ 128 = fitting.fits in (
            record {
              most = fitting.greatest;
              x_below = fitting.positive;
              a_below = (below j).a_below;
              b_below = (below j).b_below;
              c_below = (below j).c_below;
              current_below = h.current_below;
              older_below = h.older_below;
              current_long = omega arith;
              older_long = omega arith;
            },
            omega arith,
          )

      -- a row's entries, as far as they count
      current-next : Agree (n - (j + 1)) (filled (next current older j) (n - 1 - j) current) (state (suc j)).current
      unfolding adjoint_state adjoint_step
      current-next t g =
          let sized : size f ≡ n = fitting.sized in
          filled-below _ current (n - 1 - j) t 0 (omega arith)
          ∙ adjoint_entry-agree (n - 1 - j) current (state j).current older (state j).older
          f.m (row_at f j).a (row_at f j).b (row_at f j).c
          (λ s k. h.current_is s (omega arith)) (λ s k. h.older_is s (omega arith)) t (omega arith)
          ∙ sym (table-entry (size f) _ t 0 (omega arith))

      older-next : Agree (n - (j + 1)) (filled (λ t. get_or current t 0) (n - 1 - j) older) (state (suc j)).older
      unfolding adjoint_state adjoint_step
      older-next t g = filled-below (λ t. get_or current t 0) older (n - 1 - j) t 0 (omega arith) ∙ h.current_is t (omega arith)

      pub adjoining-next : n ≤ length output₀ → {current' older' : List ℕ}
          → Stepped (next current older j) (n - 1 - j) current current' older older'
          → Adjoining output₀ current' older' (set output j (get_or current 0 0)) (j + 1)
      adjoining-next room e =
          let fits : n ≤ 128 = fitting.fits in
          let entry-below : (t : ℕ) → t < n - 1 - j → next current older j t < f.m =
          λ t _. adjoint_entry-below f.m _ _ _ current older t fitting.positive in
          record {
            reached = omega arith;
            current_long = ap length e.current_is ∙ filled-length _ current (n - 1 - j) (omega arith) ∙ h.current_long;
            older_long = ap length e.older_is ∙ filled-length _ older (n - 1 - j) (omega arith) ∙ h.older_long;
            current_below = rw e.current_is (filled-residues f.m (n - 1 - j) _ current entry-below h.current_below);
            older_below = rw e.older_is
                (filled-residues f.m (n - 1 - j) (λ t. get_or current t 0) older (λ t _. h.current_below t) h.older_below);
            current_is = λ t g. ap (λ s. get_or s t 0) e.current_is ∙ current-next t g
                ∙ ap (λ k. get_or (state k).current t 0) (sym (add-one j));
            older_is = λ t g. ap (λ s. get_or s t 0) e.older_is ∙ older-next t g
                ∙ ap (λ k. get_or (state k).older t 0) (sym (add-one j));
            written = filling-next h.written (omega arith) (h.current_is 0 (omega arith));
          }

    pub adjoining-ends : {output₀ current older output : List ℕ} {j : ℕ} → n ≤ j → Adjoining output₀ current older output j
        → output ≡ adjoint f u ++ drop n output₀
    unfolding filled plain_adjoint
    adjoining-ends {output₀} l h = filling-stop h.written n (omega (arith, h.reached))
        ∙ ap (λ s. s ++ drop n output₀)
        (ap (λ k. table k answer) (sym fitting.sized) ∙ plain_adjoint-adjoint f fitting.positive u fitting.curve)

-- ---- over the lists that are lent
module _ {m n : ℕ} {a b c curve output₀ : List ℕ} (input : ConvertInput m a b c curve n output₀) where
  abbrev f : Family
  f = lent m (n - 1) a b c ones

  abbrev u : List ℕ
  u = take n curve

  fitting : Fitting f u n
  fitting = input-fitting input a input.rows.a_holds.long

  pub adjoint-starts : {none current older : List ℕ} → none ≡ zeros 128 → older ≡ zeros 128 → current ≡ filled (λ t. get_or curve t 0) n none
      → Adjoining f u n output₀ current older output₀ 0
  adjoint-starts {none} {current} {older} z q p =
      adjoining-starts f u n fitting (λ t. get_or curve t 0) (λ t h. sym (get_or-take n curve t 0 h)) output₀ current older
      (p ∙ ap (filled (λ t. get_or curve t 0) n) z) q

  module _ {current older output : List ℕ} {j p q r : ℕ} (l : j < n) (h : Adjoining f u n output₀ current older output j)
      (ep : p ≡ get_or (take (n - 1) a) j 1) (eq : q ≡ get_or (take (n - 1) b) j 1) (er : r ≡ get_or (take (n - 1) c) j 1) where
    pub adjoint-step-input : RowInput m 0 p q r current older (n - 1 - j) × (n - 1 - j < length current)
    unfolding row_at
    adjoint-step-input = rw (ep, eq, er) (adjoining-input f u n fitting l h (input-below input))

    pub adjoint-step : {current' older' : List ℕ} → Stepped (adjoint_entry m p q r current older) (n - 1 - j) current current' older older'
        → Adjoining f u n output₀ current' older' (set output j (get_or current 0 0)) (j + 1)
    unfolding row_at
    adjoint-step e = adjoining-next f u n fitting l h input.output_long (rw (ep, eq, er) at e)

  pub adjoint-ends : {current older output : List ℕ} {j : ℕ} → n ≤ j → Adjoining f u n output₀ current older output j
      → output ≡ adjoint f u ++ drop n output₀
  adjoint-ends l h = adjoining-ends f u n fitting l h
