-- Decompose in local arrays, step by step against the plain model.
-- Proved: the arrays are what the model needs; what a step is lent; a step of the array is a step of the model; at the end the array holds
-- Decompose. These rest on negative_product, which an edit of specs/ changes.
-- Assumes nothing.
use Rattle.std.specs.Prelude.{◌≡◌, List, ◌++◌, ℕ, suc, ◌+◌, ◌*◌, ◌-◌, ◌%◌, ◌≤◌, ◌<◌, take}
use Rattle.std.proofs.Math.Path.{sym, ap}
use Rattle.std.proofs.Common.{◌∙◌, mod-lt, mul-zero, add-one, arith, length-take-le}
use Rattle.std.proofs.Math.Logic.{by_cases}
use Rattle.std.proofs.Math.Decide.{dec_lt}
use Rattle.std.proofs.Math.Nat.{zero-mod}
use Rattle.std.proofs.Math.ListN.{length, get_or, drop, get_or-eq_default}
use Rattle.std.proofs.Math.Seq.{get_or-take}
use Rattle.definitions.specs.Conversion.{decompose}
use Rattle.definitions.specs.Family.{Family, ones, size, rows, row_at}
use Rattle.definitions.specs.Number.{negative}
use Rattle.numbers.specs.Lists.{table-entry, filled, filled-below, filled-from, filled-length}
use Rattle.lists.specs.Entries.{entry-inside}
use Rattle.lists.specs.Held.{held_below}
use Rattle.lists.specs.Inverses.{Inverts, inverts-long}
use Rattle.lists.specs.Lent.{lent}
use Rattle.plain_model.specs.PlainBasis.{Basis, basis_entry, basis_entry-decomposes}
use Rattle.plain_model.specs.PlainDecompose.{decompose_state-ends, plain_decompose-decompose}
use Rattle.plain_model.specs.PlainDecompose as PlainDecompose
use Rattle.plain_model.specs.PlainModels.{zeros, zeros-entry, decompose_step, decompose_state, decompose_state-curve, plain_decompose}
use Rattle.row_steps.specs.DecomposeRow.{DecomposeRowInput}
use Rattle.plain.specs.Input.{ConvertInput}
use Rattle.plain.specs.Matching.{Match, curve-below, filled-matches, table-matches}
use Rattle.plain.specs.Fitting.{Fitting, input-fitting}
use Rattle.plain.specs.Decomposing.{negative_product, Tables, Decomposing}

-- an entry of such an array, which is zero past the rows
filled_at : (g h : ℕ → ℕ) (count : ℕ) (list : List ℕ) → list ≡ filled g count (zeros 128) → ((i : ℕ) → i < count → g i ≡ h i)
    → ((i : ℕ) → count ≤ i → h i ≡ 0) → (i : ℕ) → get_or list i 0 ≡ h i
filled_at g h count list e same past i = ap (λ s. get_or s i 0) e ∙ by_cases (dec_lt i count)
    (λ l. filled-below g (zeros 128) count i 0 l ∙ same i l)
    (λ l. filled-from g (zeros 128) count i 0 (omega arith) ∙ zeros-entry 128 i ∙ sym (past i (omega arith)))

-- a step of the array is a step of the model
module _ (f : Family) (pos : 0 < f.m) (d u rise stay fall : List ℕ) (basis : Basis f d rise stay fall) where
  abbrev state : ℕ → List ℕ
  state = decompose_state f d u

  step-matches : (y i : ℕ) (current : List ℕ) → suc i ≤ size f → y ≡ get_or u (rows f - i) 0 → Match current (state i)
      → Match (filled (basis_entry f.m y rise stay fall current) (i + 1) current) (state (suc i))
  unfolding decompose_state decompose_step
  step-matches y i current l e h =
      filled-matches (i + 1) current (λ t g. h t ∙ decompose_state-ends f pos d u i t (omega arith) (omega arith)) _ _ (size f) (omega arith)
      (λ t g. basis_entry-decomposes f pos d rise stay fall basis y current (state i) h (decompose_state-curve f pos d u i) t ∙ rw e)
      (λ t g k. sym (table-entry (size f) _ t 0 k) ∙ decompose_state-ends f pos d u (suc i) t l (omega arith))

module _ {m n : ℕ} {v b c p output : List ℕ} (input : ConvertInput m v b c p n output) where
  -- the family of the rows that have the numbers of a
  abbrev of : List ℕ → Family
  of a = lent m (n - 1) a b c ones

  abbrev d : List ℕ
  d = take (n - 1) v

  abbrev u : List ℕ
  u = take n p

  pos : 0 < m
  pos = let two : 2 ≤ m = input.rows.modulus.least in omega arith

  d-past : (i : ℕ) → n - 1 ≤ i → get_or d i 0 ≡ 0
  d-past i h = get_or-eq_default d 0 (rw (length-take-le (n - 1) v input.rows.a_holds.long) h)

  module _ {rise stay fall : List ℕ} (tables : Tables m n v b c rise stay fall) where
    quotient-at : (list quotient : List ℕ) → n - 1 ≤ length list → quotient ≡ filled (negative_product m list v) (n - 1) (zeros 128)
        → (i : ℕ) → get_or quotient i 0 ≡ negative m (get_or (take (n - 1) list) i 1) * get_or d i 0 % m
    unfolding negative_product
    quotient-at list quotient long e = filled_at _ _ (n - 1) quotient e
        (λ i h. rw (entry-inside (n - 1) list long i 1 h, get_or-take (n - 1) v i 0 h))
        (λ i h. rw (d-past i h, mul-zero) (zero-mod m))

    basis : (a : List ℕ) → Basis (of a) d rise stay fall
    unfolding row_at
    basis a = record {
      rise_is = filled_at _ (λ i. get_or d i 0) (n - 1) rise tables.rise_is (λ i h. sym (get_or-take (n - 1) v i 0 h)) d-past;
      stay_is = quotient-at b stay input.rows.b_holds.long tables.stay_is;
      fall_is = quotient-at c fall input.rows.c_holds.long tables.fall_is;
    }

    module _ {current : List ℕ} {i : ℕ} (l : i < n) (h : Decomposing m n v b c p current i) where
      abbrev k : ℕ
      k = n - 1 - i

      pub decompose-step-input : DecomposeRowInput m (get_or p k 0) rise stay fall current (i + 1)
      decompose-step-input =
          let most : n ≤ 128 = input.most in
          let table : Basis (of v) d rise stay fall = basis v in
          let long : n - 1 ≤ length v = input.rows.a_holds.long in
          let rise_long : length rise ≡ 128 = ap length tables.rise_is ∙ filled-length _ (zeros 128) (n - 1) (omega arith) in
          let stay_long : length stay ≡ 128 = ap length tables.stay_is ∙ filled-length _ (zeros 128) (n - 1) (omega arith) in
          record {
            most = input.rows.modulus.greatest;
            p_below = input.curve_holds.below k (omega arith);
            rise_below = λ t. rw (table.rise_is t) (held_below m (n - 1) v pos input.rows.a_holds t);
            stay_below = λ t. rw (table.stay_is t) (mod-lt _ pos);
            fall_below = λ t. rw (table.fall_is t) (mod-lt _ pos);
            current_below = λ t. rw (h.is v long t) (curve-below (of v) _ pos (decompose_state-curve (of v) pos d u i) t);
            rise_long = omega arith;
            stay_long = omega arith;
            current_long = omega arith;
          }

      step_is : (a : List ℕ) → n - 1 ≤ length a
          → Match (filled (basis_entry m (get_or p k 0) rise stay fall current) (i + 1) current) (decompose_state (of a) d u (suc i))
      step_is a r =
          let sized : size (of a) ≡ n = (input-fitting input a r).sized in
          let at : rows (of a) - i ≡ k = omega arith in
          step-matches (of a) pos d u rise stay fall (basis a) (get_or p k 0) i current (omega arith)
          (rw at (sym (get_or-take n p k 0 (omega arith)))) (h.is a r)

      pub decompose-step : {current' : List ℕ}
          → current' ≡ filled (basis_entry m (get_or p k 0) rise stay fall current) (i + 1) current → Decomposing m n v b c p current' (i + 1)
      decompose-step e = record {
        reached = omega arith;
        long = ap length e ∙ filled-length _ current (i + 1) (omega (arith, input.most)) ∙ h.long;
        is = λ a r t. ap (λ s. get_or s t 0) e ∙ step_is a r t ∙ ap (λ j. get_or (decompose_state (of a) d u j) t 0) (sym (add-one i));
      }

  inverts : (a : List ℕ) → Inverts m 0 (n - 1) a v 1 1 → PlainDecompose.InvertsA (of a) d
  unfolding row_at
  inverts a h = record {
    modulus = input.rows.modulus.least;
    inverts = λ i l.
        let g : i < n - 1 = rw (length-take-le (n - 1) a (inverts-long h)) at l in
        rw (← entry-inside (n - 1) a (inverts-long h) i 1 g, get_or-take (n - 1) v i 0 g) (h.inverts i (omega arith) g);
  }

  pub decompose-ends : {current output' : List ℕ} {i : ℕ} → n ≤ i → Decomposing m n v b c p current i
      → output' ≡ filled (λ t. get_or current t 0) n output
      → (a : List ℕ) → Inverts m 0 (n - 1) a v 1 1 → output' ≡ decompose (of a) u ++ drop n output
  unfolding filled plain_decompose
  decompose-ends {current} {output'} {i} l h e a inverses =
      let whole : Fitting (of a) u n = input-fitting input a (inverts-long inverses) in
      let sized : size (of a) ≡ n = whole.sized in
      let done : i ≡ size (of a) = omega (arith, h.reached) in
      let long : length (plain_decompose (of a) d u) ≡ n = (decompose_state-curve (of a) pos d u (size (of a))).long ∙ sized in
      e ∙ ap (λ s. s ++ drop n output) (table-matches current (plain_decompose (of a) d u) n long
      (λ t. h.is a (inverts-long inverses) t ∙ ap (λ j. get_or (decompose_state (of a) d u j) t 0) done)
      ∙ plain_decompose-decompose (of a) d u (inverts a inverses) whole.curve)
