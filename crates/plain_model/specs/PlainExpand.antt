-- Expand downwards, Clenshaw's way, is Expand.
--   partial R ρ u k i   B_k for the i - 1 terms u_k, u_{k+1}, ..: 0 for i = 0 and 1, then
--                       u_k + (a_{k+1} x + b_{k+1}) partial (k+1) (i-1) + c_{k+2} partial (k+2) (i-2)
-- Proves over any ring that u_k P_k + .. + u_{k+i-1} P_{k+i-1} = B_k P_k + c_{k+1} B_{k+1} P_{k-1}, in the ring of power series, and
-- hence that B_0 is the combination of u; then that the plain model's lists are these B_k, so that its answer is Expand's, for
-- every modulus but 0, every family and every list. Assumes nothing.
use Rattle.std.specs.Prelude.{◌≡◌, List, [], ◌∷◌, get_or}
use Rattle.std.proofs.Math.Path.{refl, sym, ap}
use Rattle.std.proofs.Common.{◌∙◌, ap₂, add-zero, zero-add}
use Prim.Native.Nat.{ℕ, zero, suc, ◌<◌, ◌≤◌, ◌+◌ as ◌+ℕ◌, ◌-◌ as ◌-ℕ◌}
use native.Mathlib.Omega.{arith}
use Rattle.algebra.specs.Residues.{Zmod, res, res-zero, res-add, res-mul, res-mod}
use Rattle.algebra.specs.Ring
use Rattle.algebra.specs.Ring.{CommRing}
use Rattle.algebra.specs.Series.{Ser, co, co-zero, co-sum}
use Rattle.algebra.specs.Solver.{ring, reify}
use Rattle.algebra.specs.Sum.{sum, sum-empty, sum_first, sum-cong}
use Rattle.algebra.specs.Variable.{C, X, co-C-mul, coefficients}
use Rattle.definitions.specs.Conversion.{expand}
use Rattle.definitions.specs.Family.{Family, rows, size, row_at, times_x}
use Rattle.theory.specs.Bridge.{entries, rows_of, entries-expand, expand-curve}
use Rattle.theory.specs.Combination.{combination}
use Rattle.theory.specs.Recurrence.{Rows, poly, poly-zero, poly-one, poly-step, co-poly}
use Rattle.theory.specs.Curves.{curves-equal-residues}
use Rattle.plain_model.specs.Entries.{Holding, entries-zeros, entries-table, entry_zero}
use Rattle.plain_model.specs.PlainModels.{State, zeros, constant, expand_entry, expand_step}
use Rattle.plain_model.specs.PlainModels.{expand_state, plain_expand, expand_state-curves}

module _ (R : CommRing) (ρ : Rows R) (u : ℕ → R.Car) where
  open R use {Car, zero as 𝟘}
  open Ser R use {Car as Series, zero as 0#, add as ◌+◌, mul as ◌*◌}

  infixl 65 ◌+◌
  infixl 70 ◌*◌
  unfoldable pub partial : ℕ → ℕ → Series
  partial k zero = 0#
  partial k (suc zero) = 0#
  partial k (suc (suc i)) = C R (u k) + C R (ρ.a k) * (X R * partial (suc k) (suc i)) + C R (ρ.b k) * partial (suc k) (suc i)
      + C R (ρ.c (suc k)) * partial (suc (suc k)) i

  pub partial-step : (k i : ℕ)
      → partial k (suc (suc i)) ≡ C R (u k) + C R (ρ.a k) * (X R * partial (suc k) (suc i)) + C R (ρ.b k) * partial (suc k) (suc i)
      + C R (ρ.c (suc k)) * partial (suc (suc k)) i
  unfolding partial
  partial-step k i = refl

  -- the i terms from u_k on
  abbrev tail : ℕ → ℕ → Series
  tail k i = sum (Ser R) i (λ j. C R (u (k +ℕ j)) * poly R ρ (suc (k +ℕ j)))

  partial-none : (k : ℕ) → tail k 0 ≡ partial k 1 * poly R ρ (suc k) + C R (ρ.c k) * partial (suc k) 0 * poly R ρ k
  unfolding partial
  partial-none k = sum-empty (Ser R) (λ j. C R (u (k +ℕ j)) * poly R ρ (suc (k +ℕ j)))
      ∙ ring (Ser R) (poly R ρ (suc k) ∷ C R (ρ.c k) ∷ poly R ρ k ∷ []) (search reify depth 20) tt

  tail-first : (k i : ℕ) → tail k (suc i) ≡ C R (u k) * poly R ρ (suc k) + tail (suc k) i
  tail-first k i = sum_first (Ser R) i (λ j. C R (u (k +ℕ j)) * poly R ρ (suc (k +ℕ j)))
      ∙ ap₂ ◌+◌ (ap (λ t. C R (u t) * poly R ρ (suc t)) (add-zero k))
      (sum-cong (Ser R) i (λ j h. ap (λ t. C R (u t) * poly R ρ (suc t)) (omega arith)))

  pub partial-sum : (k i : ℕ) → tail k i ≡ partial k (suc i) * poly R ρ (suc k) + C R (ρ.c k) * partial (suc k) i * poly R ρ k
  partial-sum k zero = partial-none k
  partial-sum k (suc i) = tail-first k i ∙ ap (λ s. C R (u k) * poly R ρ (suc k) + s) (partial-sum (suc k) i)
      ∙ rw (poly-step R ρ k, partial-step k i)
      (ring (Ser R) (C R (u k) ∷ C R (ρ.a k) ∷ C R (ρ.b k) ∷ C R (ρ.c k) ∷ C R (ρ.c (suc k)) ∷ X R ∷ partial (suc k) (suc i)
      ∷ partial (suc (suc k)) i ∷ poly R ρ k ∷ poly R ρ (suc k) ∷ []) (search reify depth 20) tt)

  -- B_0 is the whole combination
  pub partial-combination : (n i : ℕ) → co R (partial 0 (suc n)) i ≡ combination R ρ n u i
  partial-combination n i = ap (λ s. co R s i) (sym whole) ∙ co-sum R n (λ j. C R (u (0 +ℕ j)) * poly R ρ (suc (0 +ℕ j))) i
      ∙ sum-cong R n (λ j h. simp (zero-add, co-C-mul R, co-poly R))
    where
      whole : tail 0 n ≡ partial 0 (suc n)
      whole = partial-sum 0 n ∙ rw (poly-zero R ρ, poly-one R ρ)
          (ring (Ser R) (partial 0 (suc n) ∷ C R (ρ.c 0) ∷ partial 1 n ∷ []) (search reify depth 20) tt)

  pub partial-degree : (k i t : ℕ) → i ≤ suc t → co R (partial k i) t ≡ 𝟘
  unfolding partial
  partial-degree k zero t h = co-zero R t
  partial-degree k (suc zero) t h = co-zero R t
  partial-degree k (suc (suc i)) zero h = absurd (omega arith)
  partial-degree k (suc (suc i)) (suc t) h =
      let low = partial-degree (suc k) (suc i) t (omega arith) in
      let same = partial-degree (suc k) (suc i) (suc t) (omega arith) in
      let last = partial-degree (suc (suc k)) i (suc t) (omega arith) in
      simp (coefficients, low, same, last, Ring.mul-zero R, R.add-zero)

-- ---- the model's lists are these B_k
module _ (f : Family) (pos : 0 < f.m) where
  abbrev m : ℕ
  m = f.m

  abbrev Q : CommRing
  Q = Zmod m pos

  abbrev ρ : Rows Q
  ρ = rows_of f pos

  open Ser Q use {Car as Series, add as ◌+◌, mul as ◌*◌}

  infixl 65 ◌+◌
  infixl 70 ◌*◌
  abbrev ι : ℕ → Q.Car
  ι = res m pos

  abbrev E : List ℕ → ℕ → Q.Car
  E = entries m pos

  entry-series : (y a b c : ℕ) (current older : List ℕ) (s t : Series) → ((i : ℕ) → E current i ≡ co Q s i)
      → ((i : ℕ) → E older i ≡ co Q t i)
      → (i : ℕ) → ι (expand_entry m y a b c current older i)
      ≡ co Q (C Q (ι y) + C Q (ι a) * (X Q * s) + C Q (ι b) * s + C Q (ι c) * t) i
  unfolding expand_entry constant times_x
  entry-series y a b c current older s t p q zero =
      simp (res-mod m pos, res-add m pos, res-mul m pos, res-zero m pos, p, q, coefficients)
  entry-series y a b c current older s t p q (suc i) =
      simp (res-mod m pos, res-add m pos, res-mul m pos, res-zero m pos, p, q, coefficients)

  module _ (u : List ℕ) where
    abbrev B : ℕ → ℕ → Series
    B = partial Q ρ (E u)

    -- the lists of the state after i steps are B_k and B_{k+1}
    abbrev Holds : State → ℕ → ℕ → Type 0
    Holds s k i = Holding m pos s (co Q (B k (suc i))) (co Q (B (suc k) i))

    zeros-partial : (k i t : ℕ) → i ≤ 1 → E (zeros (size f)) t ≡ co Q (B k i) t
    zeros-partial k i t h = entries-zeros m pos (size f) t ∙ sym (partial-degree Q ρ (E u) k i t (omega arith))

    expand_step-partial : (i k : ℕ) (s : State) → suc i ≤ size f → Holds s (suc k) i → Holds (expand_step f u k s) k (suc i)
    unfolding expand_step
    expand_step-partial i k s h e = record {
      current_holds = entries-table m pos (size f) _ (co Q (B k (suc (suc i))))
          (λ t l. entry-series (get_or u k 0) (row_at f k).a (row_at f k).b (row_at f (suc k)).c s.current s.older
          (B (suc k) (suc i)) (B (suc (suc k)) i) e.current_holds e.older_holds t
          ∙ ap (λ p. co Q p t) (sym (partial-step Q ρ (E u) k i)))
          (λ t l. partial-degree Q ρ (E u) k (suc (suc i)) t (omega arith));
      older_holds = e.current_holds;
    }

    expand_state-partial : (i k : ℕ) → k +ℕ i ≡ size f → Holds (expand_state f u i) k i
    unfolding expand_state
    expand_state-partial zero k e =
        record { current_holds = λ t. zeros-partial k 1 t (omega arith); older_holds = λ t. zeros-partial (suc k) 0 t (omega arith) }
    expand_state-partial (suc i) k e =
        let here : rows f -ℕ i ≡ k = omega arith in
        rw here (expand_step-partial i k (expand_state f u i) (omega arith) (expand_state-partial i (suc k) (omega arith)))

    -- after i steps nothing stands from place i on, so a loop may stop there
    pub expand_state-ends : (i t : ℕ) → i ≤ size f → i ≤ t → get_or (expand_state f u i).current t 0 ≡ 0
    expand_state-ends i t b h = entry_zero f pos (expand_state f u i).current (expand_state-curves f pos u i).current_curve t
        ((expand_state-partial i (size f -ℕ i) (omega arith)).current_holds t ∙ partial-degree Q ρ (E u) (size f -ℕ i) (suc i) t (omega arith))

    pub plain_expand-expand : plain_expand f u ≡ expand f u
    unfolding plain_expand
    plain_expand-expand = curves-equal-residues f (plain_expand f u) (expand f u) (expand_state-curves f pos u (size f)).current_curve
        (expand-curve f pos u) pos
        (λ i h. (expand_state-partial (size f) 0 (zero-add (size f))).current_holds i ∙ partial-combination Q ρ (E u) (size f) i
        ∙ sym (entries-expand f pos u i h))
