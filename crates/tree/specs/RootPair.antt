-- Adjoint's first step: the pair of the transposed products of the curve with F_0 = 1 and F_1 = b + a x, in the working list. The first is the
-- curve. For the second F_1 stands behind the pair, and behind it the curve from its second entry on, which a meets.
--   root_lists                the pair
--   stretched n k u           the entries of u from place k on, and zeros behind them, n in all;  StretchInput  what it is made of
--   PairInput, PairOutput     what the step is handed, and what it leaves
-- Proved: each part is handed what it requires, and the lists that are written are those of the pair. Assumes nothing.
use Rattle.std.specs.Prelude.{◌≡◌, List, [], ◌∷◌, ◌++◌, ◌⊎◌, take}
use Rattle.std.proofs.Math.Path.{sym, ap, ap₂}
use Rattle.std.proofs.Common.{◌∙◌, inl, inr, add-zero, zero-add, arith, length-append}
use Prim.Native.Nat.{ℕ, zero, suc, ◌+◌, ◌*◌, ◌%◌, ◌≤◌, ◌<◌}
use Rattle.std.proofs.Math.Decide.{dec_lt}
use Rattle.std.proofs.Math.Nat.{one-mul, mod-eq_of_lt}
use Rattle.std.proofs.Math.ListN.{length, get_or, get_or-eq_default}
use Rattle.std.proofs.Math.Seq.{length-take-le}
use Rattle.definitions.specs.Family.{Modulus}
use Rattle.definitions.specs.Number.{sum, table}
use Rattle.lists.specs.Held.{Holds, held_below}
use Rattle.numbers.specs.Lists.{table-length, table-entry, table-past, table-equal}
use Rattle.numbers.specs.Regions.{part, written, Apart, ResiduesIn, KeptOutside, part_length, part-entry, part-residues, part-both}
use Rattle.numbers.specs.Regions.{part-written, written-kept, kept-wider, kept_then, kept-part, Writing, writing-ends}
use Rattle.numbers.specs.Products.{Below, transposed_at, transposed, transposed_sum, table-all-below}
use Rattle.numbers.specs.Products.{transposed-length, transposed_sum-length}
use Rattle.tree_model.specs.Tree.{Pair, F₀}
use Rattle.convolution.specs.Terms.{transposed-halves}
use Rattle.products.specs.Places.{Aside, TransposedPlaces}
use Rattle.subproduct.specs.Layout.{pair_list}

unfoldable pub root_lists : ℕ → ℕ → List ℕ → List ℕ → Pair
root_lists m n first u = record { v0 = transposed m n F₀ u; v1 = transposed m n first u }

unfoldable pub stretched : ℕ → ℕ → List ℕ → List ℕ
stretched n first u = table n (λ i. get_or u (first + i) 0)

pub record StretchInput (curve : List ℕ) (n first : ℕ) (w : List ℕ) (at span : ℕ) : Type 0 where
  pub long : n ≤ length curve
  pub few : first ≤ 1
  pub room : at + span ≤ length w

pub stretch-ends : (u : List ℕ) (first : ℕ) {w₀ w : List ℕ} {at n i : ℕ} → Writing w₀ at n (λ i. get_or u (first + i) 0) w i → n ≤ i
    → w ≡ written w₀ at (stretched n first u)
unfolding stretched
stretch-ends u first h l = writing-ends _ _ _ _ _ _ h l

pub record PairInput (m b a : ℕ) (curve : List ℕ) (n : ℕ) (w : List ℕ) (at span : ℕ) : Type 0 where
  pub modulus : Modulus m
  pub b_below : b < m
  pub a_below : a < m
  pub curve_holds : Holds m n curve
  pub covers : n ≤ span
  pub room : at + span + span + 2 + span ≤ length w

pub record PairOutput (m b a : ℕ) (u w : List ℕ) (at span : ℕ) (w' : List ℕ) : Type 0 where
  pub holds : part w' at (span + span) ≡ pair_list (root_lists m span (b ∷ a ∷ []) u)
  pub kept : KeptOutside at (at + span + span + 2 + span) w w'

module _ {m b a : ℕ} {curve : List ℕ} {n : ℕ} {w : List ℕ} {at span : ℕ} (h : PairInput m b a curve n w at span) where
  abbrev u : List ℕ
  u = take n curve

  abbrev first : List ℕ
  first = b ∷ a ∷ []

  abbrev behind : ℕ
  behind = at + span + span

  abbrev onward : ℕ
  onward = behind + 2

  pair-positive : 0 < m
  pair-positive = omega (arith, h.modulus.least)

  curve-below : Below m u
  curve-below = held_below m n curve pair-positive h.curve_holds

  stretched-length : (k : ℕ) → length (stretched span k u) ≡ span
  unfolding stretched
  stretched-length k = table-length span _

  stretched-below : (k : ℕ) → Below m (stretched span k u)
  unfolding stretched
  stretched-below k = table-all-below m span _ pair-positive (λ i _. curve-below (k + i))

  -- the curve has no entry past span
  stretched-entry : (k i : ℕ) → get_or (stretched span k u) i 0 ≡ get_or u (k + i) 0
  unfolding stretched
  stretched-entry k i = by (dec_lt i span)
    where
      by : Dec (i < span) → get_or (table span (λ i. get_or u (k + i) 0)) i 0 ≡ get_or u (k + i) 0
      by (yes l) = table-entry span _ i 0 l
      by (no l) =
          let short = length-take-le n curve h.curve_holds.long in
          table-past span _ i 0 (omega arith) ∙ sym (get_or-eq_default u 0 {n = k + i} (omega (arith, h.covers)))

  first_below : Below m first
  first_below zero = h.b_below
  first_below (suc zero) = h.a_below
  first_below (suc (suc i)) = pair-positive

  -- F_0 is 1, and its transposed product is the curve
  zeroth-is : stretched span 0 u ≡ transposed m span F₀ u
  unfolding stretched transposed transposed_at sum
  zeroth-is = table-equal span _ _ (λ i l. ap (λ k. get_or u k 0) (zero-add i)
      ∙ sym (ap (λ x. x % m) (zero-add _ ∙ one-mul _ ∙ ap (λ k. get_or u k 0) (add-zero i)) ∙ mod-eq_of_lt (curve-below i)))

  pub pair-stretch : StretchInput curve n 0 w at span
  pair-stretch = record { long = h.curve_holds.long; few = omega arith; room = omega (arith, h.room) }

  module _ {w₁ : List ℕ} (e₁ : w₁ ≡ written w at (stretched span 0 u)) where
    stretch-room : at + length (stretched span 0 u) ≤ length w
    stretch-room = omega (arith, stretched-length 0, h.room)

    stretch-kept : KeptOutside at (at + span) w w₁
    stretch-kept = rw e₁ (kept-wider _ _ _ _ _ _ (omega arith) (omega (arith, stretched-length 0))
        (written-kept w at (stretched span 0 u) stretch-room))

    pub pair-store : behind + 2 ≤ length w₁
    pair-store = omega (arith, stretch-kept.long, h.room)

    module _ {w₂ : List ℕ} (e₂ : w₂ ≡ written w₁ behind first) where
      store_kept : KeptOutside behind (behind + 2) w₁ w₂
      store_kept = rw e₂ (written-kept w₁ behind first pair-store)

      pub pair-onward : StretchInput curve n 1 w₂ onward span
      pair-onward = record {
        long = h.curve_holds.long;
        few = omega arith;
        room = omega (arith, store_kept.long, stretch-kept.long, h.room);
      }

      module _ {w₃ : List ℕ} (e₃ : w₃ ≡ written w₂ onward (stretched span 1 u)) where
        onward-room : onward + length (stretched span 1 u) ≤ length w₂
        onward-room = omega (arith, stretched-length 1, pair-onward.room)

        onward-kept : KeptOutside onward (onward + span) w₂ w₃
        onward-kept = rw e₃ (kept-wider _ _ _ _ _ _ (omega arith) (omega (arith, stretched-length 1))
            (written-kept w₂ onward (stretched span 1 u) onward-room))

        all-long : length w₃ ≡ length w
        all-long = onward-kept.long ∙ store_kept.long ∙ stretch-kept.long

        list-holds : part w₃ at span ≡ stretched span 0 u
        list-holds = kept-part onward (onward + span) w₂ w₃ onward-kept at span (inl (omega arith))
            ∙ kept-part behind (behind + 2) w₁ w₂ store_kept at span (inl (omega arith))
            ∙ ap₂ (λ v k. part v at k) e₁ (sym (stretched-length 0)) ∙ part-written w at (stretched span 0 u) stretch-room

        first_holds : part w₃ behind 2 ≡ first
        first_holds = kept-part onward (onward + span) w₂ w₃ onward-kept behind 2 (inl (omega arith))
            ∙ ap (λ v. part v behind 2) e₂ ∙ part-written w₁ behind first pair-store

        onward-holds : part w₃ onward span ≡ stretched span 1 u
        onward-holds = ap₂ (λ v k. part v onward k) e₃ (sym (stretched-length 1)) ∙ part-written w₂ onward (stretched span 1 u) onward-room

        aside : (lo k p c : ℕ) → ResiduesIn m w₃ lo (lo + k) → (lo + k ≤ at + span) ⊎ (behind ≤ lo) → lo + k ≤ length w₃
            → lo ≤ p → p + c ≤ lo + k → Aside m w₃ (at + span) (at + span + span) p c
        aside lo k p c below apart room a b = record {
          source = record { inside = omega arith; below = λ i x y. below i (omega arith) (omega arith) };
          apart = narrower apart;
        }
          where
            narrower : (lo + k ≤ at + span) ⊎ (behind ≤ lo) → Apart (at + span) (at + span + span) p c
            narrower (inl l) = inl (omega arith)
            narrower (inr l) = inr (omega arith)

        first-aside : (p : ℕ) → behind ≤ p → p + 1 ≤ behind + 2 → Aside m w₃ (at + span) (at + span + span) p 1
        first-aside p l g = aside behind 2 p 1 (part-residues m w₃ behind 2 first first_holds first_below) (inr (omega arith))
            (omega (arith, all-long, h.room)) l g

        pub pair-places : TransposedPlaces m w₃ (at + span) span behind (behind + 1) 1 at onward span
        pair-places = record {
          least = pair-positive;
          most = h.modulus.greatest;
          room = omega (arith, all-long, h.room);
          p_aside = first-aside behind (omega arith) (omega arith);
          q_aside = first-aside (behind + 1) (omega arith) (omega arith);
          v_aside = aside at span at span (part-residues m w₃ at span (stretched span 0 u) list-holds (stretched-below 0)) (inl (omega arith))
              (omega (arith, all-long, h.room)) (omega arith) (omega arith);
          u_aside = aside onward span onward span (part-residues m w₃ onward span (stretched span 1 u) onward-holds (stretched-below 1))
              (inr (omega arith)) (omega (arith, all-long, h.room)) (omega arith) (omega arith);
        }

        abbrev summed : List ℕ
        summed = transposed_sum m span (part w₃ behind 1) (part w₃ at span) (part w₃ (behind + 1) 1) (part w₃ onward span)

        first_entry : (k : ℕ) → k < 2 → get_or w₃ (behind + k) 0 ≡ get_or first k 0
        first_entry k l = sym (part-entry w₃ behind 2 k l) ∙ ap (λ t. get_or t k 0) first_holds

        first-is : summed ≡ transposed m span first u
        unfolding transposed_sum transposed
        first-is = table-equal span _ _ (λ i l. ap (λ x. x % m)
            (transposed-halves first u (part w₃ behind 1) (part w₃ at span) (part w₃ (behind + 1) 1) (part w₃ onward span) i 1
            (omega arith) (omega (arith, part_length w₃ behind 1)) (omega (arith, part_length w₃ (behind + 1) 1))
            (lower i) (upper i)))
          where
            lower : (i j : ℕ) → j < 1
                → get_or (part w₃ behind 1) j 0 * get_or (part w₃ at span) (i + j) 0 ≡ get_or first j 0 * get_or u (i + j) 0
            lower i zero l =
                ap₂ ◌*◌ (part-entry w₃ behind 1 0 (omega arith) ∙ first_entry 0 (omega arith))
                (ap (λ t. get_or t (i + 0) 0) list-holds ∙ stretched-entry 0 (i + 0) ∙ ap (λ k. get_or u k 0) (zero-add (i + 0)))
            lower i (suc j) l = absurd (omega arith)

            upper : (i j : ℕ) → j < 1
                → get_or (part w₃ (behind + 1) 1) j 0 * get_or (part w₃ onward span) (i + j) 0 ≡ get_or first (1 + j) 0 * get_or u (i + (1 + j)) 0
            upper i zero l =
                let d : behind + 1 + 0 ≡ behind + 1 = omega arith in
                let e : 1 + (i + 0) ≡ i + (1 + 0) = omega arith in
                ap₂ ◌*◌ (part-entry w₃ (behind + 1) 1 0 (omega arith) ∙ ap (λ k. get_or w₃ k 0) d ∙ first_entry 1 (omega arith))
                (ap (λ t. get_or t (i + 0) 0) onward-holds ∙ stretched-entry 1 (i + 0) ∙ ap (λ k. get_or u k 0) e)
            upper i (suc j) l = absurd (omega arith)

        pub pair-output : {w₄ : List ℕ} → w₄ ≡ written w₃ (at + span) summed → PairOutput m b a u w at span w₄
        unfolding pair_list root_lists
        pair-output {w₄} e₄ = record {
          holds = ap (part w₄ at) both_long ∙ part-both w₄ at (transposed m span F₀ u) (transposed m span first u) zeroth-holds first-there;
          kept = kept_then at (onward + span) w w₁ w₄ (kept-wider _ _ _ _ _ _ (omega arith) (omega arith) stretch-kept)
              (kept_then at (onward + span) w₁ w₂ w₄ (kept-wider _ _ _ _ _ _ (omega arith) (omega arith) store_kept)
              (kept_then at (onward + span) w₂ w₃ w₄ (kept-wider _ _ _ _ _ _ (omega arith) (omega arith) onward-kept)
              (kept-wider _ _ _ _ _ _ (omega arith) (omega (arith, summed-length)) last-kept)));
        }
          where
            summed-length : length summed ≡ span
            summed-length = transposed_sum-length m span _ _ _ _

            last-room : at + span + length summed ≤ length w₃
            last-room = omega (arith, summed-length, all-long, h.room)

            last-kept : KeptOutside (at + span) (at + span + length summed) w₃ w₄
            last-kept = rw e₄ (written-kept w₃ (at + span) summed last-room)

            zeroth-length : length (transposed m span F₀ u) ≡ span
            zeroth-length = transposed-length m span F₀ u

            first-length : length (transposed m span first u) ≡ span
            first-length = transposed-length m span first u

            both_long : span + span ≡ length (transposed m span F₀ u ++ transposed m span first u)
            both_long = sym (length-append (transposed m span F₀ u) (transposed m span first u) ∙ ap₂ ◌+◌ zeroth-length first-length)

            zeroth-holds : part w₄ at (length (transposed m span F₀ u)) ≡ transposed m span F₀ u
            zeroth-holds = ap (part w₄ at) zeroth-length
                ∙ kept-part (at + span) (at + span + length summed) w₃ w₄ last-kept at span (inl (omega arith)) ∙ list-holds ∙ zeroth-is

            first-there : part w₄ (at + length (transposed m span F₀ u)) (length (transposed m span first u)) ≡ transposed m span first u
            first-there = ap₂ (λ x y. part w₄ (at + x) y) zeroth-length (first-length ∙ sym summed-length)
                ∙ ap (λ v. part v (at + span) (length summed)) e₄ ∙ part-written w₃ (at + span) summed last-room ∙ first-is
