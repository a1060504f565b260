-- The product of the coefficients with the Hankel matrix of the moments, term i the sum over j of p_j and moment i + j: a transposed
-- product, in one list of 511 numbers. The terms stand from place 0 on, the moments from place 128 on, the coefficients from place 383 on.
--   HankelInput   the moments and the coefficients: residues, and at most 128 coefficients
--   Halves        half, rounded up, of the coefficients that are left without the zeros at their end, which may be none
--   Weighed       the terms stand at the front of a list
-- Proved: what each step is handed, and that the terms are those of the product: of the coefficients the first half meets the moments, and
-- the second half the moments from half on. Assumes nothing.
use Rattle.std.specs.Prelude.{◌≡◌, List, ◌++◌, ℕ, ◌+◌, ◌*◌, ◌-◌, ◌/◌, ◌%◌, ◌≤◌, ◌<◌, length, get_or, take, drop, replicate}
use Rattle.std.proofs.Common.{sym, ◌∙◌, ap₂, inl, inr, arith, length-append, length-take-le, get_or-take, drop-drop}
use Rattle.std.proofs.Math.Path.{ap}
use Rattle.std.proofs.Math.Logic.{by_cases}
use Rattle.std.proofs.Math.Decide.{dec_lt}
use Rattle.std.proofs.lemmas.List.{length-replicate}
use Rattle.std.proofs.Math.ListN.{get_or-eq_default}
use Rattle.std.proofs.Math.Seq.{take-append_seam}
use Rattle.definitions.specs.Family.{greatest_modulus}
use Rattle.definitions.specs.Number.{table}
use Rattle.numbers.specs.Lists.{filled, table-equal, table-entries}
use Rattle.numbers.specs.Products.{Below, transposed_at, transposed, transposed_sum, transposed_sum-length}
use Rattle.numbers.specs.Regions.{part, written, ResiduesIn, KeptOutside, part_length, part-entry, part-past, part-residues, part-written}
use Rattle.numbers.specs.Regions.{written-length, written-kept, kept-wider, kept-part, kept-drop}
use Rattle.lists.specs.Held.{Holds, held_below}
use Rattle.convolution.specs.Terms.{transposed-entries, transposed-halves}
use Rattle.products.specs.Places.{Aside, TransposedPlaces, Used}
use Rattle.moment_way.specs.Moments.{Front, front}

pub record HankelInput (m n : ℕ) (ms coefficients : List ℕ) : Type 0 where
  pub positive : 0 < m
  pub most : m ≤ greatest_modulus
  pub least : 1 ≤ n
  pub few : n ≤ 128
  pub moments_long : length ms ≡ 2 * n - 1
  pub moments_below : Below m ms
  pub coefficients_hold : Holds m n coefficients

pub record Halves (used half : ℕ) : Type 0 where
  pub within : half ≤ used
  pub enough : used ≤ half + half
  pub close : half + half ≤ used + 1

pub halves : (used : ℕ) → Halves used (used - used / 2)
halves used = record { within = omega arith; enough = omega arith; close = omega arith }

-- the terms stand at the front of a list
pub record Weighed (m n : ℕ) (u ms list : List ℕ) : Type 0 where
  pub is : take n list ≡ transposed m n u ms
  pub long : n ≤ length list

-- a list written from place 0 on
written-first : {w' : List ℕ} (w xs : List ℕ) (n : ℕ) → length xs ≡ n → w' ≡ written w 0 xs → (take n w' ≡ xs) × (n ≤ length w')
unfolding written
written-first {w'} w xs n e g =
    let behind = drop (0 + length xs) w in
    (ap (take n) g ∙ ap (λ k. take k (xs ++ behind)) (sym e) ∙ take-append_seam xs behind, omega (arith, ap length g, length-append xs behind))

-- what was lent of a list is back
lent_back : (w : List ℕ) (at : ℕ) (xs : List ℕ) (k : ℕ) → length xs ≡ k → take at w ++ (xs ++ drop k (drop at w)) ≡ written w at xs
unfolding written
lent_back w at xs k e = ap (λ t. take at w ++ (xs ++ t)) (drop-drop k at w ∙ ap (λ j. drop (at + j) w) (sym e))

module _ {blank : List ℕ} (z : blank ≡ replicate 511 0) where
  blank-long : length blank ≡ 511
  blank-long = ap length z ∙ length-replicate {A = ℕ} 511 0

  pub moments-room : length (take 255 (drop 128 blank)) ≡ 255
  moments-room = ap (λ b. length (take 255 (drop 128 b))) z

  module _ {m n : ℕ} {ms coefficients : List ℕ} (input : HankelInput m n ms coefficients)
      {moment : List ℕ} (h : moment ≡ ms ++ drop (2 * n - 1) (take 255 (drop 128 blank))) where
    abbrev u : List ℕ
    u = take n coefficients

    u-long : length u ≡ n
    u-long = length-take-le n coefficients input.coefficients_hold.long

    -- ---- the moments and the coefficients, each with zeros behind
    moment_front : Front 255 (2 * n - 1) (λ i. get_or ms i 0) moment
    moment_front = front (ap (λ b. take 255 (drop 128 b)) z) (omega (arith, input.few)) (h
        ∙ ap (λ t. t ++ drop (2 * n - 1) (take 255 (drop 128 blank)))
        (sym (table-entries ms 0) ∙ ap (λ k. table k (λ i. get_or ms i 0)) input.moments_long))

    moment-is : (k : ℕ) → get_or moment k 0 ≡ get_or ms k 0
    moment-is k = by_cases (dec_lt k (2 * n - 1)) (λ l. moment_front.entry k l)
        (λ l. moment_front.past k (omega arith) ∙ sym (get_or-eq_default ms 0 {n = k} (omega (arith, input.moments_long))))

    module _ {lists₁ : List ℕ} (e₁ : lists₁ ≡ take 128 blank ++ (moment ++ drop 255 (drop 128 blank))) where
      first-written : lists₁ ≡ written blank 128 moment
      first-written = e₁ ∙ lent_back blank 128 moment 255 moment_front.long

      first-room : 128 + length moment ≤ length blank
      first-room = omega (arith, moment_front.long, blank-long)

      pub first-long : length lists₁ ≡ 511
      first-long = ap length first-written ∙ written-length blank 128 moment first-room ∙ blank-long

      first-kept : KeptOutside 128 383 blank lists₁
      first-kept = rw first-written
          (kept-wider _ _ _ _ _ _ (omega arith) (omega (arith, moment_front.long)) (written-kept blank 128 moment first-room))

      moments-stand : part lists₁ 128 255 ≡ moment
      moments-stand = ap₂ (λ v k. part v 128 k) first-written (sym moment_front.long) ∙ part-written blank 128 moment first-room

      free : take 128 (drop 383 lists₁) ≡ replicate 128 0
      free = ap (take 128) (kept-drop 128 383 blank lists₁ first-kept 383 (omega arith)) ∙ ap (λ b. take 128 (drop 383 b)) z

      pub hankel-copy : (n ≤ length coefficients) × (n ≤ length (take 128 (drop 383 lists₁)))
      hankel-copy = (input.coefficients_hold.long, omega (arith, ap length free, length-replicate {A = ℕ} 128 0, input.few))

      module _ {copied : List ℕ} (d : copied ≡ filled (λ i. get_or coefficients i 0) n (take 128 (drop 383 lists₁)))
          {lists₂ : List ℕ} (e₂ : lists₂ ≡ take 383 lists₁ ++ (copied ++ drop 128 (drop 383 lists₁))) where
        copied_front : Front 128 n (λ i. get_or coefficients i 0) copied
        unfolding filled
        copied_front = front free input.few d

        copied_is : (k : ℕ) → get_or copied k 0 ≡ get_or u k 0
        copied_is k = by_cases (dec_lt k n) (λ l. copied_front.entry k l ∙ sym (get_or-take n coefficients k 0 l))
            (λ l. copied_front.past k (omega arith) ∙ sym (get_or-eq_default u 0 {n = k} (omega (arith, u-long))))

        second-written : lists₂ ≡ written lists₁ 383 copied
        second-written = e₂ ∙ lent_back lists₁ 383 copied 128 copied_front.long

        second-room : 383 + length copied ≤ length lists₁
        second-room = omega (arith, copied_front.long, first-long)

        second-kept : KeptOutside 383 511 lists₁ lists₂
        second-kept = rw second-written
            (kept-wider _ _ _ _ _ _ (omega arith) (omega (arith, copied_front.long)) (written-kept lists₁ 383 copied second-room))

        pub second-long : length lists₂ ≡ 511
        second-long = second-kept.long ∙ first-long

        coefficients-hold : part lists₂ 383 128 ≡ copied
        coefficients-hold = ap₂ (λ v k. part v 383 k) second-written (sym copied_front.long) ∙ part-written lists₁ 383 copied second-room

        moments-hold : part lists₂ 128 255 ≡ moment
        moments-hold = kept-part 383 511 lists₁ lists₂ second-kept 128 255 (inl (omega arith)) ∙ moments-stand

        coefficient-at : (k : ℕ) → k < 128 → get_or lists₂ (383 + k) 0 ≡ get_or copied k 0
        coefficient-at k l = sym (part-entry lists₂ 383 128 k l) ∙ ap (λ t. get_or t k 0) coefficients-hold

        moment-at : (k : ℕ) → k < 255 → get_or lists₂ (128 + k) 0 ≡ get_or moment k 0
        moment-at k l = sym (part-entry lists₂ 128 255 k l) ∙ ap (λ t. get_or t k 0) moments-hold

        coefficients-below : ResiduesIn m lists₂ 383 (383 + 128)
        coefficients-below = part-residues m lists₂ 383 128 copied coefficients-hold
            (λ k. rw (copied_is k) (held_below m n coefficients input.positive input.coefficients_hold k))

        moments-below : ResiduesIn m lists₂ 128 (128 + 255)
        moments-below = part-residues m lists₂ 128 255 moment moments-hold (λ k. rw (moment-is k) (input.moments_below k))

        -- a part of the coefficients or of the moments
        beside : (lo k at c : ℕ) → ResiduesIn m lists₂ lo (lo + k) → 128 ≤ lo → lo + k ≤ 511 → lo ≤ at → at + c ≤ lo + k
            → Aside m lists₂ 0 (0 + n) at c
        beside lo k at c below p q r s = record {
          source = record { inside = omega (arith, second-long); below = λ i x y. below i (omega arith) (omega arith) };
          apart = inr (omega (arith, input.few));
        }

        pub hankel-used : (383 + n ≤ length lists₂) × (383 + n ≤ length lists₂)
        hankel-used = (omega (arith, second-long, input.few), omega (arith, second-long, input.few))

        module _ {used half : ℕ} (left : Used lists₂ 383 383 n used) (halves : Halves used half) where
          pub hankel-places : TransposedPlaces m lists₂ 0 n 383 (383 + half) half 128 (128 + half) (n + half - 1)
          hankel-places =
              let few : n ≤ 128 = input.few in
              let some : used ≤ n = left.within in
              let two : half + half ≤ used + 1 = halves.close in
              record {
                least = input.positive;
                most = input.most;
                room = omega (arith, second-long);
                p_aside = beside 383 128 383 half coefficients-below (omega arith) (omega arith) (omega arith) (omega arith);
                q_aside = beside 383 128 (383 + half) half coefficients-below (omega arith) (omega arith) (omega arith) (omega arith);
                v_aside = beside 128 255 128 (n + half - 1) moments-below (omega arith) (omega arith) (omega arith) (omega arith);
                u_aside = beside 128 255 (128 + half) (n + half - 1) moments-below (omega arith) (omega arith) (omega arith) (omega arith);
              }

          abbrev summed : List ℕ
          summed = transposed_sum m n (part lists₂ 383 half) (part lists₂ 128 (n + half - 1)) (part lists₂ (383 + half) half)
              (part lists₂ (128 + half) (n + half - 1))

          -- the coefficients without the zeros at their end have their entries
          used-entry : (k : ℕ) → get_or (part lists₂ 383 used) k 0 ≡ get_or copied k 0
          used-entry k = left.p_same k ∙ by_cases (dec_lt k n)
              (λ l. part-entry lists₂ 383 n k l ∙ coefficient-at k (omega (arith, input.few)))
              (λ l. part-past lists₂ 383 n k (omega arith) ∙ sym (copied_front.past k (omega arith)))

          module _ (i : ℕ) (l : i < n) where
            abbrev term : ℕ → ℕ
            term j = get_or (part lists₂ 383 used) j 0 * get_or moment (i + j) 0

            first-half : (j : ℕ) → j < half → get_or (part lists₂ 383 half) j 0 * get_or (part lists₂ 128 (n + half - 1)) (i + j) 0 ≡ term j
            first-half j g = ap₂ ◌*◌
                (part-entry lists₂ 383 half j g ∙ sym (part-entry lists₂ 383 used j (omega (arith, halves.within))))
                (part-entry lists₂ 128 (n + half - 1) (i + j) (omega arith)
                ∙ moment-at (i + j) (omega (arith, left.within, halves.within, input.few)))

            second-half : (j : ℕ) → j < half
                → get_or (part lists₂ (383 + half) half) j 0 * get_or (part lists₂ (128 + half) (n + half - 1)) (i + j) 0 ≡ term (half + j)
            second-half j g =
                let x : 383 + half + j ≡ 383 + (half + j) = omega arith in
                let y : 128 + half + (i + j) ≡ 128 + (i + (half + j)) = omega arith in
                ap₂ ◌*◌
                (part-entry lists₂ (383 + half) half j g ∙ ap (λ k. get_or lists₂ k 0) x
                ∙ coefficient-at (half + j) (omega (arith, left.within, halves.close, input.few)) ∙ sym (used-entry (half + j)))
                (part-entry lists₂ (128 + half) (n + half - 1) (i + j) (omega arith) ∙ ap (λ k. get_or lists₂ k 0) y
                ∙ moment-at (i + (half + j)) (omega (arith, left.within, halves.close, input.few)))

            term_is : transposed_at (part lists₂ 383 half) (part lists₂ 128 (n + half - 1)) i
                + transposed_at (part lists₂ (383 + half) half) (part lists₂ (128 + half) (n + half - 1)) i ≡ transposed_at u ms i
            term_is =
                transposed-halves (part lists₂ 383 used) moment (part lists₂ 383 half) (part lists₂ 128 (n + half - 1))
                (part lists₂ (383 + half) half) (part lists₂ (128 + half) (n + half - 1)) i half
                (omega (arith, part_length lists₂ 383 used, halves.enough)) (omega (arith, part_length lists₂ 383 half))
                (omega (arith, part_length lists₂ (383 + half) half)) first-half second-half
                ∙ transposed-entries (part lists₂ 383 used) u moment ms i (λ k. used-entry k ∙ copied_is k) moment-is

          hankel-is : summed ≡ transposed m n u ms
          unfolding transposed_sum transposed
          hankel-is = table-equal n _ _ (λ i l. ap (λ s. s % m) (term_is i l))

          pub hankel-weighed : {list : List ℕ} → list ≡ written lists₂ 0 summed → Weighed m n u ms list
          hankel-weighed g =
              let there = written-first lists₂ summed n (transposed_sum-length m n _ _ _ _) g in
              record { is = there.0 ∙ hankel-is; long = there.1 }
