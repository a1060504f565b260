-- The root of the tree: its level, and Expand's last step.
--   LevelOf n level                level is that of the least tree that covers n rows
--   CoefficientInput, RootInput    of the last step of Expand, v_0 F_0 + v_1 F_1;  root_entry  its coefficient of x^k
-- Proved: what the leading zeros of n - 1 say of the level; the product is handed what it requires, and what is written is Expand's last
-- sum. Assumes nothing.
use Rattle.std.specs.Prelude.{◌≡◌, refl, List, [], ◌∷◌, ◌++◌, ℕ, zero, suc, ◌+◌, ◌*◌, ◌-◌, ◌%◌, ◌^◌, ◌≤◌, ◌<◌, length, drop}
use Rattle.std.proofs.Common.{sym, ◌∙◌, one-mul, zero-add, mod-eq_of_lt, arith}
use Rattle.std.proofs.Math.Path.{ap, ap₂}
use Rattle.std.proofs.Math.Nat.{two-pow-succ}
use Rattle.std.specs.Int.Count.{count_leading_zeros}
use Rattle.std.proofs.lemmas.Nat.{leading_top}
use Rattle.std.proofs.Math.ListN.{get_or}
use Rattle.definitions.specs.Family.{Modulus}
use Rattle.tree_model.specs.Level.{span, span-power, span-two, span-mono, level_for}
use Rattle.tree_model.proofs.Level.{level-covers, level-least, level-most, level-unique}
use Rattle.numbers.specs.Lists.{Filling, filled, filling-stop}
use Rattle.numbers.specs.Regions.{part, ResiduesIn}
use Rattle.numbers.specs.Products.{Below, product_at, plus_product}
use Rattle.convolution.specs.Coefficients.{ProductsInput, product-one}
use Rattle.products.specs.Places.{Source, slice, slice-part, slice-below, slice-length}
use Rattle.subproduct.specs.Layout.{Level}

-- ---- the level
pub record LevelOf (n level : ℕ) : Type 0 where
  pub is : level ≡ level_for n
  pub most : level ≤ 7
  pub reaches : n ≤ span level
  pub few : span level ≤ 256

pub record Leading (n : ℕ) : Type 0 where
  pub zeros : count_leading_zeros 32 (n - 1) ≤ 31
  pub level : LevelOf n (31 - count_leading_zeros 32 (n - 1))

pub leading-level : (n : ℕ) → 2 ≤ n → n ≤ 256 → Leading n
unfolding span
leading-level n h l = of (leading_top 32 (n - 1) (omega arith) (omega arith))
  where
    of : (j : ℕ) × (count_leading_zeros 32 (n - 1) + suc j ≡ 32) × (2 ^ j ≤ n - 1) × (n - 1 < 2 ^ suc j) → Leading n
    of (j, e, a, b) =
        let s : span j ≡ 2 * 2 ^ j = span-power j in
        let k : 31 - count_leading_zeros 32 (n - 1) ≡ j = omega arith in
        let d : 2 ^ suc j ≡ 2 ^ j + 2 ^ j = two-pow-succ j in
        let is : 31 - count_leading_zeros 32 (n - 1) ≡ level_for n = k ∙ level-unique n j (omega arith) (omega arith) in
        record {
          zeros = omega arith;
          level = rw is record { is = refl; most = level-least n 7 l; reaches = level-covers n; few = level-most n l };
        }

-- the code's shift, modulo 2^64
pub pairs-level : (level : ℕ) → level ≤ 7 → Level level ((1 * 2 ^ level) % 18446744073709551616)
unfolding span
pairs-level level h =
    let s : span level ≡ 2 * 2 ^ level = span-power level in
    let b : span level ≤ 256 = span-mono level 7 h in
    let p : 2 ^ level < 18446744073709551616 = omega arith in
    let e : (1 * 2 ^ level) % 18446744073709551616 ≡ 2 ^ level
    = ap (λ x. x % 18446744073709551616) (one-mul (2 ^ level)) ∙ mod-eq_of_lt p in
    record { most = h; some = omega (arith, span-two level); covers = omega arith }

-- ---- Expand's last step
pub record CoefficientInput (m : ℕ) (w : List ℕ) (at span : ℕ) (first : List ℕ) (k : ℕ) : Type 0 where
  pub modulus : Modulus m
  pub inside : at + (span + span) ≤ length w
  pub below : ResiduesIn m w at (at + (span + span))
  pub first_long : length first ≡ 2
  pub first_below : Below m first
  pub reached : k < span

pub record RootInput (m : ℕ) (w : List ℕ) (at span : ℕ) (first : List ℕ) (n : ℕ) (output : List ℕ) : Type 0 where
  pub modulus : Modulus m
  pub inside : at + (span + span) ≤ length w
  pub below : ResiduesIn m w at (at + (span + span))
  pub first_long : length first ≡ 2
  pub first_below : Below m first
  pub covers : n ≤ span
  pub room : n ≤ length output

unfoldable pub root_entry : ℕ → List ℕ → ℕ → ℕ → List ℕ → ℕ → ℕ
root_entry m w at span first k = (get_or (part w at span) k 0 + product_at (part w (at + span) span) first k) % m

module _ {m : ℕ} {w : List ℕ} {at span : ℕ} {first : List ℕ} {k : ℕ} (h : CoefficientInput m w at span first k) where
  positive : 0 < m
  positive = omega (arith, h.modulus.least)

  zeroth : Source m w at span
  zeroth = record { inside = omega (arith, h.inside); below = λ i p q. h.below i p (omega arith) }

  second : Source m w (at + span) span
  second = record { inside = omega (arith, h.inside); below = λ i p q. h.below i (omega arith) (omega arith) }

  pub root-input : ProductsInput m 0 (slice w at span) (1 ∷ 0 ∷ []) (slice w (at + span) span) first k
  root-input = record {
    most = h.modulus.greatest;
    start_below = positive;
    p_below = slice-below m w at span zeroth positive;
    q_below = one_below;
    r_below = slice-below m w (at + span) span second positive;
    s_below = h.first_below;
    r_long = slice-length m w (at + span) span second ∙ sym (slice-length m w at span zeroth);
    s_long = h.first_long;
    reached = omega (arith, h.reached, slice-length m w at span zeroth);
  }
    where
      one_below : Below m (1 ∷ 0 ∷ [])
      one_below zero = h.modulus.least
      one_below (suc zero) = positive
      one_below (suc (suc i)) = positive

  pub root_is : {v : ℕ}
      → v ≡ (0 + product_at (slice w at span) (1 ∷ 0 ∷ []) k + product_at (slice w (at + span) span) first k) % m
      → v ≡ root_entry m w at span first k
  unfolding root_entry
  root_is e = e ∙ ap₂ (λ x y. (x + product_at y first k) % m)
      (zero-add _ ∙ product-one (slice w at span) k ∙ ap (λ p. get_or p k 0) (slice-part m w at span zeroth))
      (slice-part m w (at + span) span second)

module _ {m : ℕ} {w : List ℕ} {at span : ℕ} {first : List ℕ} {n : ℕ} {output : List ℕ} (h : RootInput m w at span first n output) where
  pub root-coefficient : {k : ℕ} → k < n → CoefficientInput m w at span first k
  root-coefficient l = record {
    modulus = h.modulus;
    inside = h.inside;
    below = h.below;
    first_long = h.first_long;
    first_below = h.first_below;
    reached = omega (arith, h.covers);
  }

  pub root_ends : {now : List ℕ} {k : ℕ} → k ≡ n → Filling (root_entry m w at span first) k output now
      → now ≡ plus_product m n (part w at span) (part w (at + span) span) first ++ drop n output
  unfolding plus_product root_entry filled
  root_ends e f = filling-stop f n e
