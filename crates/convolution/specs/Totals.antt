-- Sums of products that wrap at 2^64, with a count of the wraps.
--   Lesser x y r          r is the lesser of x and y
--   SmallNumbers x y u v  all four have 31 bits, so that four products of such numbers fit 64
--   amount low wraps      what the low 64 bits and the wraps come to
--   PlusInput             of a number that is added: it fits 64 bits, as the low bits do, and the wraps are few
--   Added                 a sum to which so much was added, in so many steps at most
--   Totalling             a sum in progress: it began with start and at most before wraps, and the terms of f from first to i - 1 are in
-- Proved: two products of such numbers fit 64 bits, and so do two pairs of them; a number added with its wrap is Added; what was added twice
-- is Added as one. How a sum begins, goes on and ends stands in Totals of proofs/. Assumes nothing.
use Rattle.std.specs.Prelude.{◌≡◌, ℕ, ◌+◌, ◌-◌, ◌*◌, ◌%◌, ◌<◌, ◌≤◌}
use Rattle.std.proofs.Math.Path.{sym}
use Rattle.std.proofs.Common.{◌∙◌, ap, add_assoc, zero-add, mul-le-mul}
use Rattle.std.proofs.Math.Decide.{dec_lt}
use Rattle.std.proofs.Math.Nat.{add-zero}
use native.Mathlib.Omega.{arith}
use Rattle.definitions.specs.Number.{sum}
use Rattle.reduction.specs.Reciprocal.{word}
use Rattle.reduction.specs.Wrapping.{WrapsAfter, wraps-next}

pub record Lesser (x y r : ℕ) : Type 0 where
  pub first : r ≤ x
  pub second : r ≤ y
  pub one : r < x → r ≡ y

pub record SmallNumbers (x y u v : ℕ) : Type 0 where
  pub x_small : x ≤ 2147483647
  pub y_small : y ≤ 2147483647
  pub u_small : u ≤ 2147483647
  pub v_small : v ≤ 2147483647

pub record SmallProducts (x y u v : ℕ) : Type 0 where
  pub first : x * y ≤ 4611686014132420609
  pub second : u * v ≤ 4611686014132420609

pub small-products : (x y u v : ℕ) → SmallNumbers x y u v → SmallProducts x y u v
small-products x y u v h = record { first = bound h.x_small h.y_small; second = bound h.u_small h.v_small }
  where
    bound : {x y : ℕ} → x ≤ 2147483647 → y ≤ 2147483647 → x * y ≤ 4611686014132420609
    bound p q = mul-le-mul {n₂ = 2147483647} {m₂ = 2147483647} p q

pub pair_fits : (x y u v : ℕ) → SmallNumbers x y u v → x * y + u * v < word
pair_fits x y u v h = let products = small-products x y u v h in omega arith

pub two-pairs-fit : (x y u v x' y' u' v' : ℕ) → SmallNumbers x y u v → SmallNumbers x' y' u' v'
    → x * y + u * v + (x' * y' + u' * v') < word
two-pairs-fit x y u v x' y' u' v' h h' =
    let products = small-products x y u v h in
    let more = small-products x' y' u' v' h' in
    omega arith

-- shut, since omega's numbers grow too long with it in reach
unfoldable pub amount : ℕ → ℕ → ℕ
amount low wraps = low + wraps * word

pub record Added (low wraps steps more low' wraps' : ℕ) : Type 0 where
  pub few : wraps' ≤ wraps + steps
  pub fits : low' < word
  pub whole : amount low' wraps' ≡ amount low wraps + more

pub added_then : {low wraps n x low₁ wraps₁ k y low₂ wraps₂ : ℕ} → Added low wraps n x low₁ wraps₁ → Added low₁ wraps₁ k y low₂ wraps₂
    → Added low wraps (n + k) (x + y) low₂ wraps₂
added_then {low} {wraps} {x = x} {y = y} a b = record {
  few = omega (arith, a.few, b.few);
  fits = b.fits;
  whole = b.whole ∙ ap (λ s. s + y) a.whole ∙ add_assoc (amount low wraps) x y;
}

pub record PlusInput (low wraps x : ℕ) : Type 0 where
  pub fits : low < word
  pub small : x < word
  pub few : wraps < 9223372036854775808

-- next is the sum that may have wrapped, and r the count of wraps then
pub plus-added : {low wraps x next r : ℕ} → PlusInput low wraps x → next ≡ (low + x) % word → WrapsAfter wraps next x r
    → Added low wraps 1 x next r
unfolding amount
plus-added {low} {wraps} {x} {next} {r} h n w = record {
  few = more (dec_lt next x);
  fits = omega arith;
  whole = wraps-next low wraps x next r h.fits h.small n w;
}
  where
    more : Dec (next < x) → r ≤ wraps + 1
    more (yes p) = omega (arith, w.wrapped p)
    more (no p) = let same : r ≡ wraps = w.fitted (omega arith) in omega arith

pub record Totalling (before start first end : ℕ) (f : ℕ → ℕ) (i low wraps : ℕ) : Type 0 where
  pub from : first ≤ i
  pub reached : i ≤ end
  pub few : wraps ≤ before + (i - first)
  pub fits : low < word
  pub whole : amount low wraps ≡ start + sum (i - first) (λ t. f (first + t))

-- a sum that begins with a number
pub amount-number : (start : ℕ) → amount start 0 ≡ start
unfolding amount
amount-number start = omega arith

-- the terms of a step
pub one-term : (f : ℕ → ℕ) (i : ℕ) → f i ≡ sum 1 (λ t. f (i + t))
unfolding sum
one-term f i = sym (zero-add _ ∙ ap f (add-zero i))

pub two-terms : (f : ℕ → ℕ) (i : ℕ) → f i + f (i + 1) ≡ sum 2 (λ t. f (i + t))
unfolding sum
two-terms f i = ap (λ x. x + f (i + 1)) (one-term f i)
