-- Sums of numbers, as `definitions` has them.
-- Proved: a sum is settled by its terms and falls into two at any place; terms that are zero can be left out at either end; sums add up
-- term by term.
-- Assumes nothing.
use Rattle.std.specs.Prelude.{◌≡◌, refl, ℕ, zero, suc, ◌+◌, ◌-◌, ◌<◌, ◌≤◌}
use Rattle.std.proofs.Common.{sym, ◌∙◌, ap, ap₂, add-zero, add-suc, add_assoc, arith}
use Rattle.definitions.specs.Number.{sum}

pub sum-equal : (n : ℕ) (f g : ℕ → ℕ) → ((i : ℕ) → i < n → f i ≡ g i) → sum n f ≡ sum n g
unfolding sum
sum-equal zero f g e = refl
sum-equal (suc n) f g e = ap₂ ◌+◌ (sum-equal n f g (λ i p. e i (omega arith))) (e n (omega arith))

pub sum-zero : (n : ℕ) (f : ℕ → ℕ) → ((i : ℕ) → i < n → f i ≡ 0) → sum n f ≡ 0
unfolding sum
sum-zero zero f h = refl
sum-zero (suc n) f h = rw (sum-zero n f (λ i p. h i (omega arith)), h n (omega arith))

pub sum-split : (n k : ℕ) (f : ℕ → ℕ) → sum (n + k) f ≡ sum n f + sum k (λ i. f (n + i))
unfolding sum
sum-split n zero f = ap (λ t. sum t f) (add-zero n) ∙ sym (add-zero (sum n f))
sum-split n (suc k) f =
    ap (λ t. sum t f) (add-suc n k) ∙ ap (λ t. t + f (n + k)) (sum-split n k f) ∙ add_assoc (sum n f) (sum k (λ i. f (n + i))) (f (n + k))

-- the terms from k on are zero
pub sum-cut : (k n : ℕ) (f : ℕ → ℕ) → k ≤ n → ((i : ℕ) → k ≤ i → i < n → f i ≡ 0) → sum n f ≡ sum k f
sum-cut k n f h after =
    let parts : n ≡ k + (n - k) = omega arith in
    let past : sum (n - k) (λ i. f (k + i)) ≡ 0 = sum-zero _ _ (λ i p. after (k + i) (omega arith) (omega arith)) in
    ap (λ t. sum t f) parts ∙ sum-split k (n - k) f ∙ omega arith

-- and so are those below lo
pub sum-between : (lo k n : ℕ) (f : ℕ → ℕ) → lo + k ≤ n → ((i : ℕ) → i < lo → f i ≡ 0) → ((i : ℕ) → lo + k ≤ i → i < n → f i ≡ 0)
    → sum n f ≡ sum k (λ i. f (lo + i))
sum-between lo k n f h before after =
    let none : sum lo f ≡ 0 = sum-zero lo f before in
    sum-cut (lo + k) n f h after ∙ sum-split lo k f ∙ omega arith

pub sum_both : (n : ℕ) (f g : ℕ → ℕ) → sum n (λ i. f i + g i) ≡ sum n f + sum n g
unfolding sum
sum_both zero f g = refl
sum_both (suc n) f g = let e = sum_both n f g in omega arith
