-- The moments from F_n and G_{n-1}, with the product of the inverses of the a for the inverse of the leading coefficient.
--   entry_or list count last i  entry i of the first count entries of list, and last from there on
--   Multiplied                  a product in progress: i inverses are in
--   Front count k g list        list has count entries: g 0, .., g (k - 1), and then zeros
-- Proved: how the product begins, goes on and ends; what the quotient is handed; the quotient is the moments. Assumes nothing.
use Rattle.std.specs.Prelude.{◌≡◌, List, ◌∷◌, ◌++◌, ℕ, zero, suc, ◌+◌, ◌*◌, ◌-◌, ◌%◌, ◌≤◌, ◌<◌, take, drop, replicate}
use Rattle.std.proofs.Math.Path.{refl, ap₂}
use Rattle.std.proofs.Common.{sym, ◌∙◌, ap, add-one, arith}
use Rattle.std.proofs.Math.Logic.{by_cases}
use Rattle.std.proofs.Math.Decide.{dec_lt}
use Rattle.std.proofs.Math.ListN.{length, get_or, get_or-eq_default}
use Rattle.std.proofs.lemmas.List.{length-replicate, get_or-replicate}
use Rattle.std.proofs.Math.Seq.{length-take-le, take-length}
use Rattle.definitions.specs.Family.{Family, Row, row_at, F, G}
use Rattle.definitions.specs.Number.{table}
use Rattle.definitions.specs.Orthogonality.{reversal, quotient, moments}
use Rattle.tree_model.proofs.Extended.{F-below, G-below}
use Rattle.numbers.specs.Lists.{filled, filled-length, filled-below, filled-from}
use Rattle.theory.specs.NormInverse.{leading-inverse}
use Rattle.numbers.specs.RunningProduct.{running_product, running-below}
use Rattle.numbers.specs.Products.{Below}
use Rattle.lists.specs.Held.{Output}
use Rattle.lists.specs.Inverses.{inverts-at}
use Rattle.lists.specs.Lent.{lent}
use Rattle.series.specs.Division.{reversed, QuotientInput}
use Rattle.moment_way.specs.Input.{PolynomialsInput, Polynomials, MomentsCoreInput}
use Rattle.moment_way.specs.Polynomials.{closed-size}

-- ---- the product of the inverses
unfoldable pub entry_or : List ℕ → ℕ → ℕ → ℕ → ℕ
entry_or list count last i = get_or (take count list) i last

pub record Multiplied (m : ℕ) (inverses : List ℕ) (close_inverse n result i : ℕ) : Type 0 where
  pub reached : i ≤ n
  pub is : result ≡ running_product m (entry_or inverses (n - 1) close_inverse) i

module _ {m : ℕ} {inverses : List ℕ} {close_inverse n : ℕ} where
  pub multiplied-starts : Multiplied m inverses close_inverse n 1 0
  unfolding running_product
  multiplied-starts = record { reached = omega arith; is = refl }

  module _ {result i : ℕ} (h : Multiplied m inverses close_inverse n result i) where
    pub multiplied-next : {x y : ℕ} → i < n → x ≡ get_or (take (n - 1) inverses) i close_inverse → y ≡ result * x % m
        → Multiplied m inverses close_inverse n y (i + 1)
    unfolding running_product entry_or
    multiplied-next l e g = record { reached = omega arith; is = g ∙ rw (e, h.is, add-one) }

    pub multiplied-ends : n ≤ i → result ≡ running_product m (entry_or inverses (n - 1) close_inverse) n
    multiplied-ends l =
        let e : i ≡ n = omega (arith, h.reached) in
        h.is ∙ ap (running_product m (entry_or inverses (n - 1) close_inverse)) e

-- of a list that is lent to its first k entries
pub leading-lent : (m close : ℕ) (list : List ℕ) {k n top : ℕ} → k ≤ length list → n ≡ k + 1
    → top ≡ running_product m (entry_or (take k list) (length (take k list)) close) (length (take k list) + 1)
    → top ≡ running_product m (entry_or list (n - 1) close) n
unfolding entry_or
leading-lent m close list {k} {n} long e h =
    let less : k ≡ n - 1 = omega (arith, e) in
    h ∙ ap (λ t. running_product m (λ i. get_or t i close) (length (take k list) + 1)) (take-length (take k list))
    ∙ ap₂ (λ j q. running_product m (λ i. get_or (take j list) i close) q) less (ap (λ q. q + 1) (length-take-le k list long) ∙ sym e)

-- ---- a list that stands at the front of a local one
pub record Front (count k : ℕ) (g : ℕ → ℕ) (list : List ℕ) : Type 0 where
  pub long : length list ≡ count
  pub entry : (i : ℕ) → i < k → get_or list i 0 ≡ g i
  pub past : (i : ℕ) → k ≤ i → get_or list i 0 ≡ 0

zeros-entry : (k i : ℕ) → ◌≡◌ {A = ℕ} (get_or (replicate k 0) i 0) 0
zeros-entry k i = by_cases (dec_lt i k)
    (λ h. get_or-replicate {A = ℕ} k i 0 0 h)
    (λ h. get_or-eq_default (replicate k 0) 0 {n = i} (omega (arith, length-replicate {A = ℕ} k 0)))

pub front : {count k : ℕ} {g : ℕ → ℕ} {blank list : List ℕ} → blank ≡ replicate count 0 → k ≤ count → list ≡ table k g ++ drop k blank
    → Front count k g list
unfolding filled
front {count} {k} {g} {blank} {list} z l h =
    let e : length blank ≡ count = ap length z ∙ length-replicate {A = ℕ} count 0 in
    record {
      long = ap length h ∙ filled-length g blank k (omega arith) ∙ e;
      entry = λ i p. ap (λ t. get_or t i 0) h ∙ filled-below g blank k i 0 p;
      past = λ i p. rw (h, filled-from g blank k i 0 p, z) (zeros-entry count i);
    }

pub front_below : {m count k : ℕ} {g : ℕ → ℕ} {list : List ℕ} → Front count k g list → 0 < m → ((i : ℕ) → i < k → g i < m)
    → Below m list
front_below {m} {count} {k} h pos below i =
    by_cases (dec_lt i k) (λ l. rw (h.entry i l) (below i l)) (λ l. rw (h.past i (omega arith)) pos)

-- ---- the quotient
reversal-equal : (k : ℕ) (p q : ℕ → ℕ) → ((i : ℕ) → i < k → p i ≡ q i) → reversal k p ≡ reversal k q
unfolding reversal
reversal-equal zero p q e = refl
reversal-equal (suc k) p q e = ap₂ ◌∷◌ (e k (omega arith)) (reversal-equal k p q (λ i l. e i (omega arith)))

module _ {m : ℕ} {a b c a_inverses : List ℕ} {close : Row} {close_a_inverse n : ℕ} {output work : List ℕ}
    (input : MomentsCoreInput m a b c a_inverses close close_a_inverse n output work) where
  abbrev f : Family
  f = lent m (n - 1) a b c close

  abbrev inverses : ℕ → ℕ
  inverses = entry_or a_inverses (n - 1) close_a_inverse

  two : 2 ≤ m
  two = input.closed.rows.modulus.least

  leading-is : F f n n * running_product m inverses n % m ≡ 1
  unfolding row_at entry_or
  leading-is = leading-inverse f two inverses n
      (λ i _. inverts-at input.a_inverts input.closed.rows.a_holds.long (omega arith) i (omega arith))

  module _ {blank blank' : List ℕ} (z : blank ≡ replicate 255 0) (z' : blank' ≡ replicate 255 0) where
    pub moments-polynomials : PolynomialsInput m a b c close n blank blank' work
    moments-polynomials =
        let e : length blank ≡ 255 = ap length z ∙ length-replicate {A = ℕ} 255 0 in
        let e' : length blank' ≡ 255 = ap length z' ∙ length-replicate {A = ℕ} 255 0 in
        record {
          closed = input.closed;
          divisor_long = omega (arith, input.closed.most);
          numerator_long = omega (arith, input.closed.most);
          work_long = input.work_long;
        }

    module _ {divisor numerator work' : List ℕ} (h : Polynomials f n blank divisor blank' numerator work work') where
      divisor_front : Front 255 (suc n) (F f n) divisor
      divisor_front = front z (omega (arith, input.closed.most)) h.divisor_is

      numerator_front : Front 255 n (G f (n - 1)) numerator
      numerator_front = front z' (omega (arith, input.closed.most)) h.numerator_is

      pub moments-quotient : {top : ℕ} → top ≡ running_product m inverses n → QuotientInput m numerator divisor n top (2 * n - 1) output
      moments-quotient e = record {
        divides = record {
          modulus = input.closed.rows.modulus;
          g_long = omega (arith, numerator_front.long, input.closed.most);
          g_below = front_below numerator_front (omega (arith, two)) (λ i _. G-below f two (n - 1) i);
          d_below = front_below divisor_front (omega (arith, two)) (λ i _. F-below f two n i);
          inverse_below = rw e (running-below m inverses two n);
          inverts = ap₂ (λ x y. x * y % m) (divisor_front.entry n (omega arith)) e ∙ leading-is;
        };
        room = input.output_long;
      }

      quotient-moments : quotient m (reversed n numerator) (reversed (suc n) divisor) (2 * n - 1) ≡ moments f
      unfolding moments reversed
      quotient-moments =
          let rows_is : length (take (n - 1) a) ≡ n - 1 = length-take-le (n - 1) a input.closed.rows.a_holds.long in
          ap₂ (λ g d. quotient m g d (2 * n - 1))
          (reversal-equal n (λ i. get_or numerator i 0) (G f (n - 1)) numerator_front.entry)
          (reversal-equal (suc n) (λ i. get_or divisor i 0) (F f n) divisor_front.entry)
          ∙ ap₂ (λ k j. quotient m (reversal k (G f j)) (reversal (suc k) (F f k)) (2 * k - 1))
          (sym (closed-size input.closed)) (sym rows_is)

      pub moments-are : {output' : List ℕ}
          → output' ≡ quotient m (reversed n numerator) (reversed (suc n) divisor) (2 * n - 1) ++ drop (2 * n - 1) output
          → Output (moments f) (2 * n - 1) output output' work work'
      moments-are e = record { written = e ∙ ap (λ t. t ++ drop (2 * n - 1) output) quotient-moments; wiped = h.wiped }
