-- A family is lent as lists of its rows, and n is one more than these.
-- Proved: what a core asks of a family its loop asks of these lists; what the loop leaves is said of the family; what a core leaves,
-- lent the first rows of longer lists, is said of these lists. Assumes nothing.
use Rattle.std.specs.Prelude.{◌≡◌, List, ◌++◌, ℕ, suc, ◌+◌, ◌-◌, length, take, drop}
use Rattle.std.proofs.Common.{◌∙◌, ap, subst, sym, take-take, length-take-le, get_or-take, ap₂, arith, add-one}
use Rattle.definitions.specs.Conversion.{decompose}
use Rattle.definitions.specs.Family.{Family, family, ones, size}
use Rattle.lists.specs.Inverses.{Inverts}
use Rattle.lists.specs.Lending.{Lending}
use Rattle.lists.specs.Lent.{lent, lent-whole}
use Rattle.plain.specs.Decomposing.{Decomposes}
use Rattle.plain.specs.Input.{ConvertInput, convert-sized}

rows_are : (a : List ℕ) → length a + 1 - 1 ≡ length a
rows_are a = omega arith

pub taken : {m : ℕ} {a b c u output : List ℕ} → ConvertInput m a b c u (size (family m a b c)) output
    → ConvertInput m a b c u (length a + 1) output
taken {a = a} input = rw (add-one (length a)) input

-- a list of as many rows
pub listed : (xs a : List ℕ) → length xs ≡ length a → length xs ≡ length a + 1 - 1
listed xs a e = e ∙ sym (rows_are a)

module _ {m : ℕ} {a b c : List ℕ} (u output : List ℕ) (lending : Lending (family m a b c)) where
  pub made : (convert : Family → List ℕ → List ℕ) {output' : List ℕ}
      → output' ≡ convert (lent m (length a + 1 - 1) a b c ones) (take (length a + 1) u) ++ drop (length a + 1) output
      → output' ≡ convert (family m a b c) (take (size (family m a b c)) u) ++ drop (size (family m a b c)) output
  made convert e = e
      ∙ ap (λ f. convert f (take (length a + 1) u) ++ drop (length a + 1) output)
      (ap (λ r. lent m r a b c ones) (rows_are a) ∙ lent-whole m a b c lending.b_length lending.c_length)
      ∙ ap (λ n. convert (family m a b c) (take n u) ++ drop n output) (add-one (length a))

  pub decomposed : {output' : List ℕ}
      → ((x : List ℕ) → Inverts m 0 (length a + 1 - 1) x a 1 1
      → output' ≡ decompose (lent m (length a + 1 - 1) x b c ones) (take (length a + 1) u) ++ drop (length a + 1) output)
      → Decomposes (family m a b c) u output output'
  decomposed left x inverts = left x (rw (rows_are a) inverts)
      ∙ ap (λ r. decompose (lent m r x b c ones) (take (length a + 1) u) ++ drop (length a + 1) output) (rows_are a)
      ∙ ap (λ n. decompose (lent m (length a) x b c ones) (take n u) ++ drop n output) (add-one (length a))

-- from what is said of the family to what is said of the lists whose first rows it has
module _ {m n : ℕ} {a b c u output output' : List ℕ} (input : ConvertInput m a b c u n output) {f : Family}
    (is : lent m (n - 1) a b c ones ≡ f) where
  pub written : (convert : Family → List ℕ → List ℕ) → output' ≡ convert f (take (size f) u) ++ drop (size f) output
      → output' ≡ convert (lent m (n - 1) a b c ones) (take n u) ++ drop n output
  written convert e =
      subst (λ g. output' ≡ convert g (take (size g) u) ++ drop (size g) output) (sym is) e
      ∙ ap (λ k. convert (lent m (n - 1) a b c ones) (take k u) ++ drop k output) (convert-sized input)

  -- the a stand for the inverses of those of x
  pub written-decomposed : Decomposes f u output output' → (x : List ℕ) → Inverts m 0 (n - 1) x a 1 1
      → output' ≡ decompose (lent m (n - 1) x b c ones) (take n u) ++ drop n output
  written-decomposed left x h =
      let r = n - 1 in
      let n_is : suc (n - 1) ≡ n = omega (arith, input.least) in
      let count : length (take (n - 1) a) ≡ n - 1 = length-take-le (n - 1) a h.long in
      let inverts : Inverts m 0 (n - 1) x (take (n - 1) a) 1 1 = record {
        long = omega (arith, count);
        inverts = λ i g l. rw (get_or-take (n - 1) a i 0 l) (h.inverts i g l);
        closes = h.closes;
      } in
      subst (λ g. Decomposes g u output output') (sym is) left x (rw count inverts)
      ∙ ap (λ k. decompose (record { m = m; a = take k x; b = take k (take r b); c = take k (take r c); close = ones }) (take (suc k) u)
      ++ drop (suc k) output) count
      ∙ ap₂ (λ y z. decompose (record { m = m; a = take r x; b = y; c = z; close = ones }) (take (suc r) u) ++ drop (suc r) output)
      (take-take r r b (omega arith)) (take-take r r c (omega arith))
      ∙ ap (λ k. decompose (lent m (n - 1) x b c ones) (take k u) ++ drop k output) n_is
