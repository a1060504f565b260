-- A local array filled with the inverses of a list's first r entries, from place first on.
--   InverseArray m first r list v   v holds r residues, and from place first on the inverse of each entry of list
-- Proved: the array has room for them, and filled with them it is so; of an accepted family, whatever closes it, it holds the inverses that
-- a core asks of the a, and of the c from row 2 on. Assumes nothing.
use Rattle.std.specs.Prelude.{◌≡◌, List, ℕ, ◌+◌, ◌*◌, ◌-◌, ◌%◌, ◌<◌, ◌≤◌, replicate}
use Rattle.std.proofs.Common.{◌∙◌, mod-eq_of_lt, arith}
use Rattle.std.proofs.Math.Path.{ap}
use Rattle.std.proofs.Math.Logic.{by_cases}
use Rattle.std.proofs.Math.Decide.{dec_lt}
use Rattle.std.proofs.Math.ListN.{length, get_or}
use Rattle.std.proofs.lemmas.List.{length-replicate}
use borrow.Author.Tests.{lt-ltb, le-ltb}
use Rattle.definitions.specs.Family.{Row, Accepted, most_rows, family, ones}
use Rattle.definitions.specs.Number.{inverse}
use Rattle.numbers.specs.Inverse.{inverse-below}
use Rattle.numbers.specs.Lists.{filled, filled-below, filled-length}
use Rattle.inverses.specs.Range.{inverse_from}
use Rattle.lists.specs.Held.{Holds}
use Rattle.lists.specs.Inverses.{Inverts, accepted-inverts-a, accepted-inverts-c}
use Rattle.lists.specs.Lent.{Long, lent}
use Rattle.lists.specs.Whole.{accepted-long, accepted-lent}

pub record InverseArray (m first r : ℕ) (list v : List ℕ) : Type 0 where
  pub holds : Holds m r v
  pub is : (i : ℕ) → first ≤ i → i < r → get_or v i 0 ≡ inverse m (get_or list i 0)

module _ (r : ℕ) (few : r ≤ most_rows) (zeros : List ℕ) (zeros_are : zeros ≡ replicate 128 0) where
  zeros-length : length zeros ≡ 128
  zeros-length = ap length zeros_are ∙ length-replicate {A = ℕ} 128 0

  pub array-room : r ≤ length zeros
  array-room = omega (arith, zeros-length)

  pub array-holds : {m first : ℕ} {list v : List ℕ} → 0 < m → v ≡ filled (inverse_from m first list) r zeros → InverseArray m first r list v
  unfolding inverse_from
  array-holds {m} {first} {list} {v} positive e =
      let long : length v ≡ 128 = ap length e ∙ filled-length (inverse_from m first list) zeros r array-room ∙ zeros-length in
      let at : (i : ℕ) → i < r → get_or v i 0 ≡ inverse_from m first list i =
      λ i h. ap (λ ys. get_or ys i 0) e ∙ filled-below (inverse_from m first list) zeros r i 0 h in
      let is : (i : ℕ) → first ≤ i → i < r → get_or v i 0 ≡ inverse m (get_or list i 0) =
      λ i from h. at i h ∙ rw (le-ltb i first from, inverse_from) in
      record {
        holds = record {
          long = omega arith;
          below = λ i h. by_cases (dec_lt i first)
              (λ l. rw (at i h, lt-ltb i first l, inverse_from) positive)
              (λ l. rw (is i (omega arith) h) (inverse-below m (get_or list i 0) positive));
        };
        is = is;
      }

-- ---- of an accepted family, over the rows that are lent; y is an inverse of the closing row's number
module _ {m r : ℕ} {a b c : List ℕ} {close : Row} (long : Long r a b c) (accepted : Accepted (lent m r a b c close)) where
  pub a-inverts : {v : List ℕ} → InverseArray m 0 r a v → (y : ℕ) → close.a * y % m ≡ 1 → Inverts m 0 (r + 1 - 1) a v close.a y
  a-inverts {v} array y closes =
      let rows_are : r + 1 - 1 ≡ r = omega arith in
      rw rows_are (accepted-inverts-a m r a b c close long accepted v y array.holds.long (λ i l. array.is i (omega arith) l) closes)

  pub c-inverts : {w : List ℕ} → InverseArray m 1 r c w → (y : ℕ) → (1 ≤ r → close.c * y % m ≡ 1)
      → Inverts m 1 (r + 1 - 1) c w close.c y
  c-inverts {w} array y closes =
      let rows_are : r + 1 - 1 ≡ r = omega arith in
      rw rows_are (accepted-inverts-c m r a b c close long accepted 1 w y (omega arith) array.holds.long array.is closes)

-- ---- over lists that are lent whole, closed by 1 1 1
module _ {m : ℕ} {a b c : List ℕ} (accepted : Accepted (family m a b c)) where
  pub one-closes : 1 * 1 % m ≡ 1
  one-closes = mod-eq_of_lt (omega (arith, accepted.modulus.least))

  -- as many entries take part as there are rows
  pub family-inverts : {v : List ℕ} → InverseArray m 0 (length a) a v → Inverts m 0 (length a) a v 1 1
  family-inverts {v} array = accepted-inverts-a m (length a) a b c ones (accepted-long accepted) (accepted-lent accepted) v 1
      array.holds.long (λ i l. array.is i (omega arith) l) one-closes

  pub family-inverts-c : {w : List ℕ} → InverseArray m 1 (length a) c w → Inverts m 1 (length a) c w 1 1
  family-inverts-c {w} array = accepted-inverts-c m (length a) a b c ones (accepted-long accepted) (accepted-lent accepted) 1 w 1
      (omega arith) array.holds.long array.is (λ _. one-closes)

  pub whole-inverts : {v : List ℕ} → InverseArray m 0 (length a) a v → Inverts m 0 (length a + 1 - 1) a v 1 1
  whole-inverts array = a-inverts (accepted-long accepted) (accepted-lent accepted) array 1 one-closes

  pub whole-inverts-c : {w : List ℕ} → InverseArray m 1 (length a) c w → Inverts m 1 (length a + 1 - 1) c w 1 1
  whole-inverts-c array = c-inverts (accepted-long accepted) (accepted-lent accepted) array 1 (λ _. one-closes)

  module _ {zeros : List ℕ} (zeros_are : zeros ≡ replicate 128 0) where
    pub array-is : {first : ℕ} {list v : List ℕ} → v ≡ filled (inverse_from m first list) (length a) zeros
        → InverseArray m first (length a) list v
    array-is e = array-holds (length a) accepted.row_count zeros zeros_are (omega (arith, accepted.modulus.least)) e

    pub a-room : (length a ≤ length a) × (length a ≤ length zeros)
    a-room = (omega arith, array-room (length a) accepted.row_count zeros zeros_are)

    pub c-room : (length a ≤ length c) × (length a ≤ length zeros)
    c-room = (omega (arith, accepted.c_length), array-room (length a) accepted.row_count zeros zeros_are)
