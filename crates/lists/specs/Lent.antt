-- The family that lent lists stand for: their first rows, and the row that closes them. The lists may be longer than that.
--   lent m r a b c close   the family of the first r rows of the lists a, b and c, closed by close
--   Long r a b c           each list has r entries at least
--   LentRows m r a b c     the first r rows are there and below m, and m is a modulus
-- Proved: it has r rows, each that of the lists, and from place r on the closing row; the family of three lists of one length is all their rows
-- closed by 1 1 1; where the family is accepted, its rows are lent as they must be, and which of its numbers have inverses.
-- That the closing row's a and c have inverses is for calls that are lent one.
-- Assumes nothing.
use Rattle.std.specs.Prelude.{◌≡◌, List, ℕ, suc, ◌≤◌, ◌<◌, length, get_or, take}
use Rattle.std.proofs.Common.{ap, arith, length-take-le, take_all}
use Rattle.definitions.specs.Number.{HasInverse}
use Rattle.definitions.specs.Family.{Row, Family, Modulus, RowBelow, Accepted, most_rows, first_c, row_of, ones, family, rows, size, row_at}
use Rattle.lists.specs.Entries.{entry-inside, entry_past}
use Rattle.lists.specs.Held.{Holds}

abbrev pub lent : ℕ → ℕ → List ℕ → List ℕ → List ℕ → Row → Family
lent m r a b c close = record { m = m; a = take r a; b = take r b; c = take r c; close = close }

pub record Long (r : ℕ) (a b c : List ℕ) : Type 0 where
  pub a_long : r ≤ length a
  pub b_long : r ≤ length b
  pub c_long : r ≤ length c

module _ (m r : ℕ) (a b c : List ℕ) (close : Row) (long : Long r a b c) where
  pub lent_rows : rows (lent m r a b c close) ≡ r
  lent_rows = length-take-le r a long.a_long

  pub lent-size : size (lent m r a b c close) ≡ suc r
  lent-size = ap suc lent_rows

  module _ (i : ℕ) where
    pub lent-inside : i < r → row_at (lent m r a b c close) i ≡ row_of (get_or a i 0) (get_or b i 0) (get_or c i 0)
    unfolding row_at
    lent-inside h = rw (
      entry-inside r a long.a_long i close.a h,
      entry-inside r b long.b_long i close.b h,
      entry-inside r c long.c_long i close.c h,
    )

    pub lent-past : r ≤ i → row_at (lent m r a b c close) i ≡ close
    unfolding row_at
    lent-past h = rw (
      ← entry_past r a long.a_long i close.a h,
      ← entry_past r b long.b_long i close.b h,
      ← entry_past r c long.c_long i close.c h,
    )

pub record LentRows (m r : ℕ) (a b c : List ℕ) : Type 0 where
  pub modulus : Modulus m
  pub a_holds : Holds m r a
  pub b_holds : Holds m r b
  pub c_holds : Holds m r c

-- what the cores ask follows from accepted
module _ (m r : ℕ) (a b c : List ℕ) (close : Row) (long : Long r a b c) (accepted : Accepted (lent m r a b c close)) where
  abbrev f : Family
  f = lent m r a b c close

  within : (i : ℕ) → i ≤ r → i < size f
  within i h = let n : size f ≡ suc r = lent-size m r a b c close long in omega arith

  pub accepted-few : r ≤ most_rows
  accepted-few = let few : rows f ≤ most_rows = accepted.row_count in let n : rows f ≡ r = lent_rows m r a b c close long in omega arith

  row_below : (i : ℕ) → i < r → RowBelow m (row_of (get_or a i 0) (get_or b i 0) (get_or c i 0))
  row_below i h = rw (← lent-inside m r a b c close long i h) (accepted.below i (within i (omega arith)))

  pub accepted-rows : LentRows m r a b c
  accepted-rows = record {
    modulus = accepted.modulus;
    a_holds = record { long = long.a_long; below = λ i h. (row_below i h).a_below };
    b_holds = record { long = long.b_long; below = λ i h. (row_below i h).b_below };
    c_holds = record { long = long.c_long; below = λ i h. (row_below i h).c_below };
  }

  pub accepted-closing : RowBelow m close
  accepted-closing = rw (← lent-past m r a b c close long r (omega arith)) (accepted.below r (within r (omega arith)))

  pub accepted-a : (i : ℕ) → i < r → HasInverse m (get_or a i 0)
  accepted-a i h =
      let e : (row_at f i).a ≡ get_or a i 0 = ap (λ row. row.a) (lent-inside m r a b c close long i h) in
      rw (← e) (accepted.a_inverse i (within i (omega arith)))

  pub accepted-closing-a : HasInverse m close.a
  accepted-closing-a =
      let e : (row_at f r).a ≡ close.a = ap (λ row. row.a) (lent-past m r a b c close long r (omega arith)) in
      rw (← e) (accepted.a_inverse r (within r (omega arith)))

  pub accepted-c : (i : ℕ) → first_c ≤ i → i < r → HasInverse m (get_or c i 0)
  accepted-c i l h =
      let e : (row_at f i).c ≡ get_or c i 0 = ap (λ row. row.c) (lent-inside m r a b c close long i h) in
      rw (← e) (accepted.c_inverse i l (within i (omega arith)))

  pub accepted-closing-c : first_c ≤ r → HasInverse m close.c
  accepted-closing-c l =
      let e : (row_at f r).c ≡ close.c = ap (λ row. row.c) (lent-past m r a b c close long r (omega arith)) in
      rw (← e) (accepted.c_inverse r l (within r (omega arith)))

-- lists that are lent whole
module _ (m : ℕ) (a b c : List ℕ) (lb : length b ≡ length a) (lc : length c ≡ length a) where
  pub whole_long : Long (length a) a b c
  whole_long = record { a_long = omega arith; b_long = omega arith; c_long = omega arith }

  pub lent-whole : lent m (length a) a b c ones ≡ family m a b c
  lent-whole = rw (take_all (length a) a (omega arith), take_all (length a) b (omega arith), take_all (length a) c (omega arith))
