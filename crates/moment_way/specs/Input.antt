-- What the moments and Decompose by the moments assume of the lists and numbers that they are lent. The lists may be longer than
-- the n - 1 rows that take part, which close closes.
--   ClosedBy           what is lent beside a family: a closing row below m, and the inverses of the a, the closing row's too
--   ClosedInput        the rows and the closing row are below m
--   PolynomialsInput   what F_n and G_{n-1} are taken of;  Polynomials  what is left of them
--   MomentsCoreInput   what the moments are taken of: the inverses of the a, that of the closing row too
--   DecomposeInput     what Decompose by the moments is lent: the inverses of the c from row 2 on as well
-- Proved: the last two are what the code's types and clauses ask: the first n - 1 rows are a family that can be lent (closed-lending), and what is
-- lent beside it closes it (moments-closed, decompose-closed), with the inverses of the c (decompose-inverts). They follow where the family of the
-- lent lists is accepted, whatever closes it. Assumes nothing.
use Rattle.std.specs.Prelude.{◌≡◌, List, ◌++◌, ℕ, suc, ◌+◌, ◌*◌, ◌-◌, ◌≤◌, length, take, drop}
use Rattle.std.proofs.Common.{arith, get_or-take, length-take-le}
use Rattle.definitions.specs.Answers.{cleared}
use Rattle.definitions.specs.Family.{Row, Family, F, G, RowBelow, Accepted, ones, rows}
use Rattle.definitions.specs.Number.{table}
use Rattle.definitions.specs.Refusals.{work_length}
use Rattle.lists.specs.Held.{Holds}
use Rattle.lists.specs.Inverses.{Inverts}
use Rattle.lists.specs.Lending.{Lending, taken-lending}
use Rattle.lists.specs.Lent.{Long, LentRows, lent, accepted-few, accepted-rows, accepted-closing}

pub record ClosedBy (f : Family) (close : Row) (a_inverses : List ℕ) (close_a_inverse : ℕ) : Type 0 where
  pub closing : RowBelow f.m close
  -- whatever row it is, beside the inverses of the a stands that of its own
  pub a_inverts : Inverts f.m 0 (rows f) f.a a_inverses close.a close_a_inverse

pub record ClosedInput (m : ℕ) (a b c : List ℕ) (close : Row) (n : ℕ) : Type 0 where
  pub rows : LentRows m (n - 1) a b c
  pub closing : RowBelow m close
  pub least : 1 ≤ n
  pub most : n ≤ 128

pub record PolynomialsInput (m : ℕ) (a b c : List ℕ) (close : Row) (n : ℕ) (divisor numerator work : List ℕ) : Type 0 where
  pub closed : ClosedInput m a b c close n
  pub divisor_long : suc n ≤ length divisor
  pub numerator_long : n ≤ length numerator
  pub work_long : work_length ≤ length work

-- F_n and G_{n-1} stand at the front of their lists
pub record Polynomials (f : Family) (n : ℕ) (divisor divisor' numerator numerator' work work' : List ℕ) : Type 0 where
  pub divisor_is : divisor' ≡ table (suc n) (F f n) ++ drop (suc n) divisor
  pub numerator_is : numerator' ≡ table n (G f (n - 1)) ++ drop n numerator
  pub wiped : work' ≡ cleared work

pub record MomentsCoreInput (m : ℕ) (a b c a_inverses : List ℕ) (close : Row) (close_a_inverse n : ℕ) (output work : List ℕ) : Type 0 where
  pub closed : ClosedInput m a b c close n
  pub a_inverts : Inverts m 0 (n - 1) a a_inverses close.a close_a_inverse
  pub output_long : 2 * n - 1 ≤ length output
  pub work_long : work_length ≤ length work

-- c_1 needs no inverse
pub record DecomposeInput (m : ℕ) (a b c a_inverses c_inverses : List ℕ) (close : Row) (close_a_inverse close_c_inverse : ℕ)
    (coefficients : List ℕ) (n : ℕ) (output work : List ℕ) : Type 0 where
  pub closed : ClosedInput m a b c close n
  pub a_inverts : Inverts m 0 (n - 1) a a_inverses close.a close_a_inverse
  pub c_inverts : Inverts m 1 (n - 1) c c_inverses close.c close_c_inverse
  pub coefficients_hold : Holds m n coefficients
  pub output_long : n ≤ length output
  pub work_long : work_length ≤ length work

-- ---- the first n - 1 rows are a family that can be lent, and what stands beside closes it
pub taken-inverts : {m first r k : ℕ} {list inverses : List ℕ} {x y : ℕ} → k ≡ r → Inverts m first r list inverses x y
    → Inverts m first k (take r list) inverses x y
taken-inverts {r = r} {list = list} e h = record {
  long = omega (arith, e, h.long);
  inverts = λ i g l. rw (get_or-take r list i 0 (omega (arith, e))) (h.inverts i g (omega (arith, e)));
  closes = λ g. h.closes (omega (arith, e));
}

module _ {m : ℕ} {a b c : List ℕ} {close : Row} {n : ℕ} where
  pub closed-lending : ClosedInput m a b c close n → Lending (lent m (n - 1) a b c ones)
  closed-lending closed = taken-lending closed.rows

  pub moments-closed : {v output work : List ℕ} {close_a : ℕ} → MomentsCoreInput m a b c v close close_a n output work
      → ClosedBy (lent m (n - 1) a b c ones) close v close_a
  moments-closed input =
      search (input.closed.closing, taken-inverts (length-take-le (n - 1) a input.closed.rows.a_holds.long) input.a_inverts)

  module _ {v w u output work : List ℕ} {close_a close_c : ℕ} (input : DecomposeInput m a b c v w close close_a close_c u n output work) where
    pub decompose-closed : ClosedBy (lent m (n - 1) a b c ones) close v close_a
    decompose-closed =
        search (input.closed.closing, taken-inverts (length-take-le (n - 1) a input.closed.rows.a_holds.long) input.a_inverts)

    pub decompose-inverts : Inverts m 1 (rows (lent m (n - 1) a b c ones)) (take (n - 1) c) w close.c close_c
    decompose-inverts = taken-inverts (length-take-le (n - 1) a input.closed.rows.a_holds.long) input.c_inverts

-- an inverse of the closing row's a, and of its c where there are rows, is handed in beside
module _ {m r : ℕ} {a b c : List ℕ} {close : Row} (long : Long r a b c) (accepted : Accepted (lent m r a b c close)) where
  pub accepted-closed : ClosedInput m a b c close (r + 1)
  accepted-closed =
      let rows_are : r + 1 - 1 ≡ r = omega arith in
      record {
        rows = rw rows_are (accepted-rows m r a b c close long accepted);
        closing = accepted-closing m r a b c close long accepted;
        least = omega arith;
        most = omega (arith, accepted-few m r a b c close long accepted);
      }

  module _ {v : List ℕ} {close_a : ℕ} (a_inverts : Inverts m 0 (r + 1 - 1) a v close.a close_a) where
    pub accepted-moments : {output work : List ℕ} → 2 * (r + 1) - 1 ≤ length output → work_length ≤ length work
        → MomentsCoreInput m a b c v close close_a (r + 1) output work
    accepted-moments room work = record { closed = accepted-closed; a_inverts = a_inverts; output_long = room; work_long = work }

    pub accepted-decompose : {w u output work : List ℕ} {close_c : ℕ} → Inverts m 1 (r + 1 - 1) c w close.c close_c
        → Holds m (r + 1) u → r + 1 ≤ length output → work_length ≤ length work
        → DecomposeInput m a b c v w close close_a close_c u (r + 1) output work
    accepted-decompose c_inverts curve room work = record {
      closed = accepted-closed;
      a_inverts = a_inverts;
      c_inverts = c_inverts;
      coefficients_hold = curve;
      output_long = room;
      work_long = work;
    }
