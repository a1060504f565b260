-- What the tree's cores assume of the lists that they are lent. The lists may be longer than the n - 1 rows or the n entries that take part.
--   Input   n - 1 rows and n entries of a curve, all below m, and room
-- Proved: it follows where the family of the lent lists is accepted, whatever closes it (accepted-input). What it says of the rows is what a
-- family that is lent asks of the first n - 1 (input-lending), and so it holds of these alone, as the cores ask it (input-asked). Assumes
-- nothing.
use Rattle.std.specs.Prelude.{◌≡◌, List, ℕ, ◌+◌, ◌-◌, ◌≤◌, length, take}
use Rattle.std.proofs.Common.{arith, subst, length-take-le}
use Rattle.definitions.specs.Family.{Row, Accepted, ones, size}
use Rattle.definitions.specs.Refusals.{work_length}
use Rattle.lists.specs.Held.{Holds}
use Rattle.lists.specs.Lending.{Lending, taken-lending}
use Rattle.lists.specs.Lent.{Long, LentRows, lent, accepted-few, accepted-rows}

pub record Input (m : ℕ) (a b c curve : List ℕ) (n : ℕ) (output work : List ℕ) : Type 0 where
  pub rows : LentRows m (n - 1) a b c
  pub curve_holds : Holds m n curve
  pub least : 1 ≤ n
  pub most : n ≤ 256
  pub output_long : n ≤ length output
  pub work_long : work_length ≤ length work

pub accepted-input : {m r : ℕ} {a b c u output work : List ℕ} {close : Row} → Long r a b c → Accepted (lent m r a b c close)
    → Holds m (r + 1) u → r + 1 ≤ length output → work_length ≤ length work → Input m a b c u (r + 1) output work
accepted-input {m} {r} {a} {b} {c} {close = close} long accepted curve room work =
    let rows_are : r + 1 - 1 ≡ r = omega arith in
    record {
      rows = rw rows_are (accepted-rows m r a b c close long accepted);
      curve_holds = curve;
      least = omega arith;
      most = omega (arith, accepted-few m r a b c close long accepted);
      output_long = room;
      work_long = work;
    }

module _ {m : ℕ} {a b c u : List ℕ} {n : ℕ} {output work : List ℕ} (h : Input m a b c u n output work) where
  pub input-lending : Lending (lent m (n - 1) a b c ones)
  input-lending = taken-lending h.rows

  pub input-asked : Input m (take (n - 1) a) (take (n - 1) b) (take (n - 1) c) u (size (lent m (n - 1) a b c ones)) output work
  input-asked =
      let count : length (take (n - 1) a) ≡ n - 1 = length-take-le (n - 1) a h.rows.a_holds.long in
      let all : size (lent m (n - 1) a b c ones) ≡ n = omega (arith, h.least) in
      rw all (record {
        rows = subst (λ r. LentRows m r (take (n - 1) a) (take (n - 1) b) (take (n - 1) c)) count input-lending.lent;
        curve_holds = h.curve_holds;
        least = h.least;
        most = h.most;
        output_long = h.output_long;
        work_long = h.work_long;
      })
