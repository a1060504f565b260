-- What the cores assume of the lists that they are lent. The lists may be longer than the n - 1 rows or the n coefficients that take part.
--   ConvertInput     what a conversion assumes; Decompose is lent the inverses of the a in their place
--   NormsCoreInput   what the norms assume
-- Proved: both follow where the family of the lent lists is accepted, whatever closes it; what a conversion assumes of longer lists makes their
-- first rows a family that can be lent, closed by 1 1 1, of which it assumes the same. Assumes nothing.
use Rattle.std.specs.Prelude.{◌≡◌, List, ℕ, suc, ◌+◌, ◌-◌, ◌≤◌, ◌<◌, length, take}
use Rattle.std.proofs.Common.{◌∙◌, ap, subst, arith, length-take-le}
use Rattle.definitions.specs.Family.{Family, Row, Accepted, ones, rows, size}
use Rattle.lists.specs.Held.{Holds}
use Rattle.lists.specs.Lending.{Lending, taken-lending}
use Rattle.lists.specs.Lent.{Long, LentRows, lent, accepted-few, accepted-rows}

pub record ConvertInput (m : ℕ) (a b c curve : List ℕ) (n : ℕ) (output : List ℕ) : Type 0 where
  pub rows : LentRows m (n - 1) a b c
  pub least : 1 ≤ n
  pub most : n ≤ 128
  pub curve_holds : Holds m n curve
  pub output_long : n ≤ length output

pub record NormsCoreInput (m : ℕ) (inverses c : List ℕ) (n : ℕ) (output : List ℕ) : Type 0 where
  pub positive : 0 < m
  pub least : 1 ≤ n
  pub inverses_long : n - 1 ≤ length inverses
  pub c_long : n - 1 ≤ length c
  pub output_long : n ≤ length output

-- what is assumed of lists makes their first rows a family, and is assumed of that
module _ {m n : ℕ} {a b c u output : List ℕ} (input : ConvertInput m a b c u n output) where
  pub convert-lending : Lending (lent m (n - 1) a b c ones)
  convert-lending = taken-lending input.rows

  pub convert-sized : size (lent m (n - 1) a b c ones) ≡ n
  convert-sized = ap suc (length-take-le (n - 1) a input.rows.a_holds.long) ∙ omega (arith, input.least)

  convert_first : ConvertInput m (take (n - 1) a) (take (n - 1) b) (take (n - 1) c) u (size (lent m (n - 1) a b c ones)) output
  convert_first =
      let rows_are : size (lent m (n - 1) a b c ones) - 1 ≡ rows (lent m (n - 1) a b c ones) = omega arith in
      record {
        rows = rw rows_are convert-lending.lent;
        least = omega arith;
        most = omega (arith, convert-sized, input.most);
        curve_holds = rw convert-sized input.curve_holds;
        output_long = omega (arith, convert-sized, input.output_long);
      }

  module _ {f : Family} (is : lent m (n - 1) a b c ones ≡ f) where
    pub convert-lent : Lending f
    convert-lent = subst Lending is convert-lending

    pub convert-asked : ConvertInput f.m f.a f.b f.c u (size f) output
    convert-asked = subst (λ g. ConvertInput g.m g.a g.b g.c u (size g) output) is convert_first

module _ {m r : ℕ} {a b c : List ℕ} {close : Row} (long : Long r a b c) (accepted : Accepted (lent m r a b c close)) where
  -- v stands in the place of the a
  pub accepted-convert : {v u output : List ℕ} → Holds m r v → Holds m (r + 1) u → r + 1 ≤ length output
      → ConvertInput m v b c u (r + 1) output
  accepted-convert holds curve room =
      let own : LentRows m r a b c = accepted-rows m r a b c close long accepted in
      let rows_are : r + 1 - 1 ≡ r = omega arith in
      record {
        rows = rw rows_are (record { modulus = own.modulus; a_holds = holds; b_holds = own.b_holds; c_holds = own.c_holds });
        least = omega arith;
        most = omega (arith, accepted-few m r a b c close long accepted);
        curve_holds = curve;
        output_long = room;
      }

  pub accepted-norms : {v output : List ℕ} → r ≤ length v → r + 1 ≤ length output → NormsCoreInput m v c (r + 1) output
  accepted-norms inverses room = record {
    positive = omega (arith, accepted.modulus.least);
    least = omega arith;
    inverses_long = omega arith;
    c_long = omega (arith, long.c_long);
    output_long = room;
  }
