-- A family that is lent whole, as the cores take it: three lists of one length, of residues. No number needs an inverse.
--   Lending f   the lists of f are equally long and below m, and m is a modulus
-- Proved: an accepted family can be lent, and the first rows of longer lists can; with a curve of it, it is the family of the first rows of its lists, one fewer than the curve has
-- entries, and the curve is the first of its own entries. Assumes nothing.
use Rattle.std.specs.Prelude.{◌≡◌, List, ◌++◌, ℕ, suc, ◌+◌, ◌-◌, ◌≤◌, length, take, drop}
use Rattle.std.proofs.Common.{◌∙◌, sym, ap, ap₂, arith, take_all, length-take-le, get_or-take}
use Rattle.definitions.specs.Family.{Family, Accepted, Curve, family, ones, rows}
use Rattle.lists.specs.Held.{Holds}
use Rattle.lists.specs.Lent.{LentRows, lent, lent-whole, accepted-rows}
use Rattle.lists.specs.Whole.{accepted-long, accepted-lent, written-whole}

pub record Lending (f : Family) : Type 0 where
  pub lent : LentRows f.m (rows f) f.a f.b f.c
  pub b_length : length f.b ≡ rows f
  pub c_length : length f.c ≡ rows f

taken-holds : {m r : ℕ} {list : List ℕ} → Holds m r list → Holds m r (take r list)
taken-holds {m} {r} {list} h = record {
  long = omega (arith, length-take-le r list h.long);
  below = λ i l. rw (get_or-take r list i 0 l) (h.below i l);
}

pub accepted-lending : {m : ℕ} {a b c : List ℕ} → Accepted (family m a b c) → Lending (family m a b c)
accepted-lending {m} {a} {b} {c} accepted = record {
  lent = accepted-rows m (length a) a b c ones (accepted-long accepted) (accepted-lent accepted);
  b_length = accepted.b_length;
  c_length = accepted.c_length;
}

pub taken-lending : {m r : ℕ} {a b c : List ℕ} → LentRows m r a b c → Lending (lent m r a b c ones)
taken-lending {m} {r} {a} {b} {c} h =
    let count : length (take r a) ≡ r = length-take-le r a h.a_holds.long in
    record {
      lent = rw count (record {
        modulus = h.modulus;
        a_holds = taken-holds h.a_holds;
        b_holds = taken-holds h.b_holds;
        c_holds = taken-holds h.c_holds;
      });
      b_length = length-take-le r b h.b_holds.long ∙ sym count;
      c_length = length-take-le r c h.c_holds.long ∙ sym count;
    }

module _ {m : ℕ} {a b c u : List ℕ} (lending : Lending (family m a b c)) (curve : Curve (family m a b c) u) where
  pub lending-rows : length u - 1 ≡ length a
  lending-rows = let long : length u ≡ suc (length a) = curve.long in omega arith

  pub lending-least : 1 ≤ length u
  lending-least = let long : length u ≡ suc (length a) = curve.long in omega arith

  pub lending-lent : LentRows m (length u - 1) a b c
  lending-lent = rw lending-rows lending.lent

  pub lending-curve : Holds m (length u) u
  lending-curve = let long : length u ≡ suc (length a) = curve.long in
      record { long = omega arith; below = λ i h. curve.below i (omega arith) }

  pub lending-family : lent m (length u - 1) a b c ones ≡ family m a b c
  lending-family = ap (λ r. lent m r a b c ones) lending-rows ∙ lent-whole m a b c lending.b_length lending.c_length

  -- what a core says of the first rows and entries it says of all
  pub lending-made : (convert : Family → List ℕ → List ℕ)
      → convert (lent m (length u - 1) a b c ones) (take (length u) u) ≡ convert (family m a b c) u
  lending-made convert = ap₂ convert lending-family (take_all (length u) u (omega arith))

  pub lending-written : (convert : Family → List ℕ → List ℕ) (output : List ℕ) {output' : List ℕ} → length output ≡ length u
      → output' ≡ convert (lent m (length u - 1) a b c ones) (take (length u) u) ++ drop (length u) output
      → output' ≡ convert (family m a b c) u
  lending-written convert output room e = e ∙ written-whole _ output (length u) room ∙ lending-made convert
