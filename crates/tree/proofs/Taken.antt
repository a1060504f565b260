-- A family and a curve of it, lent whole, are what the tree's steps take: n is the number of entries, one more than the rows.
-- Proved: that; what the steps leave of the first n entries, by the tree model, is what the definitions say of all; a step that is lent a
-- list whole does what it does with that list's length as a count; what is written over the first numbers of a longer output stands at its
-- front (front-output). Assumes nothing.
use Rattle.std.proofs.Common.{◌≡◌, refl, ◌∙◌, sym, ap, subst, List, ◌++◌, ℕ, suc, ◌+◌, ◌-◌, ◌<◌, ◌≤◌, length, take, drop, take_all, arith}
use Rattle.definitions.specs.Answers.{cleared}
use Rattle.definitions.specs.Family.{Family, Curve, family, ones, rows, size}
use Rattle.definitions.specs.Refusals.{work_length}
use Rattle.lists.specs.Held.{Output}
use Rattle.lists.specs.Lent.{lent}
use Rattle.lists.specs.Lending.{Lending, lending-least, lending-lent, lending-curve, lending-family}
use Rattle.lists.specs.Whole.{written-whole}
use Rattle.numbers.specs.Lists.{Filling}
use Rattle.numbers.specs.Products.{plus_product}
use Rattle.numbers.specs.Regions.{part}
use Rattle.theory.specs.Closing.{EqualLengths}
use Rattle.tree.specs.Core.{TreeOutput}
use Rattle.tree.specs.Input.{Input}
use Rattle.tree.specs.Root.{RootInput, root_entry, root_ends}
use Rattle.tree.specs.RootPair.{PairInput, PairOutput}

-- a curve is the first of its own entries: what a step does with the one it does with the other
module _ {m b a : ℕ} {u w : List ℕ} {at n : ℕ} where
  pub pair-curve : PairInput m b a u (length u) w at n → take (length u) u ≡ u
  pair-curve h = take_all (length u) u (omega arith)

  pub whole-pair : {w' : List ℕ} → PairOutput m b a (take (length u) u) w at n w' → PairOutput m b a u w at n w'
  whole-pair {w'} = subst (λ v. PairOutput m b a v w at n w') (take_all (length u) u (omega arith))

  pub taken-pair : {w' : List ℕ} → PairOutput m b a u w at n w' → PairOutput m b a (take (length u) u) w at n w'
  taken-pair {w'} = subst (λ v. PairOutput m b a v w at n w') (sym (take_all (length u) u (omega arith)))

-- the last step of Expand writes its output whole
pub root-whole : {m : ℕ} {w : List ℕ} {at span : ℕ} {first output : List ℕ} → RootInput m w at span first (length output) output
    → {now : List ℕ} {k : ℕ} → k ≡ length output → Filling (root_entry m w at span first) k output now
    → now ≡ plus_product m (length output) (part w at span) (part w (at + span) span) first
root-whole {output = output} h e f = root_ends h e f ∙ written-whole _ output (length output) refl

-- a conversion of lists that are just as long, over the front of longer ones
pub front-output : (convert : Family → List ℕ → List ℕ) (u : List ℕ) {f : Family} {output front work work' : List ℕ} {k : ℕ} → k ≡ size f
    → front ≡ convert f (take k u) → work' ≡ cleared work
    → Output (convert f (take (size f) u)) (size f) output (front ++ drop k output) work work'
front-output convert u {f} {output} {k = k} is made wiped = record {
  written = ap (λ r. r ++ drop k output) made ∙ ap (λ n. convert f (take n u) ++ drop n output) is;
  wiped = wiped;
}

module _ {m : ℕ} {a b c u : List ℕ} (output work : List ℕ) (lending : Lending (family m a b c)) (curve : Curve (family m a b c) u)
    (few : length u ≤ 256) (room : length output ≡ length u) (working : work_length ≤ length work) where
  pub taken : Input m a b c u (length u) output work
  taken = record {
    rows = lending-lent lending curve;
    curve_holds = lending-curve lending curve;
    least = lending-least lending curve;
    most = few;
    output_long = omega arith;
    work_long = working;
  }

  positive : 0 < m
  positive = omega (arith, lending.lent.modulus.least)

  equal : EqualLengths (family m a b c)
  equal = record { b_length = lending.b_length; c_length = lending.c_length }

  whole_curve : take (length u) u ≡ u
  whole_curve = take_all (length u) u (omega arith)

  -- way: what the steps compute, which on this input is what is asked for
  module _ (way convert : Family → List ℕ → List ℕ)
      (same : (f : Family) → 0 < f.m → EqualLengths f → (u : List ℕ) → length u ≡ suc (rows f) → way f u ≡ convert f u) where
    same-here : way (family m a b c) u ≡ convert (family m a b c) u
    same-here = same (family m a b c) positive equal u curve.long

    pub tree-made : {vectors : Family → List ℕ → List ℕ} {output' work' : List ℕ}
        → TreeOutput way vectors (lent m (length u - 1) a b c ones) (take (length u) u) (length u) output output' work work'
        → TreeOutput convert vectors (family m a b c) u (length u) output output' work work'
    tree-made {vectors} {output'} {work'} left =
        let t = subst (λ s. TreeOutput way vectors (family m a b c) s (length u) output output' work work') whole_curve
        (subst (λ f. TreeOutput way vectors f (take (length u) u) (length u) output output' work work') (lending-family lending curve) left) in
        record {
          written = t.written ∙ ap (λ r. r ++ drop (length u) output) same-here;
          tree_stands = t.tree_stands;
          vectors_stand = t.vectors_stand;
          kept = t.kept;
        }

    pub alone-made : {output' work' : List ℕ}
        → Output (way (lent m (length u - 1) a b c ones) (take (length u) u)) (length u) output output' work work'
        → output' ≡ convert (family m a b c) u
    alone-made left = left.written ∙ written-whole _ output (length u) room
        ∙ ap (way (lent m (length u - 1) a b c ones)) whole_curve ∙ ap (λ f. way f u) (lending-family lending curve) ∙ same-here
