-- A family, its closing row and the inverses, lent whole, are what the steps take: n is the number of rows and one more.
-- Proved: the rows with the closing row, and these from the second on, can be lent to the tree; what it leaves of both is F_n and G_{n-1};
-- what the moments and Decompose assume. Assumes nothing.
use Rattle.std.proofs.Common.{◌≡◌, ◌∙◌, refl, ap, ap₂, sym, List, ◌++◌, ℕ, suc, ◌+◌, ◌*◌, ◌-◌, ◌<◌, ◌≤◌, length, take, drop, take_all, length-take-le, subst, get_or, get_or-take, replicate, set, add-one, arith}
use Rattle.definitions.specs.Answers.{cleared}
use Rattle.definitions.specs.Conversion.{expand, decompose}
use Rattle.definitions.specs.Family.{Family, Row, RowBelow, Curve, family, ones}
use Rattle.definitions.specs.Refusals.{work_length}
use Rattle.lists.specs.Held.{Output}
use Rattle.lists.specs.Inverses.{Inverts}
use Rattle.lists.specs.Lent.{LentRows, lent}
use Rattle.lists.specs.Lending.{Lending, taken-lending}
use Rattle.lists.specs.Whole.{written-whole}
use Rattle.theory.specs.Closing.{closed_by}
use Rattle.tree_model.specs.Extended.{last_unit}
use Rattle.tree_model.proofs.Extended.{last_unit-length}
use Rattle.tree_model.specs.Tree.{tree_expand}
use Rattle.tree_model.proofs.TreeExpand.{tree-expand}
use Rattle.moment_way.specs.Input.{ClosedBy, ClosedInput, PolynomialsInput, Polynomials, MomentsCoreInput, DecomposeInput}
use Rattle.moment_way.specs.Polynomials.{Extends, LastInput, extended-lent, rest, rest-whole, rest-holds, polynomials-are, unit-is, unit-below}

-- the list 0 .. 0 1 is a curve
module _ {blank : List ℕ} (z : blank ≡ replicate 255 0) {m : ℕ} {a b c : List ℕ} (lending : Lending (family m a b c)) (few : length a ≤ 128)
    (output work : List ℕ) (room : length output ≡ suc (length a)) (working : work_length ≤ length work) where
  last : LastInput m a b c (length a) output work
  last = record { rows = lending.lent; most = few; output_long = omega arith; work_long = working }

  pub unit : take (length a + 1) (set blank (length a) 1) ≡ last_unit (length a)
  unit = ap (λ k. take k (set blank (length a) 1)) (add-one (length a)) ∙ unit-is z last

  pub unit-curve : Curve (family m a b c) (take (length a + 1) (set blank (length a) 1))
  unit-curve = record {
    long = ap length unit ∙ last_unit-length (length a);
    below = λ i h. rw (get_or-take (length a + 1) (set blank (length a) 1) i 0 (omega arith)) (unit-below z last i (omega arith));
  }

-- Expand of 0 .. 0 1 is the tree's
by-tree : {m : ℕ} {a b c : List ℕ} → Lending (family m a b c)
    → expand (family m a b c) (last_unit (length a)) ≡ tree_expand (family m a b c) (last_unit (length a))
by-tree {m} {a} {b} {c} lending =
    sym (tree-expand (family m a b c) (omega (arith, lending.lent.modulus.least))
    (record { b_length = lending.b_length; c_length = lending.c_length }) (last_unit (length a)) (last_unit-length (length a)))

module _ {m : ℕ} {a b c : List ℕ} {close : Row} (lending : Lending (family m a b c)) (closing : RowBelow m close) {n : ℕ}
    (count : n ≡ length a + 1) (few : n ≤ 128) where
  rows_are : n - 1 ≡ length a
  rows_are = omega (arith, count)

  pub closed : ClosedInput m a b c close n
  closed = record { rows = rw rows_are lending.lent; closing = closing; least = omega (arith, count); most = few }

  pub closed-lent : lent m (n - 1) a b c close ≡ record { m = m; a = a; b = b; c = c; close = close }
  closed-lent = rw (
    rows_are,
    take_all (length a) a (omega arith),
    take_all (length a) b (omega (arith, lending.b_length)),
    take_all (length a) c (omega (arith, lending.c_length)),
  )

  -- what the steps say of the first rows of the lists they say of the family
  pub polynomials-lent : {divisor numerator work divisor' numerator' work' : List ℕ}
      → Polynomials (record { m = m; a = a; b = b; c = c; close = close }) (suc (length a)) divisor divisor' numerator numerator' work work'
      → Polynomials (lent m (n - 1) a b c close) n divisor divisor' numerator numerator' work work'
  polynomials-lent {divisor} {numerator} {work} {divisor'} {numerator'} {work'} made =
      let same : suc (length a) ≡ n = omega (arith, count) in
      subst (λ k. Polynomials (lent m (n - 1) a b c close) k divisor divisor' numerator numerator' work work') same
      (subst (λ f. Polynomials f (suc (length a)) divisor divisor' numerator numerator' work work') (sym closed-lent) made)

  pub moments-input : {v output work : List ℕ} {y : ℕ} → Inverts m 0 (length a) a v close.a y → length output ≡ 2 * n - 1
      → work_length ≤ length work → MomentsCoreInput m a b c v close y n output work
  moments-input inverts room working = record {
    closed = closed;
    a_inverts = rw rows_are inverts;
    output_long = omega (arith, room);
    work_long = working;
  }

  pub decompose-input : {v w u output work : List ℕ} {y z : ℕ} → Inverts m 0 (length a) a v close.a y → Inverts m 1 (length a) c w close.c z
      → length u ≡ n → ((i : ℕ) → i < n → get_or u i 0 < m) → length output ≡ n → work_length ≤ length work
      → DecomposeInput m a b c v w close y z u n output work
  decompose-input a_inverts c_inverts long below room working = record {
    closed = closed;
    a_inverts = rw rows_are a_inverts;
    c_inverts = rw rows_are c_inverts;
    coefficients_hold = record { long = omega (arith, long); below = below };
    output_long = omega (arith, room);
    work_long = working;
  }

  pub decompose-whole : (u : List ℕ) {output output' work work' : List ℕ} → length u ≡ n → length output ≡ n
      → Output (decompose (lent m (n - 1) a b c close) (take n u)) n output output' work work'
      → output' ≡ decompose (record { m = m; a = a; b = b; c = c; close = close }) u
  decompose-whole u {output} long room left =
      left.written ∙ written-whole _ output n room ∙ ap₂ decompose closed-lent (take_all n u (omega (arith, long)))

  -- ---- the rows with the closing row, and these from the second on
  module _ {xs ys zs : List ℕ} (ex : Extends a (length a) close.a xs) (ey : Extends b (length b) close.b ys)
      (ez : Extends c (length c) close.c zs) where
    dx : Extends a (n - 1) close.a xs
    dx = rw rows_are ex

    dy : Extends b (n - 1) close.b ys
    dy = rw (rows_are, ← lending.b_length) ey

    dz : Extends c (n - 1) close.c zs
    dz = rw (rows_are, ← lending.c_length) ez

    extended : LentRows m (suc (n - 1)) xs ys zs
    extended = extended-lent closed dx dy dz

    all-rows : LentRows m n xs ys zs
    all-rows = let more : n ≡ suc (n - 1) = omega (arith, count) in rw more extended

    pub all-lending : Lending (lent m n xs ys zs ones)
    all-lending = taken-lending all-rows

    -- all rows but the first
    abbrev others_of : Family
    others_of = family m (take (n - 1) (drop 1 xs)) (take (n - 1) (drop 1 ys)) (take (n - 1) (drop 1 zs))

    other-rows : LentRows m (n - 1) (drop 1 xs) (drop 1 ys) (drop 1 zs)
    other-rows = record {
      modulus = lending.lent.modulus;
      a_holds = rw (rest-whole dx) at (rest-holds dx extended.a_holds);
      b_holds = rw (rest-whole dy) at (rest-holds dy extended.b_holds);
      c_holds = rw (rest-whole dz) at (rest-holds dz extended.c_holds);
    }

    pub others-lending : Lending others_of
    others-lending = taken-lending other-rows

    others-are : lent m (n - 1) (rest xs) (rest ys) (rest zs) ones ≡ others_of
    others-are = rw (rest-whole dx, rest-whole dy, rest-whole dz)

    module _ {divisor numerator work divisor' numerator' work' work'' : List ℕ}
        (input : PolynomialsInput m a b c close n divisor numerator work)
        (first : divisor' ≡ expand (lent m n xs ys zs ones) (last_unit (length (take n xs)))) (wiped : work' ≡ cleared work)
        (second : numerator' ≡ expand others_of (last_unit (length (take (n - 1) (drop 1 xs))))) (again : work'' ≡ cleared work') where
      divisor-left : Output (tree_expand (lent m n xs ys zs ones) (last_unit n)) (suc n) divisor (divisor' ++ drop (n + 1) divisor) work work'
      divisor-left = record {
        written = ap₂ (λ t k. t ++ drop k divisor)
            (first ∙ by-tree all-lending
            ∙ ap (λ r. tree_expand (lent m n xs ys zs ones) (last_unit r)) (length-take-le n xs all-rows.a_holds.long)) (add-one n);
        wiped = wiped;
      }

      more : n ≡ suc (n - 1)
      more = omega (arith, count)

      numerator-left : Output (tree_expand (lent m (n - 1) (rest xs) (rest ys) (rest zs) ones) (last_unit (n - 1))) (suc (n - 1))
          numerator (numerator' ++ drop n numerator) work' work''
      numerator-left = record {
        written = ap₂ (λ t k. t ++ drop k numerator)
            (second ∙ by-tree others-lending
            ∙ ap (λ r. tree_expand others_of (last_unit r)) (length-take-le (n - 1) (drop 1 xs) other-rows.a_holds.long)
            ∙ ap (λ g. tree_expand g (last_unit (n - 1))) (sym others-are)) more;
        wiped = again;
      }

      pub polynomials-made : Polynomials (record { m = m; a = a; b = b; c = c; close = close }) (suc (length a))
          divisor (divisor' ++ drop (n + 1) divisor) numerator (numerator' ++ drop n numerator) work work''
      polynomials-made =
          let same : n ≡ suc (length a) = omega (arith, count) in
          subst (λ k. Polynomials (record { m = m; a = a; b = b; c = c; close = close }) k
          divisor (divisor' ++ drop (n + 1) divisor) numerator (numerator' ++ drop n numerator) work work'') same
          (subst (λ f. Polynomials f n divisor (divisor' ++ drop (n + 1) divisor) numerator (numerator' ++ drop n numerator) work work'')
          closed-lent (polynomials-are closed dx dy dz input divisor-left numerator-left))

-- what Decompose assumes, of a curve and its family
pub decompose-asked : {m : ℕ} {a b c : List ℕ} {close : Row} {v w u output work : List ℕ} {y z : ℕ} → Lending (family m a b c)
    → ClosedBy (family m a b c) close v y → Inverts m 1 (length a) c w close.c z → Curve (closed_by close (family m a b c)) u → length u ≤ 128
    → length output ≡ length u → work_length ≤ length work → DecomposeInput m a b c v w close y z u (length u) output work
decompose-asked lending beside c_inverts curve few room working =
    decompose-input lending beside.closing (omega (arith, curve.long)) few beside.a_inverts c_inverts refl
    (λ i l. curve.below i (omega (arith, curve.long))) room working
