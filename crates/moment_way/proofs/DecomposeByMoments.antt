-- Decompose by the moments, step by step: the moments, the product with their Hankel matrix, Adjoint, and a division by the norms.
-- Proved: each step is handed what it requires; the product that divides entry i is the inverse of norm i, so that the last step leaves
-- Decompose; with one coefficient its remainder is the answer. These rest on `divided` and Weighed, which edits of specs/ change.
-- Assumes nothing.
use Rattle.std.specs.Prelude.{◌≡◌, refl, ℕ, suc, ◌+◌, ◌*◌, ◌-◌, ◌%◌, ◌≤◌, ◌<◌, length, take, drop, set, replicate}
use Rattle.std.proofs.Math.Path.{sym, ap, ap₂}
use Rattle.std.proofs.Common.{◌∙◌, arith, length-append, length-take-le, get_or-take}
use mathlib.Core.List.{List, ◌++◌}
use Rattle.std.proofs.Math.Logic.{by_cases}
use Rattle.std.proofs.Math.Decide.{dec_lt}
use Rattle.std.proofs.Math.Nat.{mul_comm}
use Rattle.std.proofs.Math.ListN.{get_or, get_or-append, get_or-eq_default}
use Rattle.std.proofs.Math.Seq.{drop-append_seam}
use Rattle.definitions.specs.Answers.{cleared}
use Rattle.definitions.specs.Conversion.{adjoint, decompose}
use Rattle.definitions.specs.Family.{Family, Row, Convertible, Curve, ones, size, row_at}
use Rattle.definitions.specs.Number.{sum, table, HasInverse, inverse}
use Rattle.definitions.specs.Orthogonality.{moments, norm}
use Rattle.theory.specs.Alone.{decompose-alone}
use Rattle.theory.specs.Closing.{closed_by}
use Rattle.theory.specs.ByMoments.{hankel_product, moments_decompose, hankel_product-curve, moments-decompose}
use Rattle.theory.specs.Moments.{moments-length, moments-below}
use Rattle.theory.specs.NormInverse.{signed_inverse, norm-inverse}
use Rattle.numbers.specs.Lists.{filled, table-length, table-equal}
use Rattle.numbers.specs.Products.{Below, transposed_at, transposed}
use Rattle.numbers.specs.Sums.{sum-equal}
use Rattle.tree_model.specs.Tree.{with_tree, tree_adjoint}
use Rattle.tree_model.proofs.TreeAdjoint.{tree-adjoint}
use Rattle.lists.specs.Entries.{cleared-length, cleared-twice}
use Rattle.lists.specs.Held.{Output, held_below}
use Rattle.lists.specs.Inverses.{inverts-at}
use Rattle.lists.specs.Lent.{lent}
use Rattle.tree.specs.Input.{Input}
use Rattle.tree.specs.Core.{alone-output}
use Rattle.moment_way.specs.Input.{MomentsCoreInput, DecomposeInput}
use Rattle.moment_way.specs.Hankel.{HankelInput, Weighed, moments-room}
use Rattle.moment_way.specs.Moments.{entry_or}
use Rattle.moment_way.specs.Polynomials.{closed-size, closed-lengths}
use Rattle.moment_way.specs.Decompose.{divided, DivideInput}

-- ---- the steps of Decompose
tree_adjoint-close : (f : Family) (row : Row) (u : List ℕ) → tree_adjoint (closed_by row f) u ≡ tree_adjoint f u
unfolding tree_adjoint with_tree
tree_adjoint-close f row u = refl

adjoint-length : (f : Family) (u : List ℕ) → length (adjoint f u) ≡ size f
unfolding adjoint
adjoint-length f u = table-length (size f) _

module _ {m : ℕ} {a b c a_inverses c_inverses : List ℕ} {close : Row} {close_a_inverse close_c_inverse : ℕ} {coefficients : List ℕ} {n : ℕ}
    {output work : List ℕ}
    (input : DecomposeInput m a b c a_inverses c_inverses close close_a_inverse close_c_inverse coefficients n output work) where
  abbrev f : Family
  f = lent m (n - 1) a b c close

  abbrev u : List ℕ
  u = take n coefficients

  two : 2 ≤ m
  two = input.closed.rows.modulus.least

  positive : 0 < m
  positive = omega (arith, two)

  sized : size f ≡ n
  sized = closed-size input.closed

  pub decompose-length : length u ≡ n
  decompose-length = length-take-le n coefficients input.coefficients_hold.long

  u-below : Below m u
  u-below = held_below m n coefficients positive input.coefficients_hold

  pub decompose-one : n ≡ 1 → {output' work' : List ℕ} → output' ≡ set output 0 (get_or coefficients 0 0 % m) → work' ≡ cleared work
      → Output (decompose f u) n output output' work work'
  decompose-one e g w = alone-output m coefficients e input.output_long (decompose-alone f u (omega (arith, sized)) two) g w

  module _ (more : 2 ≤ n) where
    a-inverts : (i : ℕ) → get_or (take (n - 1) a) i close.a * get_or (take (n - 1) a_inverses) i close_a_inverse % m ≡ 1
    a-inverts i = inverts-at input.a_inverts input.closed.rows.a_holds.long (omega arith) i (omega arith)

    -- the inverses of the c, row 2 to the closing row
    c-inverts : (i : ℕ) → get_or (take (n - 1) c) (suc i) close.c * get_or (take (n - 1) c_inverses) (suc i) close_c_inverse % m ≡ 1
    c-inverts i = inverts-at input.c_inverts input.closed.rows.c_holds.long (omega arith) (suc i) (omega arith)

    a-inverse : (i : ℕ) → HasInverse m (row_at f i).a
    unfolding HasInverse row_at
    a-inverse i = (get_or (take (n - 1) a_inverses) i close_a_inverse, a-inverts i)

    convertible : Convertible f
    unfolding HasInverse row_at
    convertible = record {
      modulus = two;
      a_inverse = λ i _. a-inverse i;
      c_inverse = λ i _. (get_or (take (n - 1) c_inverses) (suc i) close_c_inverse, c-inverts i);
    }

    norm-is : (i : ℕ) → signed_inverse m (entry_or c_inverses (n - 1) close_c_inverse) i * entry_or a (n - 1) close.a i % m ≡ inverse m (norm f i)
    unfolding row_at entry_or
    norm-is i = norm-inverse f two (entry_or c_inverses (n - 1) close_c_inverse) i (a-inverse i) (λ j _. c-inverts j)

    -- the product with the Hankel matrix of the moments
    pub decompose-hankel : HankelInput m n (moments f) coefficients
    decompose-hankel = record {
      positive = positive;
      most = input.closed.rows.modulus.greatest;
      least = input.closed.least;
      few = input.closed.most;
      moments_long = count;
      moments_below = λ i. by_cases (dec_lt i (2 * size f - 1)) (λ l. moments-below f positive i l)
          (λ l. rw (get_or-eq_default (moments f) 0 {n = i} (omega (arith, moments-length f))) positive);
      coefficients_hold = input.coefficients_hold;
    }
      where
        count : length (moments f) ≡ 2 * n - 1
        count = moments-length f ∙ ap (λ k. 2 * k - 1) sized

    module _ {blank : List ℕ} (z : blank ≡ replicate 511 0) where
      pub decompose-moments : MomentsCoreInput m a b c a_inverses close close_a_inverse n (take 255 (drop 128 blank)) work
      decompose-moments = record {
        closed = input.closed;
        a_inverts = input.a_inverts;
        output_long = omega (arith, moments-room z, input.closed.most);
        work_long = input.work_long;
      }

      module _ {moment work₁ : List ℕ} (h : Output (moments f) (2 * n - 1) (take 255 (drop 128 blank)) moment work work₁)
          {weighed : List ℕ} (product : Weighed m n u (moments f) weighed) where
        abbrev weighing : List ℕ
        weighing = hankel_product f u

        weighing-is : transposed m n u (moments f) ≡ weighing
        unfolding transposed hankel_product transposed_at
        weighing-is =
            table-equal n _ _ (λ i l. ap (λ s. s % m) (ap (λ k. sum k (λ j. get_or u j 0 * get_or (moments f) (i + j) 0)) decompose-length
            ∙ sum-equal n _ _ (λ j k. mul_comm (get_or u j 0) (get_or (moments f) (i + j) 0))))
            ∙ ap (λ k. table k (λ i. sum k (λ j. get_or (moments f) (i + j) 0 * get_or u j 0) % m)) (sym sized)

        weighing-curve : Curve f weighing
        weighing-curve = hankel_product-curve f positive u

        weighed-is : take n weighed ≡ weighing
        weighed-is = product.is ∙ weighing-is

        pub decompose-adjoint : Input m a b c weighed n output work₁
        decompose-adjoint = record {
          rows = input.closed.rows;
          curve_holds = record {
            long = product.long;
            below = λ i l. rw (← get_or-take n weighed i 0 l, weighed-is) (weighing-curve.below i (rw sized l));
          };
          least = input.closed.least;
          most = omega (arith, input.closed.most);
          output_long = input.output_long;
          work_long = rw (h.wiped, cleared-length work input.work_long) input.work_long;
        }

        module _ {output₁ work₂ : List ℕ}
            (o : Output (tree_adjoint (lent m (n - 1) a b c ones) (take n weighed)) n output output₁ work₁ work₂) where
          -- Adjoint of it, and each entry divided by its norm
          abbrev entries : List ℕ
          entries = adjoint f weighing

          abbrev quotients : ℕ → ℕ
          quotients = divided m a c_inverses close.a close_c_inverse n output₁

          entries-long : length entries ≡ n
          entries-long = adjoint-length f weighing ∙ sized

          adjoint-is : output₁ ≡ entries ++ drop n output
          adjoint-is = o.written ∙ ap (λ t. t ++ drop n output)
              (ap (tree_adjoint (lent m (n - 1) a b c ones)) weighed-is ∙ sym (tree_adjoint-close (lent m (n - 1) a b c ones) close weighing)
              ∙ tree-adjoint f positive (closed-lengths input.closed) weighing weighing-curve.long)

          pub decompose-divide : DivideInput m a c_inverses n output₁
          decompose-divide = record {
            positive = positive;
            least = input.closed.least;
            most = input.closed.most;
            a_long = input.closed.rows.a_holds.long;
            c_inverses_long = input.c_inverts.long;
            output_long = omega (arith, ap length adjoint-is, length-append entries (drop n output), entries-long);
          }

          quotient_is : (j : ℕ) → j < n → quotients j ≡ get_or entries j 0 * inverse m (norm f j) % m
          unfolding divided
          quotient_is j l = ap₂ (λ x y. x * y % m)
              (ap (λ t. get_or t j 0) adjoint-is ∙ get_or-append entries (drop n output) 0 j (omega (arith, entries-long))) (norm-is j)

          quotients-are : table n quotients ≡ decompose f u
          unfolding moments_decompose
          quotients-are =
              let curve : Curve f u = record { long = decompose-length ∙ sym sized; below = λ i _. u-below i } in
              table-equal n _ _ quotient_is ∙ ap (λ k. table k (λ j. get_or entries j 0 * inverse m (norm f j) % m)) (sym sized)
              ∙ moments-decompose f convertible u curve

          rest-is : drop n output₁ ≡ drop n output
          rest-is = ap (drop n) adjoint-is ∙ ap (λ k. drop k (entries ++ drop n output)) (sym entries-long)
              ∙ drop-append_seam entries (drop n output)

          pub decompose-is : {output₂ : List ℕ} → output₂ ≡ filled quotients n output₁ → Output (decompose f u) n output output₂ work work₂
          unfolding filled
          decompose-is e = record {
            written = e ∙ ap₂ ◌++◌ quotients-are rest-is;
            wiped = o.wiped ∙ ap cleared h.wiped ∙ cleared-twice work;
          }
