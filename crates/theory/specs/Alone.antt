-- With no rows n is 1 and F_0 = 1 is the only polynomial.
-- Proved: Expand, Adjoint and Decompose answer the remainder of the one entry. The tree ways do the same and build no tree.
-- The scope paper, 'The definitions': 'For n = 1 Expand, Adjoint and Decompose build no tree'. Assumes nothing.
use Rattle.std.specs.Prelude.{◌≡◌, refl, List, [], ◌∷◌, ℕ, zero, suc, ◌*◌, ◌%◌, ◌<◌}
use Rattle.std.proofs.Math.Path.{sym, ap}
use Rattle.std.proofs.Common.{◌∙◌, mod-eq_of_lt, zero-add, arith}
use Rattle.std.proofs.Math.Nat.{mul-one}
use Rattle.std.proofs.Math.ListN.{get_or}
use Rattle.definitions.specs.Conversion.{expand, adjoint, decompose, decompose_below, top}
use Rattle.definitions.specs.Family.{Family, rows, F, term}
use Rattle.definitions.specs.Number.{sum, table, inverse}
use Rattle.numbers.specs.Inverse.{inverse-unique}

table-alone : (m r : ℕ) (u : List ℕ) (g : ℕ → ℕ → ℕ) → r ≡ 0 → g 0 0 ≡ 1
    → table (suc r) (λ i. sum (suc r) (λ j. get_or u j 0 * g j i) % m) ≡ get_or u 0 0 % m ∷ []
unfolding table sum
table-alone m zero u g e one = ap (λ x. x % m ∷ []) (zero-add (get_or u 0 0 * g 0 0) ∙ ap (λ x. get_or u 0 0 * x) one ∙ mul-one (get_or u 0 0))
table-alone m (suc r) u g e one = absurd (omega arith)

F-constant : (f : Family) → F f 0 0 ≡ 1
unfolding F term
F-constant f = refl

module _ (f : Family) (u : List ℕ) (none : rows f ≡ 0) where
  pub expand-alone : expand f u ≡ get_or u 0 0 % f.m ∷ []
  unfolding expand
  expand-alone = table-alone f.m (rows f) u (F f) none (F-constant f)

  pub adjoint-alone : adjoint f u ≡ get_or u 0 0 % f.m ∷ []
  unfolding adjoint
  adjoint-alone = table-alone f.m (rows f) u (λ i j. F f j i) none (F-constant f)

  pub decompose-alone : 1 < f.m → decompose f u ≡ get_or u 0 0 % f.m ∷ []
  unfolding decompose decompose_below top F term
  decompose-alone h =
      let one : inverse f.m 1 ≡ 1 = sym (inverse-unique f.m 1 1 h h (mod-eq_of_lt h)) in
      ap (λ r. decompose_below f (suc r) u) none ∙ ap (λ x. x % f.m ∷ []) (ap (λ y. get_or u 0 0 * y) one ∙ mul-one (get_or u 0 0))
