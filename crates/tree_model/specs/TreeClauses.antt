-- The clauses of `tree_expand` and `tree_adjoint` as equations, without rows (no tree) and with rows, to rewrite by while they stay shut.
-- with_tree-cases takes a property of the answers apart into those two cases. Assumes nothing.
use Rattle.std.specs.Prelude.{◌≡◌, refl, List, [], ◌∷◌, ℕ, zero, suc, ◌%◌, ◌<◌, get_or}
use Rattle.std.proofs.Common.{arith}
use Rattle.definitions.specs.Family.{Family, rows, size}
use Rattle.tree_model.specs.Level.{level_for}
use Rattle.tree_model.specs.Tree.{padded, with_tree, expand_at, tree_expand, adjoint_at, tree_adjoint}

pub with_tree-cases : (P : List ℕ → Type 0) (f : Family) (u answer : List ℕ) → (rows f ≡ 0 → P (get_or u 0 0 % f.m ∷ []))
    → (0 < rows f → P answer) → P (with_tree f u answer)
unfolding with_tree
with_tree-cases P f u answer none some = at (rows f) refl
  where
    at : (r : ℕ) → rows f ≡ r → P (elim r as (λ _. List ℕ) [ zero ↦ get_or u 0 0 % f.m ∷ [] | suc r ↦ answer ])
    at zero e = none e
    at (suc r) e = some (omega arith)

pub tree_expand-alone : (f : Family) (u : List ℕ) → rows f ≡ 0 → tree_expand f u ≡ get_or u 0 0 % f.m ∷ []
unfolding tree_expand
tree_expand-alone f u e = with_tree-cases (λ x. x ≡ get_or u 0 0 % f.m ∷ []) f u _ (λ _. refl) (λ h. absurd (omega arith))

pub tree_expand-tree : (f : Family) (u : List ℕ) → 0 < rows f → tree_expand f u ≡ expand_at (padded f) (level_for (size f)) u
unfolding tree_expand
tree_expand-tree f u h = with_tree-cases (λ x. x ≡ expand_at (padded f) (level_for (size f)) u) f u _ (λ e. absurd (omega arith)) (λ _. refl)

pub tree_adjoint-alone : (f : Family) (u : List ℕ) → rows f ≡ 0 → tree_adjoint f u ≡ get_or u 0 0 % f.m ∷ []
unfolding tree_adjoint
tree_adjoint-alone f u e = with_tree-cases (λ x. x ≡ get_or u 0 0 % f.m ∷ []) f u _ (λ _. refl) (λ h. absurd (omega arith))

pub tree_adjoint-tree : (f : Family) (u : List ℕ) → 0 < rows f → tree_adjoint f u ≡ adjoint_at (padded f) (level_for (size f)) u
unfolding tree_adjoint
tree_adjoint-tree f u h = with_tree-cases (λ x. x ≡ adjoint_at (padded f) (level_for (size f)) u) f u _ (λ e. absurd (omega arith)) (λ _. refl)
