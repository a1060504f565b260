-- Lists that the tree's recursion is lent whole.
-- Proved: the tree of a family is that of the family's first rows, as many as it has. Assumes nothing.
use Rattle.std.proofs.Common.{◌≡◌, refl, ◌∙◌, sym, ap, List, ℕ, ◌+◌, length, get_or, take, take_all, arith}
use Rattle.definitions.specs.Family.{family, row_of}
use Rattle.lists.specs.Lending.{Lending}
use Rattle.lists.specs.Lent.{lent-whole}
use Rattle.numbers.specs.Regions.{written}
use Rattle.tree_model.specs.Tree.{padded, leaf}
use Rattle.subproduct.specs.Layout.{matrix_list, tree_list}
use Rattle.subproduct.specs.Leaf.{LeafInput}
use Rattle.subproduct.specs.Build.{BuildInput, first_rows, leaf-input, leaf-stored}

module _ {m : ℕ} {a b c : List ℕ} (lending : Lending (family m a b c)) where
  pub tree-first : padded (first_rows (family m a b c) (length a)) ≡ padded (family m a b c)
  tree-first = ap padded (lent-whole m a b c lending.b_length lending.c_length)

  module _ {w : List ℕ} {at t : ℕ} (h : BuildInput (family m a b c) (length a) w at 0 1 t) {pa pb pc qa qb qc : ℕ}
      (epa : pa ≡ get_or a (t + 1) 0) (epb : pb ≡ get_or b (t + 1) 0) (epc : pc ≡ get_or c (t + 1) 0)
      (eqa : qa ≡ get_or a (t + 2) 0) (eqb : qb ≡ get_or b (t + 2) 0) (eqc : qc ≡ get_or c (t + 2) 0) where
    first : (list : List ℕ) (i : ℕ) → length list ≡ length a → get_or list i 0 ≡ get_or (take (length a) list) i 0
    first list i long = ap (λ l. get_or l i 0) (sym (take_all (length a) list (omega arith)))

    pub whole_leaf-input : LeafInput m w at pa pb pc qa qb qc
    whole_leaf-input = leaf-input h
        (epa ∙ first a (t + 1) refl) (epb ∙ first b (t + 1) lending.b_length) (epc ∙ first c (t + 1) lending.c_length)
        (eqa ∙ first a (t + 2) refl) (eqb ∙ first b (t + 2) lending.b_length) (eqc ∙ first c (t + 2) lending.c_length)

    pub whole_leaf-stored : {w' : List ℕ} → w' ≡ written w at (matrix_list (leaf m (row_of pa pb pc) (row_of qa qb qc)))
        → w' ≡ written w at (tree_list (padded (family m a b c)) 0 t)
    whole_leaf-stored e = leaf-stored h
        (epa ∙ first a (t + 1) refl) (epb ∙ first b (t + 1) lending.b_length) (epc ∙ first c (t + 1) lending.c_length)
        (eqa ∙ first a (t + 2) refl) (eqb ∙ first b (t + 2) lending.b_length) (eqc ∙ first c (t + 2) lending.c_length) e
        ∙ ap (λ f. written w at (tree_list f 0 t)) tree-first
