-- Worked examples of the tree. Each row of the table is a family, a list and what Expand and Adjoint make of the list.
--   none    no rows: no tree, the answer comes from F_0 alone
--   one     one row: a tree of one pair of rows, and no matrix of it is used
--   four    n = 5, of `definitions`: halves of four rows, three rows of padding; the least n at which the halves' order shows
--   seven   n = 8, with no padding
--   eight   n = 9: halves of eight rows, of which the left is joined from two joined quarters
-- expand-examples, adjoint-examples: the definitions give those lists; tree-expand-examples, tree-adjoint-examples: so does the
-- tree; tree-F-example, tree-G-example: F_5 and G_4 of `four`; span-examples: sizes of trees. All by computation, so that a wrong
-- tree is refused here, too. Assumes nothing.
use Rattle.std.specs.Prelude.{◌≡◌, refl, List, [], ◌∷◌, map, ℕ}
use Rattle.definitions.specs.Number.{sum, table}
use Rattle.definitions.specs.Family.{Family, family, row_at, times_x, term, F}
use Rattle.definitions.specs.Conversion.{expand, adjoint}
use Rattle.definitions.specs.Figures.{four}
use Rattle.numbers.specs.Products.{product_at, plus_product, plus_products, transposed_at, transposed, transposed_sum}
use Rattle.tree_model.specs.Extended.{extended, from_second, last_unit}
use Rattle.tree_model.specs.Level.{span, level_from, level_for}
use Rattle.tree_model.specs.Tree.{with_tree, leaf, join, node, expand_pair, up, expand_at, tree_expand}
use Rattle.tree_model.specs.Tree.{first_terms, adjoint_pair, down, root_pair, adjoint_at, tree_adjoint}

pub record Example : Type 0 where
  pub family : Family
  pub input : List ℕ
  pub expanded : List ℕ
  pub adjoined : List ℕ

abbrev none : Family
none = family 7 [] [] []

abbrev one : Family
one = family 2 (1 ∷ []) (1 ∷ []) (1 ∷ [])

abbrev seven : Family
seven = family 97 (2 ∷ 3 ∷ 5 ∷ 7 ∷ 11 ∷ 13 ∷ 17 ∷ []) (1 ∷ 4 ∷ 0 ∷ 9 ∷ 96 ∷ 25 ∷ 36 ∷ []) (19 ∷ 23 ∷ 29 ∷ 31 ∷ 37 ∷ 41 ∷ 43 ∷ [])

abbrev eight : Family
eight = family 10 (1 ∷ 3 ∷ 7 ∷ 9 ∷ 1 ∷ 3 ∷ 7 ∷ 9 ∷ []) (0 ∷ 1 ∷ 2 ∷ 3 ∷ 4 ∷ 5 ∷ 6 ∷ 7 ∷ []) (9 ∷ 7 ∷ 3 ∷ 1 ∷ 9 ∷ 7 ∷ 3 ∷ 1 ∷ [])

abbrev pub examples : List Example
examples =
    record { family = none; input = 5 ∷ []; expanded = 5 ∷ []; adjoined = 5 ∷ [] }
    ∷ record { family = one; input = 1 ∷ 1 ∷ []; expanded = 0 ∷ 1 ∷ []; adjoined = 1 ∷ 0 ∷ [] }
    ∷ record { family = four; input = 1 ∷ 2 ∷ 3 ∷ 4 ∷ 5 ∷ []; expanded = 6 ∷ 31 ∷ 7 ∷ 1 ∷ 20 ∷ []; adjoined = 1 ∷ 5 ∷ 32 ∷ 34 ∷ 4 ∷ [] }
    ∷ record {
      family = seven;
      input = 1 ∷ 2 ∷ 3 ∷ 4 ∷ 5 ∷ 6 ∷ 7 ∷ 8 ∷ [];
      expanded = 9 ∷ 13 ∷ 2 ∷ 23 ∷ 73 ∷ 42 ∷ 89 ∷ 89 ∷ [];
      adjoined = 1 ∷ 5 ∷ 67 ∷ 21 ∷ 3 ∷ 3 ∷ 89 ∷ 81 ∷ [];
    }
    ∷ record {
      family = eight;
      input = 1 ∷ 2 ∷ 3 ∷ 4 ∷ 5 ∷ 6 ∷ 7 ∷ 8 ∷ 9 ∷ [];
      expanded = 7 ∷ 8 ∷ 7 ∷ 4 ∷ 8 ∷ 0 ∷ 8 ∷ 2 ∷ 9 ∷ [];
      adjoined = 1 ∷ 2 ∷ 8 ∷ 5 ∷ 6 ∷ 0 ∷ 1 ∷ 6 ∷ 1 ∷ [];
    }
    ∷ []

pub expand-examples : map (λ x. expand x.family x.input) examples ≡ map (λ x. x.expanded) examples
unfolding sum table row_at times_x term F expand
expand-examples = refl

pub adjoint-examples : map (λ x. adjoint x.family x.input) examples ≡ map (λ x. x.adjoined) examples
unfolding sum table row_at times_x term F adjoint
adjoint-examples = refl

-- whoever unfolds it unfolds the definitions that it leads to
unfoldable expanded_by_tree : Family → List ℕ → List ℕ
unfolding sum table row_at span level_from level_for product_at plus_product plus_products with_tree leaf join node expand_pair up
    expand_at tree_expand
expanded_by_tree f u = tree_expand f u

pub tree-expand-examples : map (λ x. tree_expand x.family x.input) examples ≡ map (λ x. x.expanded) examples
unfolding expanded_by_tree
tree-expand-examples = refl

pub tree-adjoint-examples : map (λ x. tree_adjoint x.family x.input) examples ≡ map (λ x. x.adjoined) examples
unfolding sum table row_at span level_from level_for product_at plus_products transposed_at transposed transposed_sum with_tree leaf join
    node first_terms adjoint_pair down root_pair adjoint_at tree_adjoint
tree-adjoint-examples = refl

-- F_5 of `four` from its rows and the closing row 1 1 1, and G_4 from row 2 on
pub tree-F-example : tree_expand (extended four) (last_unit 5) ≡ 24 ∷ 29 ∷ 28 ∷ 33 ∷ 20 ∷ 4 ∷ []
unfolding expanded_by_tree extended last_unit
tree-F-example = refl

pub tree-G-example : tree_expand (from_second (extended four)) (last_unit 4) ≡ 19 ∷ 9 ∷ 21 ∷ 9 ∷ 2 ∷ []
unfolding expanded_by_tree extended from_second last_unit
tree-G-example = refl

-- the spans of the least trees: 129 coefficients of F_n at 127 rows need 256
pub span-examples : map (λ n. span (level_for n)) (2 ∷ 3 ∷ 4 ∷ 5 ∷ 8 ∷ 9 ∷ 64 ∷ 65 ∷ 128 ∷ 129 ∷ 256 ∷ [])
    ≡ 2 ∷ 4 ∷ 4 ∷ 8 ∷ 8 ∷ 16 ∷ 64 ∷ 128 ∷ 128 ∷ 256 ∷ 256 ∷ []
unfolding span level_from level_for
span-examples = refl
