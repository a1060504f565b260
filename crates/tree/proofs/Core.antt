-- Expand and Adjoint by the tree, step by step.
-- Proved: each step is handed what it requires, by what the steps before it left; the last leaves the tree model's list, the tree and the
-- vectors (core-expand, core-adjoint). For n = 1 there is no tree, and the answer is that of F_0 (alone-expand, alone-adjoint). These rest on
-- PairOutput of RootPair, which an edit of specs/ changes. Assumes nothing.
use Rattle.std.specs.Prelude.{◌≡◌, refl, List, [], ◌∷◌, ◌++◌, ℕ, zero, suc, ◌+◌, ◌*◌, ◌-◌, ◌%◌, ◌≤◌, ◌<◌, length, get_or, set}
use Rattle.std.proofs.Math.Path.{sym, ap, ap₂, subst}
use Rattle.std.proofs.Common.{◌∙◌, inl, arith, length-take, length-drop, length-take-le}
use Rattle.std.proofs.Math.ListN.{take, drop}
use Rattle.std.proofs.Math.Seq.{get_or-take, get_or-drop}
use Rattle.definitions.specs.Answers.{cleared}
use Rattle.definitions.specs.Family.{Family, family, ones, rows, size, row_at}
use Rattle.definitions.specs.Refusals.{work_length}
use Rattle.lists.specs.Held.{Output, held_below}
use Rattle.lists.specs.Lent.{LentRows, lent}
use Rattle.lists.specs.Whole.{written-whole}
use Rattle.numbers.specs.Lists.{filled, table-equal}
use Rattle.numbers.specs.Products.{Below, plus_product}
use Rattle.numbers.specs.Regions.{part, written, Apart, ResiduesIn, KeptOutside, part_length, part-take, part-both, part-residues}
use Rattle.numbers.specs.Regions.{part-written}
use Rattle.numbers.specs.Regions.{written-kept, kept_then, kept-part, kept-residues}
use Rattle.tree_model.specs.Level.{span, level_for}
use Rattle.tree_model.specs.Tree.{F₁, Pair, padded, up, expand_at, tree_expand, down, root_pair, adjoint_at, tree_adjoint}
use Rattle.tree_model.proofs.TreeBelow.{root_pair-below}
use Rattle.tree_model.specs.TreeClauses.{tree_expand-tree, tree_expand-alone, tree_adjoint-tree, tree_adjoint-alone}
use Rattle.tree_model.specs.TreeLengths.{PairLength, root_pair-length}
use Rattle.products.specs.Places.{Aside}
use Rattle.subproduct.specs.Layout.{Level, tree_size, tree_list, pair_list, pair_at, lists_at, tree_size-most, tree_list-length}
use Rattle.subproduct.specs.Layout.{tree_list-below}
use Rattle.subproduct.specs.Layout.{pair_list-length, pair_list-below, pair_reads, wider}
use Rattle.subproduct.specs.Build.{BuildInput, padded-below}
use Rattle.subproduct.specs.Climb.{ClimbInput, ClimbOutput, climbed, climbed-up, climbed-length, climbed-below}
use Rattle.subproduct.specs.Descend.{DescendInput, DescendOutput, descended-down}
use Rattle.tree.specs.Input.{Input}
use Rattle.tree.specs.Root.{LevelOf, RootInput}
use Rattle.tree.specs.RootPair.{PairInput, PairOutput, root_lists}
use Rattle.tree.specs.Core.{stored_tree, expand_vectors, adjoint_vectors, Stands, TreeOutput, alone-output}

stands : (w : List ℕ) (at n : ℕ) (xs : List ℕ) → length xs ≡ n → part w at n ≡ xs → Stands w at xs
stands w at n xs long holds = ap (part w at) long ∙ holds

-- what a slice lends that begins at a place, and what is copied of it
abbrev from : List ℕ → ℕ → List ℕ
from w at = take (length w - at) (drop at w)

module _ (w : List ℕ) (at n : ℕ) (room : at + n ≤ length w) where
  from-long : n ≤ length (from w at)
  from-long = simp (length-take, length-drop) (omega arith)

  copied : (output : List ℕ) → filled (λ i. get_or (from w at) i 0) n output ≡ part w at n ++ drop n output
  unfolding filled part
  copied output = ap (λ t. t ++ drop n output)
      (table-equal n _ _ (λ i h. get_or-take (length w - at) (drop at w) i 0 (omega arith) ∙ get_or-drop at w i 0))

module _ {m : ℕ} {a b c curve : List ℕ} {n : ℕ} {output work : List ℕ} (h : Input m a b c curve n output work) where
  abbrev f : Family
  f = lent m (n - 1) a b c ones

  abbrev u : List ℕ
  u = take n curve

  positive : 0 < m
  positive = omega (arith, h.rows.modulus.least)

  curve-below : Below m u
  curve-below = held_below m n curve positive h.curve_holds

  size_is : size f ≡ n
  size_is = let e : length (take (n - 1) a) ≡ n - 1 = length-take-le (n - 1) a h.rows.a_holds.long in omega (arith, h.least)

  -- ---- the tree
  module _ (two : 2 ≤ n) {level : ℕ} (deep : LevelOf n level) {pairs : ℕ} (depth : Level level pairs) where
    -- the numbers of each list of the root's pair, its second list's place, and that of Adjoint's entries
    abbrev width : ℕ
    width = pairs + pairs

    abbrev second : ℕ
    second = 9212 + width

    abbrev entries : ℕ
    entries = 9212 + width + width

    abbrev tree : List ℕ
    tree = tree_list (padded f) level 0

    abbrev root : Pair
    root = root_pair (padded f) level u

    -- F_1, the lowest power first
    abbrev first : List ℕ
    first = get_or b 0 0 ∷ get_or a 0 0 ∷ []

    first-is : F₁ (padded f) ≡ first
    unfolding row_at
    first-is = ap₂ (λ x y. x ∷ y ∷ []) (get_or-take (n - 1) b 0 0 (omega arith)) (get_or-take (n - 1) a 0 0 (omega arith))

    first_below : Below m first
    first_below zero = h.rows.b_holds.below 0 (omega arith)
    first_below (suc zero) = h.rows.a_holds.below 0 (omega arith)
    first_below (suc (suc i)) = positive

    level-is : level ≡ level_for (size f)
    level-is = deep.is ∙ ap level_for (sym size_is)

    covers : pairs + pairs ≡ span level
    covers = depth.covers

    small : tree_size level ≤ 9212
    small = tree_size-most level deep.most

    some-rows : 0 < rows f
    some-rows = omega (arith, size_is)

    pub core-build : n - 1 ≡ length a → BuildInput (family m a b c) (length a) work 0 level pairs 0
    core-build all = record {
      input = subst (λ r. LentRows m r a b c) all h.rows;
      depth = depth;
      room = omega (arith, small, h.work_long);
      last = omega (arith, deep.few);
    }

    -- at the end the tree stands where it was stored
    tree-stands : (w : List ℕ) → part w 0 (tree_size level) ≡ tree → Stands w 0 (stored_tree f)
    unfolding stored_tree
    tree-stands w holds = subst (λ l. Stands w 0 (tree_list (padded f) l 0)) level-is
        (stands w 0 (tree_size level) tree (tree_list-length (padded f) level 0) holds)

    -- g: the family itself, where its lists are lent whole
    module _ {g : Family} (same : f ≡ g) {w₁ : List ℕ} (stored : w₁ ≡ written work 0 (tree_list (padded g) level 0)) where
      e₁ : w₁ ≡ written work 0 tree
      e₁ = stored ∙ ap (λ k. written work 0 (tree_list (padded k) level 0)) (sym same)

      tree-long : length tree ≡ tree_size level
      tree-long = tree_list-length (padded f) level 0

      tree-room : 0 + length tree ≤ length work
      tree-room = omega (arith, tree-long, small, h.work_long)

      tree-holds : part w₁ 0 (tree_size level) ≡ tree
      tree-holds = ap₂ (λ v k. part v 0 k) e₁ (sym tree-long) ∙ part-written work 0 tree tree-room

      tree-below : ResiduesIn m w₁ 0 (0 + tree_size level)
      tree-below =
          part-residues m w₁ 0 (tree_size level) tree tree-holds (tree_list-below (padded f) (padded-below h.rows) level 0)

      tree-kept : KeptOutside 0 work_length work w₁
      tree-kept = rw e₁ (wider (written-kept work 0 tree tree-room) (omega arith) (omega (arith, tree-long, small)))

      -- the tree ends before place 9,212
      tree_apart : {hi : ℕ} → Apart 9212 hi 0 (tree_size level)
      tree_apart = inl (omega (arith, small))

      -- ---- Expand
      pub core-climb : ClimbInput m curve n w₁ 0 9212 level pairs 0
      core-climb = record {
        most = h.rows.modulus.greatest;
        curve_long = h.curve_holds.long;
        curve_below = curve-below;
        depth = depth;
        last = omega (arith, deep.few);
        tree_before = omega (arith, small);
        tree_below = tree-below;
        room = omega (arith, deep.few, h.work_long, tree-kept.long);
      }

      module _ {w₂ : List ℕ} (climbs : ClimbOutput m u w₁ 0 9212 level 0 w₂) where
        abbrev pair : Pair
        pair = climbed m w₁ 0 u level 0

        pair_is : pair ≡ up (padded f) u level 0
        pair_is = climbed-up (padded f) w₁ 0 u level 0 tree-holds

        pair-length : PairLength width pair
        pair-length = rw covers (climbed-length m w₁ 0 u level 0)

        pair-holds : part w₂ 9212 (width + width) ≡ pair_list pair
        pair-holds = ap (λ s. part w₂ 9212 (s + s)) covers ∙ climbs.holds

        pub core-root : length output ≡ n → RootInput m w₂ 9212 width first (length output) output
        core-root long = record {
          modulus = h.rows.modulus;
          inside = omega (arith, deep.few, h.work_long, tree-kept.long, climbs.kept.long);
          below = part-residues m w₂ 9212 (width + width) (pair_list pair) pair-holds
              (pair_list-below m _ (climbed-below m w₁ 0 u level 0 curve-below));
          first_long = refl;
          first_below = first_below;
          covers = omega (arith, deep.reaches);
          room = omega arith;
        }

        -- what the last step writes
        abbrev expanded : List ℕ
        expanded = plus_product m n (part w₂ 9212 width) (part w₂ second width) first

        expanded-is : expanded ≡ tree_expand f u
        unfolding expand_at pair_at
        expanded-is =
            let reads : pair_at w₂ 9212 width ≡ up (padded f) u level 0
            = pair_reads w₂ 9212 width pair pair-length pair-holds ∙ pair_is in
            ap₂ (λ v s. plus_product m n v.v0 v.v1 s) reads (sym first-is)
            ∙ ap₂ (λ k l. plus_product m k (up (padded f) u l 0).v0 (up (padded f) u l 0).v1 (F₁ (padded f))) (sym size_is) level-is
            ∙ sym (tree_expand-tree f u some-rows)

        pub core-expand : length output ≡ n
            → {output' : List ℕ} → output' ≡ plus_product m (length output) (part w₂ 9212 width) (part w₂ second width) first
            → TreeOutput tree_expand expand_vectors f u n output output' work w₂
        unfolding expand_vectors
        core-expand long e = record {
          written = e ∙ ap (λ k. plus_product m k (part w₂ 9212 width) (part w₂ second width) first) long ∙ expanded-is
              ∙ sym (written-whole (tree_expand f u) output n long);
          tree_stands = tree-stands w₂ (kept-part 9212 _ w₁ w₂ climbs.kept 0 (tree_size level) tree_apart ∙ tree-holds);
          vectors_stand = subst (λ l. Stands w₂ 9212 (pair_list (up (padded f) u l 0))) level-is
              (stands w₂ 9212 _ _ (pair_list-length width _ (rw (← pair_is) pair-length)) (pair-holds ∙ ap pair_list pair_is));
          kept = kept_then 0 work_length work w₁ w₂ tree-kept (wider climbs.kept (omega arith) (omega (arith, deep.few)));
        }

      -- ---- Adjoint
      pub core-pair : PairInput m (get_or b 0 0) (get_or a 0 0) curve n w₁ 9212 width
      core-pair = record {
        modulus = h.rows.modulus;
        b_below = first_below 0;
        a_below = first_below 1;
        curve_holds = h.curve_holds;
        covers = omega (arith, deep.reaches);
        room = omega (arith, deep.few, h.work_long, tree-kept.long);
      }

      root_is : root_lists m width first u ≡ root
      unfolding root_lists root_pair
      root_is = rw (covers, ← first-is)

      module _ {w₂ : List ℕ} (pairs-hold : PairOutput m (get_or b 0 0) (get_or a 0 0) u w₁ 9212 width w₂) where
        root-length : PairLength width root
        root-length = rw covers (root_pair-length (padded f) level u)

        root-long : length (pair_list root) ≡ width + width
        root-long = pair_list-length width _ root-length

        root_kept : KeptOutside 9212 work_length w₁ w₂
        root_kept = wider pairs-hold.kept (omega arith) (omega (arith, deep.few))

        root-holds : part w₂ 9212 (width + width) ≡ pair_list root
        root-holds = pairs-hold.holds ∙ ap pair_list root_is

        root_below : ResiduesIn m w₂ 9212 (9212 + (width + width))
        root_below = part-residues m w₂ 9212 (width + width) _ root-holds (pair_list-below m _ (root_pair-below (padded f) positive level u))

        still-holds : part w₂ 0 (tree_size level) ≡ tree
        still-holds = kept-part 9212 work_length w₁ w₂ root_kept 0 (tree_size level) tree_apart ∙ tree-holds

        two-kept : KeptOutside 0 work_length work w₂
        two-kept = kept_then 0 work_length work w₁ w₂ tree-kept (wider root_kept (omega arith) (omega arith))

        -- a list of the root's pair lies before the entries
        list-aside : (p : ℕ) → 9212 ≤ p → p + span level ≤ entries → Aside m w₂ entries (entries + 3 * span level) p (span level)
        list-aside p lo hi = record {
          source = record {
            inside = omega (arith, deep.few, h.work_long, two-kept.long);
            below = λ i q r. root_below i (omega arith) (omega arith);
          };
          apart = inl hi;
        }

        pub core-descend : DescendInput m w₂ 0 9212 second entries level pairs
        core-descend = record {
          least = positive;
          most = h.rows.modulus.greatest;
          depth = depth;
          tree_before = omega (arith, small);
          tree_below = kept-residues 9212 work_length w₁ w₂ root_kept m 0 (tree_size level) tree_apart tree-below;
          room = omega (arith, deep.few, h.work_long, two-kept.long);
          first_aside = list-aside 9212 (omega arith) (omega arith);
          second_aside = list-aside second (omega arith) (omega arith);
        }

        module _ {w₃ : List ℕ} (descends : DescendOutput m w₂ 0 9212 second entries level w₃) where
          pub core-room : entries + n ≤ length w₃
          core-room = omega (arith, deep.reaches, deep.few, h.work_long, two-kept.long, descends.kept.long)

          pub core-copy : (n ≤ length (from w₃ entries)) × (n ≤ length output)
          core-copy = (from-long w₃ entries n core-room, h.output_long)

          entries-hold : part w₃ entries (span level) ≡ down (padded f) level 0 root
          unfolding lists_at pair_at
          entries-hold =
              descends.holds
              ∙ descended-down (padded f) w₂ 0 level 0 (lists_at w₂ 9212 second (span level)) still-holds
              ∙ ap (λ s. down (padded f) level 0 (lists_at w₂ 9212 second s)) (sym covers)
              ∙ ap (down (padded f) level 0) (pair_reads w₂ 9212 width _ root-length root-holds)

          -- what lies before the entries is kept
          still : (at k : ℕ) → at + k ≤ entries → part w₃ at k ≡ part w₂ at k
          still at k before = kept-part _ _ w₂ w₃ descends.kept at k (inl before)

          root_stands : Stands w₃ 9212 (pair_list root)
          root_stands = stands w₃ 9212 (width + width) _ root-long (still 9212 (width + width) (omega arith) ∙ root-holds)

          entries-stand : Stands w₃ (9212 + length (pair_list root)) (down (padded f) level 0 root)
          entries-stand =
              let behind : 9212 + length (pair_list root) ≡ entries = omega (arith, root-long) in
              rw behind (stands w₃ _ (span level) _ (ap length (sym entries-hold) ∙ part_length w₃ _ (span level)) entries-hold)

          adjoint-is : part w₃ entries n ≡ tree_adjoint f u
          unfolding adjoint_at
          adjoint-is =
              sym (part-take w₃ (span level) n entries deep.reaches)
              ∙ ap (take n) entries-hold
              ∙ ap₂ (λ k l. take k (down (padded f) l 0 (root_pair (padded f) l u))) (sym size_is) level-is
              ∙ sym (tree_adjoint-tree f u some-rows)

          pub core-adjoint : {output' : List ℕ} → output' ≡ filled (λ i. get_or (from w₃ entries) i 0) n output
              → TreeOutput tree_adjoint adjoint_vectors f u n output output' work w₃
          unfolding adjoint_vectors
          core-adjoint e = record {
            written = e ∙ copied w₃ entries n core-room output ∙ ap (λ t. t ++ drop n output) adjoint-is;
            tree_stands = tree-stands w₃ (still 0 (tree_size level) (omega (arith, small)) ∙ still-holds);
            vectors_stand =
                subst (λ l. let v = root_pair (padded f) l u in Stands w₃ 9212 (pair_list v ++ down (padded f) l 0 v)) level-is
                (part-both w₃ 9212 _ _ root_stands entries-stand);
            kept = kept_then 0 work_length work w₂ w₃ two-kept (wider descends.kept (omega arith) (omega (arith, deep.few)));
          }

  -- ---- no tree
  module _ (e : n ≡ 1) {output' work' : List ℕ} (g : output' ≡ set output 0 (get_or curve 0 0 % m)) (w : work' ≡ cleared work) where
    none : rows f ≡ 0
    none = omega (arith, size_is)

    pub alone-expand : Output (tree_expand f u) n output output' work work'
    alone-expand = alone-output m curve e h.output_long (tree_expand-alone f u none) g w

    pub alone-adjoint : Output (tree_adjoint f u) n output output' work work'
    alone-adjoint = alone-output m curve e h.output_long (tree_adjoint-alone f u none) g w
