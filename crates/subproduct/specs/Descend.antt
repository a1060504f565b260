-- Adjoint down a stored tree, by recursion.
--   descended m w tree l v   the span l entries of the answer, from a pair v of lists of span l numbers, by the matrices that are
--                            stored in w from place tree on
--   DescendInput, DescendOutput   what the recursion is handed, and what it leaves: the entries from place at on, scratch behind them
--   LeafPlaces               where one pair of rows reads and writes
-- Proved: by a stored tree of a family these are the model's entries; they rest on nothing but the stored tree and the pair; and the
-- recursion's steps. Assumes nothing.
use Rattle.std.specs.Prelude.{◌≡◌}
use Rattle.std.proofs.Math.Path.{refl, sym, ap, ap₂}
use Rattle.std.proofs.Common.{◌∙◌, inl, inr, add-zero, length-append}
use mathlib.Core.List.{List, [], ◌∷◌, ◌++◌}
use Prim.Native.Nat.{ℕ, zero, suc, ◌+◌, ◌*◌, ◌-◌, ◌/◌, ◌≤◌, ◌<◌}
use native.Mathlib.Omega.{arith}
use Rattle.std.proofs.Math.ListN.{length, get_or}
use Rattle.definitions.specs.Family.{Family, greatest_modulus}
use Rattle.tree_model.specs.Level.{span}
use Rattle.numbers.specs.Regions.{part, written, Apart, ResiduesIn, KeptOutside, part-entry, part-take, part-both, part-residues}
use Rattle.numbers.specs.Regions.{part-written}
use Rattle.numbers.specs.Regions.{written-kept, kept_then, kept-part, kept-residues}
use Rattle.tree_model.specs.Tree.{Pair, node, first_terms, adjoint_pair, down}
use Rattle.tree_model.specs.TreeLengths.{PairLength, adjoint_pair-length}
use Rattle.tree_model.proofs.TreeBelow.{adjoint_pair-below}
use Rattle.products.specs.Places.{Aside}
use Rattle.subproduct.specs.Layout.{Level, Halved, tree_size, tree_list, node_place, node_before, pair_list, matrix_at, pair_at, lists_at}
use Rattle.subproduct.specs.Layout.{level-one}
use Rattle.subproduct.specs.Layout.{tree_size-suc, tree_size-node, pair_list-length, pair_reads, tree-left, tree-right, tree-matrix}
use Rattle.subproduct.specs.Layout.{half_place}
use Rattle.subproduct.specs.Layout.{wider, apart-inner, aside-in, aside-still, matrix_at-kept, lists_at-kept, pair_list-below}
use Rattle.subproduct.specs.AdjointPair.{AdjointPlaces}

unfoldable pub descended : ℕ → List ℕ → ℕ → ℕ → Pair → List ℕ
descended m w tree zero v = get_or v.v0 0 0 ∷ get_or v.v1 0 0 ∷ []
descended m w tree (suc l) v =
    descended m w tree l (first_terms (span l) v)
    ++ descended m w (tree + tree_size l) l (adjoint_pair m (span l) (matrix_at w (tree + node_place l) (suc (span l))) v)

pub record DescendInput (m : ℕ) (w : List ℕ) (tree first second at level pairs : ℕ) : Type 0 where
  pub least : 0 < m
  pub most : m ≤ greatest_modulus
  pub depth : Level level pairs
  pub tree_before : tree + tree_size level ≤ at
  pub tree_below : ResiduesIn m w tree (tree + tree_size level)
  pub room : at + 3 * span level ≤ length w
  pub first_aside : Aside m w at (at + 3 * span level) first (span level)
  pub second_aside : Aside m w at (at + 3 * span level) second (span level)

pub record DescendOutput (m : ℕ) (w : List ℕ) (tree first second at level : ℕ) (w' : List ℕ) : Type 0 where
  pub kept : KeptOutside at (at + 3 * span level) w w'
  pub holds : part w' at (span level) ≡ descended m w tree level (lists_at w first second (span level))

pub record LeafPlaces (room first second at : ℕ) : Type 0 where
  pub first_inside : first < room
  pub second_inside : second < room
  pub inside : at + 2 ≤ room

-- ---- the entries by a stored tree
pub descended-down : (f : Family) (w : List ℕ) (tree l t : ℕ) (v : Pair) → part w tree (tree_size l) ≡ tree_list f l t
    → descended f.m w tree l v ≡ down f l t v
unfolding descended down
descended-down f w tree zero t v holds = refl
descended-down f w tree (suc l) t v holds =
    rw (
      tree-matrix f w tree l t (tree-left f w tree l t holds),
      descended-down f w tree l t (first_terms (span l) v) (tree-left f w tree l t holds),
      descended-down f w (tree + tree_size l) l (t + span l) (adjoint_pair f.m (span l) (node f l t) v) (tree-right f w tree l t holds),
    )

-- the pair that goes on to the right half
abbrev right_of : ℕ → List ℕ → ℕ → ℕ → Pair → Pair
right_of m w tree l v = adjoint_pair m (span l) (matrix_at w (tree + node_place l) (suc (span l))) v

module _ (m : ℕ) {lo hi : ℕ} {w w' : List ℕ} (kept : KeptOutside lo hi w w') where
  descended-kept : (tree l : ℕ) (v : Pair) → Apart lo hi tree (tree_size l) → descended m w' tree l v ≡ descended m w tree l v
  unfolding descended
  descended-kept tree zero v apart = refl
  descended-kept tree (suc l) v apart =
      let inner : (p k : ℕ) → tree ≤ p → p + k ≤ tree + tree_size (suc l) → Apart lo hi p k
      = λ p k. apart-inner lo hi tree (tree_size (suc l)) p k apart in
      let whole = tree_size-suc l in
      let node = tree_size-node l in
      rw (
        matrix_at-kept kept (tree + node_place l) (suc (span l)) (inner (tree + node_place l) (4 * suc (span l)) (omega arith) (omega arith)),
        descended-kept tree l (first_terms (span l) v) (inner tree (tree_size l) (omega arith) (omega arith)),
        descended-kept (tree + tree_size l) l (right_of m w tree l v) (inner (tree + tree_size l) (tree_size l) (omega arith) (omega arith)),
      )

descended-length : (m : ℕ) (w : List ℕ) (tree l : ℕ) (v : Pair) → length (descended m w tree l v) ≡ span l
unfolding descended span
descended-length m w tree zero v = refl
descended-length m w tree (suc l) v =
    length-append (descended m w tree l (first_terms (span l) v)) _
    ∙ ap₂ ◌+◌ (descended-length m w tree l (first_terms (span l) v)) (descended-length m w (tree + tree_size l) l (right_of m w tree l v))

lists_at-first : (w : List ℕ) (p q n k : ℕ) → k ≤ n → first_terms k (lists_at w p q n) ≡ lists_at w p q k
unfolding first_terms lists_at
lists_at-first w p q n k h = rw (part-take w n k p h, part-take w n k q h)

-- ---- one pair of rows
module _ {m : ℕ} {w : List ℕ} {tree first second at level pairs : ℕ} (h : DescendInput m w tree first second at level pairs) where
  pub descend-one : pairs ≡ 1 → LeafPlaces (length w) first second at
  descend-one e =
      let z : span level ≡ 2 = omega (arith, h.depth.covers) in
      record {
        first_inside = omega (arith, h.first_aside.source.inside);
        second_inside = omega (arith, h.second_aside.source.inside);
        inside = omega (arith, h.room);
      }

  pub descend-one-output : pairs ≡ 1 → {w' : List ℕ} → w' ≡ written w at (get_or w first 0 ∷ get_or w second 0 ∷ [])
      → DescendOutput m w tree first second at level w'
  unfolding descended lists_at span
  descend-one-output e g =
      let two : at + 2 ≤ length w = (descend-one e).inside in
      let xs : List ℕ = get_or w first 0 ∷ get_or w second 0 ∷ [] in
      let read : (p : ℕ) → get_or w p 0 ≡ get_or (part w p 2) 0 0
      = λ p. ap (λ k. get_or w k 0) (sym (add-zero p)) ∙ sym (part-entry w p 2 0 (omega arith)) in
      rw (level-one level h.depth e) record {
        kept = rw g (wider (written-kept w at xs two) (omega arith) (omega arith));
        holds = ap (λ v. part v at 2) g ∙ part-written w at xs two ∙ ap₂ (λ x y. x ∷ y ∷ []) (read first) (read second);
      }

  module _ {size : ℕ} (halved : Halved level pairs size) where
    -- the places of the right half's pair and of the matrix, and the end of the scratch
    abbrev pair : ℕ
    pair = at + 4 * pairs

    abbrev matrix : ℕ
    matrix = node_before (tree + size) pairs

    abbrev end : ℕ
    end = at + 6 * pairs

    -- the right half's pair, by the lists of w', and the entries of both halves
    abbrev right_pair : List ℕ → Pair
    right_pair w' = adjoint_pair m pairs (matrix_at w' matrix (pairs + 1)) (lists_at w' first second (pairs + pairs))

    abbrev left_entries : List ℕ
    left_entries = descended m w tree (level - 1) (lists_at w first second pairs)

    abbrev right_entries : List ℕ
    right_entries = descended m w (tree + size) (level - 1) (right_pair w)

    -- the lists that come down lie apart from the whole region
    first_apart : Aside m w at end first (pairs + pairs)
    first_apart = aside-in h.first_aside (omega arith) (omega (arith, halved)) (omega arith) (omega (arith, halved))

    second_apart : Aside m w at end second (pairs + pairs)
    second_apart = aside-in h.second_aside (omega arith) (omega (arith, halved)) (omega arith) (omega (arith, halved))

    pub descend-left : DescendInput m w tree first second at (level - 1) (pairs / 2)
    descend-left = record {
      least = h.least;
      most = h.most;
      depth = halved.half;
      tree_before = omega (arith, h.tree_before, halved);
      tree_below = λ i p q. h.tree_below i p (omega (arith, halved));
      room = omega (arith, h.room, halved);
      first_aside = aside-in first_apart (omega arith) (omega (arith, halved)) (omega arith) (omega (arith, halved));
      second_aside = aside-in second_apart (omega arith) (omega (arith, halved)) (omega arith) (omega (arith, halved));
    }

    module _ {w₁ : List ℕ} (left : DescendOutput m w tree first second at (level - 1) w₁) where
      left-kept : KeptOutside at end w w₁
      left-kept = wider left.kept (omega arith) (omega (arith, halved))

      matrix-apart : Apart at end matrix (4 * (pairs + 1))
      matrix-apart = inl (omega (arith, h.tree_before, halved))

      pub descend-pair : AdjointPlaces m w₁ pair pairs matrix (pairs + 1) first second (pairs + pairs)
      descend-pair =
          let long : length w₁ ≡ length w = left-kept.long in
          record {
            least = h.least;
            most = h.most;
            room = omega (arith, h.room, halved);
            matrix_aside = record {
              source = record {
                inside = omega (arith, h.tree_before, h.room, halved);
                below = kept-residues at end w w₁ left-kept m matrix (4 * (pairs + 1)) matrix-apart
                    (λ i a b. h.tree_below i (omega (arith, halved)) (omega (arith, halved)));
              };
              apart = inl (omega (arith, h.tree_before, halved));
            };
            first_aside = aside-in (aside-still first_apart left-kept) (omega arith) (omega arith) (omega arith) (omega arith);
            second_aside = aside-in (aside-still second_apart left-kept) (omega arith) (omega arith) (omega arith) (omega arith);
          }

      module _ {w₂ : List ℕ} (e₂ : w₂ ≡ written w₁ pair (pair_list (right_pair w₁))) where
        pair-length : PairLength pairs (right_pair w)
        pair-length = adjoint_pair-length m pairs _ _

        long-pair : length (pair_list (right_pair w)) ≡ pairs + pairs
        long-pair = pair_list-length pairs _ pair-length

        pair-written : w₂ ≡ written w₁ pair (pair_list (right_pair w))
        pair-written = e₂ ∙ ap₂ (λ x v. written w₁ pair (pair_list (adjoint_pair m pairs x v)))
            (matrix_at-kept left-kept matrix (pairs + 1) matrix-apart)
            (lists_at-kept left-kept first (pairs + pairs) second first_apart.apart second_apart.apart)

        pair-room : pair + length (pair_list (right_pair w)) ≤ length w₁
        pair-room = omega (arith, long-pair, h.room, halved, left-kept.long)

        pair-kept : KeptOutside pair end w₁ w₂
        pair-kept = rw pair-written (wider (written-kept w₁ pair (pair_list (right_pair w)) pair-room) (omega arith) (omega (arith, long-pair)))

        pair-holds : part w₂ pair (pairs + pairs) ≡ pair_list (right_pair w)
        pair-holds = ap₂ (λ v k. part v pair k) pair-written (sym long-pair) ∙ part-written w₁ pair _ pair-room

        pair-below : ResiduesIn m w₂ pair (pair + (pairs + pairs))
        pair-below =
            part-residues m w₂ pair (pairs + pairs) _ pair-holds (pair_list-below m _ (adjoint_pair-below m pairs h.least _ _))

        two-kept : KeptOutside at end w w₂
        two-kept = kept_then at end w w₁ w₂ left-kept (wider pair-kept (omega arith) (omega arith))

        pub descend-right : DescendInput m w₂ (tree + size) pair (pair + pairs) (at + pairs) (level - 1) (pairs / 2)
        descend-right =
            let long : length w₂ ≡ length w = two-kept.long in
            let aside : (p : ℕ) → pair ≤ p → p + pairs ≤ pair + (pairs + pairs)
            → Aside m w₂ (at + pairs) (at + pairs + 3 * span (level - 1)) p (span (level - 1))
            = λ p a b. record {
              source = record {
                inside = omega (arith, h.room, halved);
                below = λ i q r. pair-below i (omega arith) (omega (arith, halved));
              };
              apart = inr (omega (arith, halved));
            } in
            record {
              least = h.least;
              most = h.most;
              depth = halved.half;
              tree_before = omega (arith, h.tree_before, halved);
              tree_below = λ i p q. rw (two-kept.before i (omega (arith, h.tree_before, halved)))
                  (h.tree_below i (omega arith) (omega (arith, halved)));
              room = omega (arith, h.room, halved);
              first_aside = aside pair (omega arith) (omega arith);
              second_aside = aside (pair + pairs) (omega arith) (omega arith);
            }

        module _ {w₃ : List ℕ} (right : DescendOutput m w₂ (tree + size) pair (pair + pairs) (at + pairs) (level - 1) w₃) where
          right_kept : KeptOutside (at + pairs) (at + pairs + 3 * pairs) w₂ w₃
          right_kept = rw halved.rows at right.kept

          left-holds : part w₃ at pairs ≡ left_entries
          left-holds =
              kept-part (at + pairs) (at + pairs + 3 * pairs) w₂ w₃ right_kept at pairs (inl (omega arith))
              ∙ kept-part pair end w₁ w₂ pair-kept at pairs (inl (omega arith))
              ∙ (rw halved.rows at left.holds)

          right-holds : part w₃ (at + pairs) pairs ≡ right_entries
          unfolding lists_at pair_at
          right-holds =
              (rw halved.rows at right.holds)
              ∙ descended-kept m two-kept (tree + size) (level - 1) (lists_at w₂ pair (pair + pairs) pairs)
              (inl (omega (arith, h.tree_before, halved)))
              ∙ ap (descended m w (tree + size) (level - 1)) (pair_reads w₂ pair pairs _ pair-length pair-holds)

          entries-are : left_entries ++ right_entries ≡ descended m w tree level (lists_at w first second (span level))
          unfolding descended
          entries-are =
              let one : pairs + 1 ≡ suc pairs = omega arith in
              let e : left_entries ++ right_entries ≡ descended m w tree (suc (level - 1)) (lists_at w first second (pairs + pairs))
              = rw (
                half_place halved tree,
                one,
                halved.sized,
                halved.rows,
                lists_at-first w first second (pairs + pairs) pairs (omega arith),
              ) in
              e ∙ ap₂ (λ k x. descended m w tree k (lists_at w first second x)) (sym halved.is) (sym halved.wide)

          pub descend-output : DescendOutput m w tree first second at level w₃
          descend-output =
              let lx : length left_entries ≡ pairs = descended-length m w tree (level - 1) _ ∙ halved.rows in
              let ly : length right_entries ≡ pairs = descended-length m w (tree + size) (level - 1) _ ∙ halved.rows in
              let both : length (left_entries ++ right_entries) ≡ span level = length-append left_entries right_entries ∙ omega (arith, halved) in
              record {
                kept = kept_then at (at + 3 * span level) w w₂ w₃ (wider two-kept (omega arith) (omega (arith, halved)))
                    (wider right_kept (omega arith) (omega (arith, halved)));
                holds = ap (part w₃ at) (sym both)
                    ∙ part-both w₃ at left_entries right_entries (ap (part w₃ at) lx ∙ left-holds)
                    (ap₂ (λ p k. part w₃ (at + p) k) lx ly ∙ right-holds)
                    ∙ entries-are;
              }
