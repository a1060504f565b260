-- Expand up a stored tree, by recursion.
--   climbed m w tree u l t   the pair of the node of level l over entries t, t + 1, .. of the curve u, by the matrices that are stored
--                            in w from place tree on
--   ClimbInput, ClimbOutput  what the recursion is handed, and what it leaves: the pair from place at on, scratch behind it
-- Proved: by a stored tree of a family it is the model's pair; it rests on nothing but the stored tree; and the recursion's steps.
-- Assumes nothing.
use Rattle.std.specs.Prelude.{◌≡◌, take}
use Rattle.std.proofs.Math.Path.{refl, ap, ap₂}
use Rattle.std.proofs.Common.{sym, ◌∙◌, inl, inr, add-one, arith}
use mathlib.Core.List.{List, [], ◌∷◌}
use Prim.Native.Nat.{ℕ, zero, suc, ◌+◌, ◌*◌, ◌-◌, ◌/◌, ◌≤◌}
use Rattle.std.proofs.Math.ListN.{length, get_or}
use Rattle.definitions.specs.Family.{Family, family, greatest_modulus}
use Rattle.tree_model.specs.Level.{span, span-suc}
use Rattle.numbers.specs.Regions.{part, written, Apart, ResiduesIn, KeptOutside, part-residues, part-written}
use Rattle.numbers.specs.Regions.{written-kept, kept_then, kept-part, kept-residues}
use Rattle.numbers.specs.Products.{Below}
use Rattle.tree_model.specs.Tree.{Pair, expand_pair, up}
use Rattle.tree_model.specs.TreeLengths.{PairLength, expand_pair-length}
use Rattle.tree_model.specs.TreeBelow.{PairBelow}
use Rattle.tree_model.proofs.TreeBelow.{expand_pair-below, up-below}
use Rattle.products.specs.Places.{Aside}
use Rattle.subproduct.specs.Layout.{Level, Halved, tree_size, tree_list, node_place, node_before, pair_list, matrix_at, pair_at, level-one}
use Rattle.subproduct.specs.Layout.{tree_size-suc, tree_size-node, pair_list-length, pair_reads, tree-left, tree-right, tree-matrix}
use Rattle.subproduct.specs.Layout.{half_place}
use Rattle.subproduct.specs.Layout.{half-lists, wider, apart-inner, matrix_at-kept, pair_list-below}
use Rattle.subproduct.specs.Join.{ExpandPlaces}

unfoldable pub climbed : ℕ → List ℕ → ℕ → List ℕ → ℕ → ℕ → Pair
climbed m w tree u zero t = record { v0 = get_or u t 0 ∷ 0 ∷ []; v1 = get_or u (suc t) 0 ∷ 0 ∷ [] }
climbed m w tree u (suc l) t =
    expand_pair m (span (suc l)) (climbed m w tree u l t) (climbed m w (tree + tree_size l) u l (t + span l))
    (matrix_at w (tree + node_place l) (suc (span l)))

pub record ClimbInput (m : ℕ) (curve : List ℕ) (n : ℕ) (w : List ℕ) (tree at level pairs t : ℕ) : Type 0 where
  pub most : m ≤ greatest_modulus
  pub curve_long : n ≤ length curve
  pub curve_below : Below m (take n curve)
  pub depth : Level level pairs
  pub last : t + span level ≤ 256
  pub tree_before : tree + tree_size level ≤ at
  pub tree_below : ResiduesIn m w tree (tree + tree_size level)
  pub room : at + 6 * span level ≤ length w

pub record ClimbOutput (m : ℕ) (u w : List ℕ) (tree at level t : ℕ) (w' : List ℕ) : Type 0 where
  pub kept : KeptOutside at (at + 6 * span level) w w'
  pub holds : part w' at (span level + span level) ≡ pair_list (climbed m w tree u level t)

-- ---- the pair of a stored tree
pub climbed-up : (f : Family) (w : List ℕ) (tree : ℕ) (u : List ℕ) (l t : ℕ) → part w tree (tree_size l) ≡ tree_list f l t
    → climbed f.m w tree u l t ≡ up f u l t
unfolding climbed up
climbed-up f w tree u zero t holds = refl
climbed-up f w tree u (suc l) t holds =
    rw (
      climbed-up f w tree u l t (tree-left f w tree l t holds),
      climbed-up f w (tree + tree_size l) u l (t + span l) (tree-right f w tree l t holds),
      tree-matrix f w tree l t (tree-left f w tree l t holds),
    )

module _ (m : ℕ) {lo hi : ℕ} {w w' : List ℕ} (kept : KeptOutside lo hi w w') (u : List ℕ) where
  climbed-kept : (tree l t : ℕ) → Apart lo hi tree (tree_size l) → climbed m w' tree u l t ≡ climbed m w tree u l t
  unfolding climbed
  climbed-kept tree zero t apart = refl
  climbed-kept tree (suc l) t apart =
      let inner : (p k : ℕ) → tree ≤ p → p + k ≤ tree + tree_size (suc l) → Apart lo hi p k
      = λ p k. apart-inner lo hi tree (tree_size (suc l)) p k apart in
      let whole = tree_size-suc l in
      let node = tree_size-node l in
      rw (
        climbed-kept tree l t (inner tree (tree_size l) (omega arith) (omega arith)),
        climbed-kept (tree + tree_size l) l (t + span l) (inner (tree + tree_size l) (tree_size l) (omega arith) (omega arith)),
        matrix_at-kept kept (tree + node_place l) (suc (span l)) (inner (tree + node_place l) (4 * suc (span l)) (omega arith) (omega arith)),
      )

module _ (m : ℕ) (w : List ℕ) (tree : ℕ) (u : List ℕ) where
  pub climbed-length : (l t : ℕ) → PairLength (span l) (climbed m w tree u l t)
  unfolding climbed span
  climbed-length zero t = record { l0 = refl; l1 = refl }
  climbed-length (suc l) t = expand_pair-length m (span (suc l)) (climbed m w tree u l t)
      (climbed m w (tree + tree_size l) u l (t + span l)) (matrix_at w (tree + node_place l) (suc (span l)))

  pub climbed-below : (l t : ℕ) → Below m u → PairBelow m (climbed m w tree u l t)
  unfolding climbed up
  climbed-below zero t h = up-below (family m [] [] []) u h zero t
  climbed-below (suc l) t h = expand_pair-below m (span (suc l)) (omega (arith, h 0)) (climbed m w tree u l t)
      (climbed m w (tree + tree_size l) u l (t + span l)) (matrix_at w (tree + node_place l) (suc (span l)))

-- ---- one pair of rows
module _ {m : ℕ} {curve : List ℕ} {n : ℕ} {w : List ℕ} {tree at level pairs t : ℕ}
    (h : ClimbInput m curve n w tree at level pairs t) where
  abbrev u : List ℕ
  u = take n curve

  pub climb-one : pairs ≡ 1 → {x y : ℕ} {w' : List ℕ} → x ≡ get_or u t 0 → y ≡ get_or u (t + 1) 0 → w' ≡ written w at (x ∷ 0 ∷ y ∷ 0 ∷ [])
      → ClimbOutput m u w tree at level t w'
  unfolding climbed pair_list span
  climb-one e {x} {y} ex ey stored =
      let xs : List ℕ = x ∷ 0 ∷ y ∷ 0 ∷ [] in
      let four : at + 4 ≤ length w = omega (arith, h.room, h.depth.covers) in
      rw (level-one level h.depth e) record {
        kept = rw stored (wider (written-kept w at xs four) (omega arith) (omega arith));
        holds = ap (λ v. part v at 4) stored ∙ part-written w at xs four
            ∙ ap₂ (λ a b. a ∷ 0 ∷ b ∷ 0 ∷ []) ex (ey ∙ ap (λ k. get_or u k 0) (add-one t));
      }

  module _ {size : ℕ} (halved : Halved level pairs size) where
    -- the places of the halves' pairs, of the matrix, and the end of the scratch
    abbrev left : ℕ
    left = at + 4 * pairs

    abbrev right : ℕ
    right = at + 4 * pairs + 2 * pairs

    abbrev matrix : ℕ
    matrix = node_before (tree + size) pairs

    abbrev end : ℕ
    end = at + 12 * pairs

    abbrev left_pair : Pair
    left_pair = climbed m w tree u (level - 1) t

    abbrev right_pair : Pair
    right_pair = climbed m w (tree + size) u (level - 1) (t + pairs)

    pub climb-left : ClimbInput m curve n w tree left (level - 1) (pairs / 2) t
    climb-left = record {
      most = h.most;
      curve_long = h.curve_long;
      curve_below = h.curve_below;
      depth = halved.half;
      last = omega (arith, h.last, halved);
      tree_before = omega (arith, h.tree_before, halved);
      tree_below = λ i p q. h.tree_below i p (omega (arith, halved));
      room = omega (arith, h.room, halved);
    }

    module _ {w₁ : List ℕ} (first : ClimbOutput m u w tree left (level - 1) t w₁) where
      left-kept : KeptOutside left (left + 6 * pairs) w w₁
      left-kept = rw halved.rows at first.kept

      pub climb-right : ClimbInput m curve n w₁ (tree + size) right (level - 1) (pairs / 2) (t + pairs)
      climb-right = record {
        most = h.most;
        curve_long = h.curve_long;
        curve_below = h.curve_below;
        depth = halved.half;
        last = omega (arith, h.last, halved);
        tree_before = omega (arith, h.tree_before, halved);
        tree_below = λ i p q. rw (left-kept.before i (omega (arith, h.tree_before, halved)))
            (h.tree_below i (omega arith) (omega (arith, halved)));
        room = omega (arith, h.room, halved, left-kept.long);
      }

      module _ {w₂ : List ℕ} (second : ClimbOutput m u w₁ (tree + size) right (level - 1) (t + pairs) w₂) where
        right_kept : KeptOutside right (right + 6 * pairs) w₁ w₂
        right_kept = rw halved.rows at second.kept

        both-kept : KeptOutside left end w w₂
        both-kept =
            kept_then left end w w₁ w₂ (wider left-kept (omega arith) (omega arith)) (wider right_kept (omega arith) (omega arith))

        left-holds : part w₂ left (pairs + pairs) ≡ pair_list left_pair
        left-holds =
            kept-part right (right + 6 * pairs) w₁ w₂ right_kept left (pairs + pairs) (inl (omega arith))
            ∙ (rw halved.rows at first.holds)

        right-holds : part w₂ right (pairs + pairs) ≡ pair_list right_pair
        right-holds =
            (rw halved.rows at second.holds)
            ∙ ap pair_list (climbed-kept m left-kept u (tree + size) (level - 1) (t + pairs) (inl (omega (arith, h.tree_before, halved))))

        left-length : PairLength pairs left_pair
        left-length = rw halved.rows at (climbed-length m w tree u (level - 1) t)

        right-length : PairLength pairs right_pair
        right-length = rw halved.rows at (climbed-length m w (tree + size) u (level - 1) (t + pairs))

        matrix-apart : Apart left end matrix (4 * (pairs + 1))
        matrix-apart = inl (omega (arith, h.tree_before, halved))

        -- a half's pair lies behind the matrix's
        pair-aside : (p : ℕ) (v : Pair) → part w₂ p (pairs + pairs) ≡ pair_list v → PairBelow m v → left ≤ p → p + (pairs + pairs) ≤ end
            → Aside m w₂ at (at + (pairs + pairs + (pairs + pairs))) p (pairs + pairs)
        pair-aside p v holds below a b = record {
          source = record {
            inside = omega (arith, h.room, halved, both-kept.long);
            below = part-residues m w₂ p (pairs + pairs) (pair_list v) holds (pair_list-below m v below);
          };
          apart = inr (omega arith);
        }

        pub climb-pair : ExpandPlaces m w₂ at (pairs + pairs) left pairs right pairs matrix (pairs + 1)
        climb-pair =
            let long : length w₂ ≡ length w = both-kept.long in
            record {
              least = omega (arith, h.curve_below 0);
              most = h.most;
              room = omega (arith, h.room, halved);
              reached = omega arith;
              t_aside = pair-aside left left_pair left-holds
                  (climbed-below m w tree u (level - 1) t h.curve_below) (omega arith) (omega arith);
              row_aside = pair-aside right right_pair right-holds
                  (climbed-below m w (tree + size) u (level - 1) (t + pairs) h.curve_below) (omega arith) (omega arith);
              matrix_aside = record {
                source = record {
                  inside = omega (arith, h.tree_before, h.room, halved);
                  below = kept-residues left end w w₂ both-kept m matrix (4 * (pairs + 1)) matrix-apart
                      (λ i a b. h.tree_below i (omega (arith, halved)) (omega (arith, halved)));
                };
                apart = inl (omega (arith, h.tree_before, halved));
              };
            }

        -- the pair that is written
        abbrev written_pair : Pair
        written_pair = expand_pair m (pairs + pairs) (pair_at w₂ left pairs) (pair_at w₂ right pairs) (matrix_at w₂ matrix (pairs + 1))

        pair_is : written_pair ≡ climbed m w tree u level t
        unfolding climbed
        pair_is =
            let wide : pairs + pairs ≡ span (suc (level - 1)) = omega (arith, halved.rows, span-suc (level - 1)) in
            let e : written_pair ≡ climbed m w tree u (suc (level - 1)) t = rw (
              pair_reads w₂ left pairs left_pair left-length left-holds,
              pair_reads w₂ right pairs right_pair right-length right-holds,
              matrix_at-kept both-kept matrix (pairs + 1) matrix-apart,
              half_place halved tree,
              wide,
              half-lists halved,
              halved.sized,
              ← halved.rows,
            ) in
            e ∙ ap (λ k. climbed m w tree u k t) (sym halved.is)

        pub climb-output : {w₃ : List ℕ} → w₃ ≡ written w₂ at (pair_list written_pair) → ClimbOutput m u w tree at level t w₃
        climb-output {w₃} e₃ =
            let pair = pair_list (climbed m w tree u level t) in
            let e : w₃ ≡ written w₂ at pair = e₃ ∙ ap (λ v. written w₂ at (pair_list v)) pair_is in
            let long : length pair ≡ span level + span level = pair_list-length (span level) _ (climbed-length m w tree u level t) in
            let room : at + length pair ≤ length w₂ = omega (arith, h.room, both-kept.long) in
            record {
              kept = kept_then at (at + 6 * span level) w w₂ w₃ (wider both-kept (omega arith) (omega (arith, halved)))
                  (rw e (wider (written-kept w₂ at pair room) (omega arith) (omega arith)));
              holds = ap₂ (λ v k. part v at k) e (sym long) ∙ part-written w₂ at pair room;
            }
