-- Building the tree: the recursion on the number of pairs of rows.
--   first_rows f r   the family of the first r rows of f, closed by 1 1 1
--   BuildInput       these rows are below m, and there is room for the tree
-- Proved: every row of the lent family closed by zeros is below m; two halves that are stored side by side and what is joined of them
-- behind are the tree; each call is handed what it requires. Assumes nothing.
use Rattle.std.specs.Prelude.{◌≡◌, List, ◌++◌, length, get_or, take}
use Rattle.std.proofs.Common.{sym, ◌∙◌, inl, length-append}
use Rattle.std.proofs.Math.Path.{ap, ap₂}
use Prim.Native.Nat.{ℕ, suc, ◌+◌, ◌*◌, ◌-◌, ◌/◌, ◌≤◌, ◌<◌}
use native.Mathlib.Omega.{arith}
use Rattle.definitions.specs.Family.{Family, ones, row_at, RowBelow, row_of}
use Rattle.lists.specs.Held.{held_below}
use Rattle.lists.specs.Lent.{LentRows, lent}
use Rattle.numbers.specs.Regions.{part, written, part_left, part_right, part-residues, part-written, written-length, written_then}
use Rattle.products.specs.Places.{Aside}
use Rattle.tree_model.specs.Level.{span, span-zero, span-suc}
use Rattle.tree_model.specs.Tree.{padded, leaf, join, node}
use Rattle.tree_model.proofs.TreeBelow.{node-below}
use Rattle.subproduct.specs.Layout.{Level, Halved, tree_size, tree_list, matrix_list, matrix_at, node_before, level-one, tree_list-length}
use Rattle.subproduct.specs.Layout.{node_list-length, half-node, half-matrix, matrix_list-below}
use Rattle.subproduct.specs.Leaf.{LeafInput}
use Rattle.subproduct.specs.Join.{JoinPlaces}

abbrev pub first_rows : Family → ℕ → Family
first_rows f r = lent f.m r f.a f.b f.c ones

pub record BuildInput (f : Family) (r : ℕ) (w : List ℕ) (at level pairs t : ℕ) : Type 0 where
  pub input : LentRows f.m r f.a f.b f.c
  pub depth : Level level pairs
  pub room : at + tree_size level ≤ length w
  pub last : t + span level ≤ 256

pub padded-below : {m r : ℕ} {a b c : List ℕ} → LentRows m r a b c → (i : ℕ) → RowBelow m (row_at (padded (lent m r a b c ones)) i)
unfolding row_at
padded-below {m} {r} {a} {b} {c} h i =
    let positive : 0 < m = omega (arith, h.modulus.least) in
    record {
      a_below = held_below m r a positive h.a_holds i;
      b_below = held_below m r b positive h.b_holds i;
      c_below = held_below m r c positive h.c_holds i;
    }

-- ---- the leaf of two rows of the family
module _ {g : Family} {r : ℕ} {w : List ℕ} {at t : ℕ} (h : BuildInput g r w at 0 1 t) {pa pb pc qa qb qc : ℕ}
    (epa : pa ≡ get_or (take r g.a) (t + 1) 0) (epb : pb ≡ get_or (take r g.b) (t + 1) 0) (epc : pc ≡ get_or (take r g.c) (t + 1) 0)
    (eqa : qa ≡ get_or (take r g.a) (t + 2) 0) (eqb : qb ≡ get_or (take r g.b) (t + 2) 0) (eqc : qc ≡ get_or (take r g.c) (t + 2) 0) where
  pub leaf-input : LeafInput g.m w at pa pb pc qa qb qc
  unfolding row_at tree_size
  leaf-input = record {
    most = h.input.modulus.greatest;
    room = h.room;
    pa_below = rw epa (padded-below h.input (t + 1)).a_below;
    pb_below = rw epb (padded-below h.input (t + 1)).b_below;
    pc_below = rw epc (padded-below h.input (t + 1)).c_below;
    qa_below = rw eqa (padded-below h.input (t + 2)).a_below;
    qb_below = rw eqb (padded-below h.input (t + 2)).b_below;
    qc_below = rw eqc (padded-below h.input (t + 2)).c_below;
  }

  pub leaf-stored : {w' : List ℕ} → w' ≡ written w at (matrix_list (leaf g.m (row_of pa pb pc) (row_of qa qb qc)))
      → w' ≡ written w at (tree_list (padded (first_rows g r)) 0 t)
  unfolding row_at tree_list node
  leaf-stored e =
      let one : t + 1 ≡ suc t = omega arith in
      let two : t + 2 ≡ suc (suc t) = omega arith in
      e ∙ rw (epa, epb, epc, eqa, eqb, eqc, one, two)

-- ---- the recursion
module _ {g : Family} {r : ℕ} {w : List ℕ} {at level pairs t : ℕ} (h : BuildInput g r w at level pairs t) where
  abbrev f : Family
  f = padded (first_rows g r)

  pub build-one : pairs ≡ 1 → BuildInput g r w at 0 1 t
  build-one e =
      let z : level ≡ 0 = level-one level h.depth e in
      record {
        input = h.input;
        depth = record { most = omega arith; some = omega arith; covers = sym span-zero };
        room = rw (ap tree_size z) at h.room;
        last = rw (ap span z) at h.last;
      }

  pub build-one-stored : pairs ≡ 1 → {w' : List ℕ} → w' ≡ written w at (tree_list f 0 t) → w' ≡ written w at (tree_list f level t)
  build-one-stored e stored = stored ∙ ap (λ l. written w at (tree_list f l t)) (sym (level-one level h.depth e))

  module _ {size : ℕ} (halved : Halved level pairs size) where
    abbrev left : List ℕ
    left = tree_list f (level - 1) t

    abbrev right : List ℕ
    right = tree_list f (level - 1) (t + pairs)

    long : (s : ℕ) → length (tree_list f (level - 1) s) ≡ size
    long s = tree_list-length f (level - 1) s ∙ sym halved.sized

    pub build-left : BuildInput g r w at (level - 1) (pairs / 2) t
    build-left = record {
      input = h.input;
      depth = halved.half;
      room = omega (arith, h.room, halved);
      last = omega (arith, h.last, halved);
    }

    module _ {w₁ : List ℕ} (e₁ : w₁ ≡ written w at left) where
      left-length : length w₁ ≡ length w
      left-length = ap length e₁ ∙ written-length w at left (omega (arith, long t, h.room, halved))

      pub build-right : BuildInput g r w₁ (at + size) (level - 1) (pairs / 2) (t + pairs)
      build-right = record {
        input = h.input;
        depth = halved.half;
        room = omega (arith, h.room, halved, left-length);
        last = omega (arith, h.last, halved);
      }

      module _ {w₂ : List ℕ} (e₂ : w₂ ≡ written w₁ (at + size) right) where
        both-length : length (left ++ right) ≡ size + size
        both-length = length-append left right ∙ ap₂ ◌+◌ (long t) (long (t + pairs))

        both-room : at + length (left ++ right) ≤ length w
        both-room = omega (arith, both-length, h.room, halved)

        both-written : w₂ ≡ written w at (left ++ right)
        both-written = written_then w at left (at + size) right w₁ w₂ (omega (arith, long t, long (t + pairs), h.room, halved))
            (ap (λ x. at + x) (sym (long t))) e₁ e₂

        both_hold : part w₂ at (size + size) ≡ left ++ right
        both_hold = ap₂ (λ v n. part v at n) both-written (sym both-length) ∙ part-written w at (left ++ right) both-room

        left-holds : part w₂ at size ≡ left
        left-holds = part_left w₂ at size size left right (long t) (long (t + pairs)) both_hold

        right-holds : part w₂ (at + size) size ≡ right
        right-holds = part_right w₂ at size size left right (long t) (long (t + pairs)) both_hold

        -- where the node goes, and its numbers
        abbrev target : ℕ
        target = at + size + size

        abbrev n : ℕ
        n = pairs + (pairs + 1)

        node-aside : (tree s : ℕ) → part w₂ tree size ≡ tree_list f (level - 1) s → tree + size ≤ target
            → Aside g.m w₂ target (target + 4 * n) (node_before (tree + size) pairs) (4 * (pairs + 1))
        node-aside tree s holds before =
            let same : length w₂ ≡ length w = ap length both-written ∙ written-length w at (left ++ right) both-room in
            record {
              source = record {
                inside = omega (arith, h.room, halved);
                below = part-residues g.m w₂ (node_before (tree + size) pairs) (4 * (pairs + 1)) (matrix_list (node f (level - 1) s))
                    (half-node halved f w₂ tree s holds)
                    (matrix_list-below g.m (node f (level - 1) s) (node-below f (padded-below h.input) (level - 1) s));
              };
              apart = inl (omega (arith, halved));
            }

        pub build-join : JoinPlaces g.m w₂ target n (node_before target pairs) (node_before (at + size) pairs) (pairs + 1)
        build-join =
            let same : length w₂ ≡ length w = ap length both-written ∙ written-length w at (left ++ right) both-room in
            record {
              least = omega (arith, h.input.modulus.least);
              most = h.input.modulus.greatest;
              room = omega (arith, h.room, halved);
              reached = omega arith;
              right_aside = node-aside (at + size) (t + pairs) right-holds (omega arith);
              left_aside = node-aside at t left-holds (omega arith);
            }

        joined : join g.m n (matrix_at w₂ (node_before target pairs) (pairs + 1)) (matrix_at w₂ (node_before (at + size) pairs) (pairs + 1))
            ≡ node f level t
        unfolding node
        joined =
            let wide : n ≡ suc (span (suc (level - 1))) = omega (arith, halved.rows, span-suc (level - 1)) in
            let e : join g.m n (node f (level - 1) (t + pairs)) (node f (level - 1) t) ≡ node f (suc (level - 1)) t
            = rw (wide, ← halved.rows) in
            ap₂ (join g.m n) (half-matrix halved f w₂ (at + size) (t + pairs) right-holds) (half-matrix halved f w₂ at t left-holds)
            ∙ e ∙ ap (λ l. node f l t) (sym halved.is)

        whole : left ++ right ++ matrix_list (node f level t) ≡ tree_list f level t
        unfolding tree_list
        whole =
            let e : left ++ right ++ matrix_list (node f (suc (level - 1)) t) ≡ tree_list f (suc (level - 1)) t = rw halved.rows in
            ap (λ l. left ++ right ++ matrix_list (node f l t)) halved.is ∙ e ∙ ap (λ l. tree_list f l t) (sym halved.is)

        pub build-stored : {w₃ : List ℕ} → w₃ ≡ written w₂ target (matrix_list
            (join g.m n (matrix_at w₂ (node_before target pairs) (pairs + 1)) (matrix_at w₂ (node_before (at + size) pairs) (pairs + 1))))
            → w₃ ≡ written w at (tree_list f level t)
        build-stored {w₃} e₃ =
            let room : at + (length (left ++ right) + length (matrix_list (node f level t))) ≤ length w
            = omega (arith, both-length, node_list-length f level t, h.room, halved) in
            let place : target ≡ at + length (left ++ right) = omega (arith, both-length) in
            written_then w at (left ++ right) target (matrix_list (node f level t)) w₂ w₃ room place both-written
            (e₃ ∙ ap (λ x. written w₂ target (matrix_list x)) joined)
            ∙ ap (written w at) whole
