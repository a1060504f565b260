-- Where the tree lies in the working list.
--   tree_size l       the numbers that a stored tree over span l rows takes: 12, 44, .., 9,212 at span 256
--   tree_list f l t   the stored tree: the left half's, the right half's, then the four lists of the node
--   node_place l      where the node's lists begin in it; each has span l + 1 numbers
--   matrix_at w at n, pair_at w at n   the matrix, the pair, whose lists of n numbers lie in w side by side from place at on
--   lists_at w p q n  the pair of the n numbers from place p and of those from place q on
--   Level level pairs the level of a tree over that many pairs of rows, 7 at most
--   Halved level pairs size   of a tree over more than one pair: its halves, which take size numbers each;  node_before  where the
--                     node's lists begin in a half that ends at a place
-- The tree is stored from place 0 on; vectors and scratch lie behind it, from 9,212 on, and take 6 spans at most, so that all of it
-- fits the 16,384 numbers. Proved: lengths and places; that a stored tree holds its halves and its node; what is kept where something is
-- written elsewhere; entries below m. Assumes nothing.
use Rattle.std.specs.Prelude.{◌≡◌, refl, List, ◌++◌, length}
use Rattle.std.proofs.Common.{sym, ◌∙◌, ap₂, inl, inr, add-zero, le_refl, mul-suc, add-mul, arith, length-append}
use Rattle.std.proofs.Math.Path.{ap}
use Prim.Native.Nat.{ℕ, zero, suc, ◌+◌, ◌*◌, ◌-◌, ◌/◌, ◌^◌, ◌≤◌, ◌<◌}
use Rattle.std.proofs.Math.Decide.{le_ind}
use Rattle.definitions.specs.Family.{Family, row_at, RowBelow}
use Rattle.tree_model.specs.Level.{span, span-zero, span-suc, span-two, span-power}
use Rattle.numbers.specs.Regions.{part, Apart, KeptOutside, part_left, part_right, kept-wider, kept-part}
use Rattle.numbers.specs.Products.{Below}
use Rattle.tree_model.specs.Tree.{Matrix, Pair, node}
use Rattle.tree_model.specs.TreeLengths.{MatrixLength, PairLength, node-length}
use Rattle.tree_model.specs.TreeBelow.{MatrixBelow, PairBelow}
use Rattle.tree_model.proofs.TreeBelow.{append-below, node-below}
use Rattle.products.specs.Places.{Aside, aside-within, aside-kept}

unfoldable pub tree_size : ℕ → ℕ
tree_size zero = 12
tree_size (suc l) = tree_size l + tree_size l + 4 * suc (span (suc l))

unfoldable pub node_place : ℕ → ℕ
node_place zero = 0
node_place (suc l) = tree_size l + tree_size l

unfoldable pub matrix_list : Matrix → List ℕ
matrix_list x = x.e00 ++ x.e01 ++ (x.e10 ++ x.e11)

unfoldable pub pair_list : Pair → List ℕ
pair_list v = v.v0 ++ v.v1

unfoldable pub tree_list : Family → ℕ → ℕ → List ℕ
tree_list f zero t = matrix_list (node f zero t)
tree_list f (suc l) t = tree_list f l t ++ tree_list f l (t + span l) ++ matrix_list (node f (suc l) t)

unfoldable pub matrix_at : List ℕ → ℕ → ℕ → Matrix
matrix_at w at n =
    record { e00 = part w at n; e01 = part w (at + n) n; e10 = part w (at + (n + n)) n; e11 = part w (at + (n + n) + n) n }

unfoldable pub pair_at : List ℕ → ℕ → ℕ → Pair
pair_at w at n = record { v0 = part w at n; v1 = part w (at + n) n }

unfoldable pub lists_at : List ℕ → ℕ → ℕ → ℕ → Pair
lists_at w p q n = record { v0 = part w p n; v1 = part w q n }

pub record Level (level pairs : ℕ) : Type 0 where
  pub most : level ≤ 7
  pub some : 1 ≤ pairs
  pub covers : pairs + pairs ≡ span level

-- ---- sizes
pub tree_size-node : (l : ℕ) → tree_size l ≡ node_place l + 4 * suc (span l)
unfolding tree_size node_place span
tree_size-node zero = refl
tree_size-node (suc l) = refl

pub tree_size-suc : (l : ℕ) → tree_size (suc l) ≡ tree_size l + tree_size l + 4 * suc (span (suc l))
unfolding tree_size
tree_size-suc l = refl

-- the closed value
tree_size-value : (l : ℕ) → tree_size l + 4 ≡ 4 * span l * (l + 2)
unfolding tree_size span
tree_size-value zero = refl
tree_size-value (suc l) =
    let h : tree_size l + 4 ≡ 4 * span l * (l + 2) = tree_size-value l in
    let k : suc l + 2 ≡ suc (l + 2) = omega arith in
    let e : 4 * (span l + span l) * suc (l + 2) ≡ 4 * span l * (l + 2) + 4 * span l * (l + 2) + (4 * span l + 4 * span l)
    = doubled (span l) (l + 2) in
    rw k (omega arith)
  where
    doubled : (s k : ℕ) → 4 * (s + s) * suc k ≡ 4 * s * k + 4 * s * k + (4 * s + 4 * s)
    doubled s k =
        let e : 4 * (s + s) ≡ 4 * s + 4 * s = omega arith in
        ap (λ x. x * suc k) e ∙ mul-suc (4 * s + 4 * s) k ∙ ap (λ x. x + (4 * s + 4 * s)) (add-mul (4 * s) (4 * s) k)

pub tree_size-most : (l : ℕ) → l ≤ 7 → tree_size l ≤ 9212
unfolding tree_size span
tree_size-most l h = le_ind (λ k. tree_size l ≤ tree_size k) (le_refl (tree_size l)) (λ k _ p. omega (arith, tree_size-suc k)) 7 h

-- ---- the halves of a tree over more than one pair, and the numbers that each takes
pub record Halved (level pairs size : ℕ) : Type 0 where
  pub is : level ≡ suc (level - 1)
  pub half : Level (level - 1) (pairs / 2)
  pub falls : pairs / 2 < pairs
  pub some : 2 ≤ pairs
  pub rows : span (level - 1) ≡ pairs
  pub wide : span level ≡ pairs + pairs
  pub sized : size ≡ tree_size (level - 1)
  pub node : size ≡ node_place (level - 1) + 4 * (pairs + 1)
  pub whole : tree_size level ≡ size + size + 4 * (pairs + (pairs + 1))

pub level-one : (level : ℕ) {pairs : ℕ} → Level level pairs → pairs ≡ 1 → level ≡ 0
level-one zero h e = refl
level-one (suc l) h e = absurd (omega (arith, h.covers, span-suc l, span-two l))

-- as code computes it
pub half-value : (level : ℕ) {pairs : ℕ} → Level level pairs → 2 ≤ pairs
    → (4 * pairs * (level + 1) ≡ tree_size (level - 1) + 4) × (tree_size (level - 1) ≤ 9212)
half-value zero h two = absurd (omega (arith, h.covers, span-zero))
half-value (suc l) {pairs} h two =
    let rows : pairs ≡ span l = omega (arith, h.covers, span-suc l) in
    let before : suc l - 1 ≡ l = omega arith in
    let more : suc l + 1 ≡ l + 2 = omega arith in
    rw (before, more, rows) (sym (tree_size-value l), tree_size-most l (omega (arith, h.most)))

pub halves : (level : ℕ) {pairs size : ℕ} → Level level pairs → 2 ≤ pairs → size ≡ tree_size (level - 1) → Halved level pairs size
halves zero h two e = absurd (omega (arith, h.covers, span-zero))
halves (suc l) {pairs} {size} h two e =
    let before : suc l - 1 ≡ l = omega arith in
    let rows : span l ≡ pairs = omega (arith, h.covers, span-suc l) in
    let power : span l ≡ 2 * 2 ^ l = span-power l in
    let half : pairs / 2 ≡ 2 ^ l = omega arith in
    let place : size ≡ tree_size l = rw before at e in
    let node : tree_size l ≡ node_place l + 4 * suc (span l) = tree_size-node l in
    record {
      is = ap suc (sym before);
      half = rw before record { most = omega (arith, h.most); some = omega arith; covers = omega arith };
      falls = omega arith;
      some = two;
      rows = rw before rows;
      wide = sym h.covers;
      sized = e;
      node = rw before (omega arith);
      whole = omega (arith, tree_size-suc l, h.covers);
    }

-- ---- lists
matrix_list-length : (n : ℕ) (x : Matrix) → MatrixLength n x → length (matrix_list x) ≡ 4 * n
unfolding matrix_list
matrix_list-length n x h = simp length-append (omega arith)

pub pair_list-length : (n : ℕ) (v : Pair) → PairLength n v → length (pair_list v) ≡ n + n
unfolding pair_list
pair_list-length n v h = simp length-append (omega arith)

pub node_list-length : (f : Family) (l t : ℕ) → length (matrix_list (node f l t)) ≡ 4 * suc (span l)
node_list-length f l t = matrix_list-length (suc (span l)) (node f l t) (node-length f l t)

pub tree_list-length : (f : Family) (l t : ℕ) → length (tree_list f l t) ≡ tree_size l
unfolding tree_list tree_size
tree_list-length f zero t = node_list-length f zero t ∙ ap (λ s. 4 * suc s) span-zero
tree_list-length f (suc l) t =
    length-append (tree_list f l t ++ tree_list f l (t + span l)) (matrix_list (node f (suc l) t))
    ∙ ap₂ ◌+◌
    (length-append (tree_list f l t) (tree_list f l (t + span l)) ∙ ap₂ ◌+◌ (tree_list-length f l t) (tree_list-length f l (t + span l)))
    (node_list-length f (suc l) t)

-- the two halves side by side
halves-length : (f : Family) (l t : ℕ) → length (tree_list f l t ++ tree_list f l (t + span l)) ≡ tree_size l + tree_size l
halves-length f l t =
    length-append (tree_list f l t) (tree_list f l (t + span l)) ∙ ap₂ ◌+◌ (tree_list-length f l t) (tree_list-length f l (t + span l))

-- ---- what a stored matrix, a stored pair, a stored tree holds
matrix-reads : (w : List ℕ) (at n : ℕ) (x : Matrix) → MatrixLength n x → part w at (4 * n) ≡ matrix_list x → matrix_at w at n ≡ x
unfolding matrix_at matrix_list
matrix-reads w at n x h holds =
    let e : 4 * n ≡ n + n + (n + n) = omega arith in
    let top = x.e00 ++ x.e01 in
    let bottom = x.e10 ++ x.e11 in
    let all : part w at (n + n + (n + n)) ≡ top ++ bottom = ap (part w at) (sym e) ∙ holds in
    let top_long : length top ≡ n + n = simp length-append (omega arith) in
    let bottom_long : length bottom ≡ n + n = simp length-append (omega arith) in
    let upper : part w at (n + n) ≡ top = part_left w at (n + n) (n + n) top bottom top_long bottom_long all in
    let lower : part w (at + (n + n)) (n + n) ≡ bottom = part_right w at (n + n) (n + n) top bottom top_long bottom_long all in
    rw (
      part_left w at n n x.e00 x.e01 h.l00 h.l01 upper,
      part_right w at n n x.e00 x.e01 h.l00 h.l01 upper,
      part_left w (at + (n + n)) n n x.e10 x.e11 h.l10 h.l11 lower,
      part_right w (at + (n + n)) n n x.e10 x.e11 h.l10 h.l11 lower,
    )

pub pair_reads : (w : List ℕ) (at n : ℕ) (v : Pair) → PairLength n v → part w at (n + n) ≡ pair_list v → pair_at w at n ≡ v
unfolding pair_at pair_list
pair_reads w at n v h holds =
    rw (part_left w at n n v.v0 v.v1 h.l0 h.l1 holds, part_right w at n n v.v0 v.v1 h.l0 h.l1 holds)

module _ (f : Family) (w : List ℕ) (at l t : ℕ) where
  abbrev left : List ℕ
  left = tree_list f l t

  abbrev right : List ℕ
  right = tree_list f l (t + span l)

  module _ (holds : part w at (tree_size (suc l)) ≡ tree_list f (suc l) t) where
    abbrev node_size : ℕ
    node_size = 4 * suc (span (suc l))

    tree-halves : part w at (tree_size l + tree_size l) ≡ left ++ right
    unfolding tree_list tree_size
    tree-halves = part_left w at (tree_size l + tree_size l) node_size (left ++ right) (matrix_list (node f (suc l) t))
        (halves-length f l t) (node_list-length f (suc l) t) holds

    pub tree-left : part w at (tree_size l) ≡ left
    tree-left =
        part_left w at (tree_size l) (tree_size l) left right (tree_list-length f l t) (tree_list-length f l (t + span l)) tree-halves

    pub tree-right : part w (at + tree_size l) (tree_size l) ≡ right
    tree-right =
        part_right w at (tree_size l) (tree_size l) left right (tree_list-length f l t) (tree_list-length f l (t + span l)) tree-halves

    tree-last : part w (at + node_place (suc l)) node_size ≡ matrix_list (node f (suc l) t)
    unfolding tree_list tree_size node_place
    tree-last = part_right w at (tree_size l + tree_size l) node_size (left ++ right) (matrix_list (node f (suc l) t))
        (halves-length f l t) (node_list-length f (suc l) t) holds

module _ (f : Family) (w : List ℕ) (at : ℕ) where
  tree-node : (l t : ℕ) → part w at (tree_size l) ≡ tree_list f l t → part w (at + node_place l) (4 * suc (span l)) ≡ matrix_list (node f l t)
  unfolding tree_list tree_size node_place span
  tree-node zero t holds = ap (λ p. part w p 12) (add-zero at) ∙ holds
  tree-node (suc l) t holds = tree-last f w at l t holds

  pub tree-matrix : (l t : ℕ) → part w at (tree_size l) ≡ tree_list f l t → matrix_at w (at + node_place l) (suc (span l)) ≡ node f l t
  tree-matrix l t holds =
      matrix-reads w (at + node_place l) (suc (span l)) (node f l t) (node-length f l t) (tree-node l t holds)

-- the same of a half, as code finds its node: the last 4 (pairs + 1) numbers before its end
abbrev pub node_before : ℕ → ℕ → ℕ
node_before end pairs = end - 4 * (pairs + 1)

module _ {level pairs size : ℕ} (halved : Halved level pairs size) where
  pub half_place : (tree : ℕ) → node_before (tree + size) pairs ≡ tree + node_place (level - 1)
  half_place tree = omega (arith, halved.node)

  pub half-lists : pairs + 1 ≡ suc (span (level - 1))
  half-lists = omega (arith, halved.rows)

  module _ (f : Family) (w : List ℕ) (tree t : ℕ) (holds : part w tree size ≡ tree_list f (level - 1) t) where
    stored : part w tree (tree_size (level - 1)) ≡ tree_list f (level - 1) t
    stored = ap (part w tree) (sym halved.sized) ∙ holds

    pub half-node : part w (node_before (tree + size) pairs) (4 * (pairs + 1)) ≡ matrix_list (node f (level - 1) t)
    half-node = rw (half_place tree, half-lists) (tree-node f w tree (level - 1) t stored)

    pub half-matrix : matrix_at w (node_before (tree + size) pairs) (pairs + 1) ≡ node f (level - 1) t
    half-matrix = rw (half_place tree, half-lists) (tree-matrix f w tree (level - 1) t stored)

-- ---- what is kept, and what lies apart
pub apart-inner : (lo hi at n p k : ℕ) → Apart lo hi at n → at ≤ p → p + k ≤ at + n → Apart lo hi p k
apart-inner lo hi at n p k (inl h) a b = inl (omega arith)
apart-inner lo hi at n p k (inr h) a b = inr (omega arith)

pub wider : {lo hi lo' hi' : ℕ} {w w' : List ℕ} → KeptOutside lo hi w w' → lo' ≤ lo → hi ≤ hi' → KeptOutside lo' hi' w w'
wider {lo} {hi} {lo'} {hi'} {w} {w'} kept a b = kept-wider lo hi lo' hi' w w' a b kept

module _ {m : ℕ} {w : List ℕ} {lo hi at n : ℕ} (aside : Aside m w lo hi at n) where
  pub aside-in : {lo' hi' at' n' : ℕ} → lo ≤ lo' → hi' ≤ hi → at ≤ at' → at' + n' ≤ at + n → Aside m w lo' hi' at' n'
  aside-in {lo'} {hi'} {at'} {n'} = aside-within m w lo hi at n lo' hi' at' n' aside

  module _ {w' : List ℕ} (kept : KeptOutside lo hi w w') where
    pub aside-still : Aside m w' lo hi at n
    aside-still = aside-kept m lo hi w w' at n kept aside

    -- a part of what lies apart is there still
    pub aside-part : (p k : ℕ) → at ≤ p → p + k ≤ at + n → part w' p k ≡ part w p k
    aside-part p k a b =
        let inner : Aside m w lo hi p k = aside-in (omega arith) (omega arith) a b in
        kept-part lo hi w w' kept p k inner.apart

module _ {lo hi : ℕ} {w w' : List ℕ} (kept : KeptOutside lo hi w w') (at n : ℕ) where
  -- one list of several that lie side by side
  still : (k p : ℕ) → Apart lo hi at k → at ≤ p → p + n ≤ at + k → part w' p n ≡ part w p n
  still k p h a b = kept-part lo hi w w' kept p n (apart-inner lo hi at k p n h a b)

  pub pair_at-kept : Apart lo hi at (n + n) → pair_at w' at n ≡ pair_at w at n
  unfolding pair_at
  pair_at-kept h = rw (still (n + n) at h (omega arith) (omega arith), still (n + n) (at + n) h (omega arith) (omega arith))

  pub matrix_at-kept : Apart lo hi at (4 * n) → matrix_at w' at n ≡ matrix_at w at n
  unfolding matrix_at
  matrix_at-kept h = rw (
    still (4 * n) at h (omega arith) (omega arith),
    still (4 * n) (at + n) h (omega arith) (omega arith),
    still (4 * n) (at + (n + n)) h (omega arith) (omega arith),
    still (4 * n) (at + (n + n) + n) h (omega arith) (omega arith),
  )

  pub lists_at-kept : (q : ℕ) → Apart lo hi at n → Apart lo hi q n → lists_at w' at q n ≡ lists_at w at q n
  unfolding lists_at
  lists_at-kept q a b = rw (kept-part lo hi w w' kept at n a, kept-part lo hi w w' kept q n b)

-- ---- entries below m
pub matrix_list-below : (m : ℕ) (x : Matrix) → MatrixBelow m x → Below m (matrix_list x)
unfolding matrix_list
matrix_list-below m x h = append-below m (x.e00 ++ x.e01) (x.e10 ++ x.e11)
    (append-below m x.e00 x.e01 h.b00 h.b01) (append-below m x.e10 x.e11 h.b10 h.b11)

pub pair_list-below : (m : ℕ) (v : Pair) → PairBelow m v → Below m (pair_list v)
unfolding pair_list
pair_list-below m v h = append-below m v.v0 v.v1 h.b0 h.b1

pub tree_list-below : (f : Family) → ((i : ℕ) → RowBelow f.m (row_at f i)) → (l t : ℕ) → Below f.m (tree_list f l t)
unfolding tree_list
tree_list-below f row zero t = matrix_list-below f.m (node f zero t) (node-below f row zero t)
tree_list-below f row (suc l) t =
    append-below f.m (tree_list f l t ++ tree_list f l (t + span l)) (matrix_list (node f (suc l) t))
    (append-below f.m (tree_list f l t) (tree_list f l (t + span l)) (tree_list-below f row l t) (tree_list-below f row l (t + span l)))
    (matrix_list-below f.m (node f (suc l) t) (node-below f row (suc l) t))
