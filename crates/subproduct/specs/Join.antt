-- A row of two polynomials times a matrix, and two halves joined, in the working list.
--   ExpandPlaces   what is handed to `expand_pair`: the pair to be added, the row and the matrix lie apart from where the result goes
--   JoinPlaces    the same of `join` and the matrices of two halves
-- Proved: each product is handed what it requires, and the lists written side by side are those of the model's pair and matrix.
-- Assumes nothing.
use Rattle.std.specs.Prelude.{◌≡◌, List, ℕ, ◌+◌, ◌*◌, ◌≤◌, ◌<◌}
use Rattle.std.proofs.Common.{sym, ◌∙◌, arith}
use Rattle.std.proofs.Math.Path.{ap}
use Rattle.std.proofs.Math.ListN.{length}
use Rattle.definitions.specs.Number.{table}
use Rattle.definitions.specs.Family.{greatest_modulus}
use Rattle.numbers.specs.Regions.{part, written, KeptOutside, written_then, written-kept}
use Rattle.numbers.specs.Products.{plus_products, plus_products-length}
use Rattle.tree_model.specs.Tree.{join, expand_pair}
use Rattle.tree_model.specs.TreeLengths.{expand_pair-length}
use Rattle.products.specs.Places.{Aside, ProductPlaces}
use Rattle.subproduct.specs.Layout.{matrix_list, pair_list, matrix_at, pair_at, pair_list-length, pair_at-kept, matrix_at-kept, wider}
use Rattle.subproduct.specs.Layout.{aside-in}
use Rattle.subproduct.specs.Layout.{aside-still, aside-part}

pub record ExpandPlaces (m : ℕ) (w : List ℕ) (target n t tn row pn matrix qn : ℕ) : Type 0 where
  pub least : 0 < m
  pub most : m ≤ greatest_modulus
  pub room : target + (n + n) ≤ length w
  pub reached : n ≤ pn + qn
  pub t_aside : Aside m w target (target + (n + n)) t (tn + tn)
  pub row_aside : Aside m w target (target + (n + n)) row (pn + pn)
  pub matrix_aside : Aside m w target (target + (n + n)) matrix (4 * qn)

pub record JoinPlaces (m : ℕ) (w : List ℕ) (target n right left k : ℕ) : Type 0 where
  pub least : 0 < m
  pub most : m ≤ greatest_modulus
  pub room : target + 4 * n ≤ length w
  pub reached : n ≤ k + k
  pub right_aside : Aside m w target (target + 4 * n) right (4 * k)
  pub left_aside : Aside m w target (target + 4 * n) left (4 * k)

-- ---- a row of two polynomials times a matrix, and two polynomials more
module _ {m : ℕ} {w : List ℕ} {target n t tn row pn matrix qn : ℕ} (places : ExpandPlaces m w target n t tn row pn matrix qn) where
  -- the first entry of the pair and the second, by the lists of w'
  abbrev expanded_first : List ℕ → List ℕ
  expanded_first w' =
      plus_products m n (part w' t tn) (part w' row pn) (part w' matrix qn) (part w' (row + pn) pn) (part w' (matrix + (qn + qn)) qn)

  abbrev expanded_second : List ℕ → List ℕ
  expanded_second w' = plus_products m n (part w' (t + tn) tn) (part w' row pn) (part w' (matrix + qn) qn)
      (part w' (row + pn) pn) (part w' (matrix + (qn + qn) + qn) qn)

  pub expand_pair-first : ProductPlaces m w target n t tn row (row + pn) pn matrix (matrix + (qn + qn)) qn
  expand_pair-first =
      let room : target + (n + n) ≤ length w = places.room in
      record {
        least = places.least;
        most = places.most;
        room = omega arith;
        reached = places.reached;
        t_aside = aside-in places.t_aside (omega arith) (omega arith) (omega arith) (omega arith);
        p_aside = aside-in places.row_aside (omega arith) (omega arith) (omega arith) (omega arith);
        r_aside = aside-in places.row_aside (omega arith) (omega arith) (omega arith) (omega arith);
        q_aside = aside-in places.matrix_aside (omega arith) (omega arith) (omega arith) (omega arith);
        s_aside = aside-in places.matrix_aside (omega arith) (omega arith) (omega arith) (omega arith);
      }

  module _ {w₁ : List ℕ} (e₁ : w₁ ≡ written w target (expanded_first w)) where
    first-length : length (expanded_first w) ≡ n
    first-length = plus_products-length m n _ _ _ _ _

    kept : KeptOutside target (target + (n + n)) w w₁
    kept =
        let room : target + (n + n) ≤ length w = places.room in
        rw e₁ (wider (written-kept w target (expanded_first w) (omega (arith, first-length))) (omega arith) (omega (arith, first-length)))

    pub expand_pair-second :
        ProductPlaces m w₁ (target + n) n (t + tn) tn row (row + pn) pn (matrix + qn) (matrix + (qn + qn) + qn) qn
    expand_pair-second =
        let room : target + (n + n) ≤ length w = places.room in
        let t_still = aside-still places.t_aside kept in
        let row_still = aside-still places.row_aside kept in
        let matrix_still = aside-still places.matrix_aside kept in
        record {
          least = places.least;
          most = places.most;
          room = omega (arith, kept.long);
          reached = places.reached;
          t_aside = aside-in t_still (omega arith) (omega arith) (omega arith) (omega arith);
          p_aside = aside-in row_still (omega arith) (omega arith) (omega arith) (omega arith);
          r_aside = aside-in row_still (omega arith) (omega arith) (omega arith) (omega arith);
          q_aside = aside-in matrix_still (omega arith) (omega arith) (omega arith) (omega arith);
          s_aside = aside-in matrix_still (omega arith) (omega arith) (omega arith) (omega arith);
        }

    -- what the second entry is made of is there still
    second-same : expanded_second w₁ ≡ expanded_second w
    second-same = rw (
      aside-part places.t_aside kept (t + tn) tn (omega arith) (omega arith),
      aside-part places.row_aside kept row pn (omega arith) (omega arith),
      aside-part places.row_aside kept (row + pn) pn (omega arith) (omega arith),
      aside-part places.matrix_aside kept (matrix + qn) qn (omega arith) (omega arith),
      aside-part places.matrix_aside kept (matrix + (qn + qn) + qn) qn (omega arith) (omega arith),
    )

    pub expand_pair-written : {w₂ : List ℕ} → w₂ ≡ written w₁ (target + n) (expanded_second w₁)
        → w₂ ≡ written w target (pair_list (expand_pair m n (pair_at w t tn) (pair_at w row pn) (matrix_at w matrix qn)))
    unfolding expand_pair pair_at matrix_at pair_list
    expand_pair-written e₂ =
        let long : length (expanded_second w) ≡ n = plus_products-length m n _ _ _ _ _ in
        written_then w target (expanded_first w) (target + n) (expanded_second w) _ _ (omega (arith, places.room, first-length))
        (ap (λ x. target + x) (sym first-length)) e₁ (e₂ ∙ ap (written w₁ (target + n)) second-same)

-- ---- two halves joined: each row of the right half's matrix times the left half's
module _ {m : ℕ} {w : List ℕ} {target n right left k : ℕ} (places : JoinPlaces m w target n right left k) where
  -- a row of the right half's matrix times the left half's, by the lists of w'
  abbrev joined_row : List ℕ → ℕ → List ℕ
  joined_row w' row = pair_list (expand_pair m n (pair_at w' left 0) (pair_at w' row k) (matrix_at w' left k))

  row-length : (row : ℕ) → length (joined_row w row) ≡ n + n
  row-length row = pair_list-length n _ (expand_pair-length m n (pair_at w left 0) (pair_at w row k) (matrix_at w left k))

  pub join_first : ExpandPlaces m w target n left 0 right k left k
  join_first =
      let room : target + 4 * n ≤ length w = places.room in
      record {
        least = places.least;
        most = places.most;
        room = omega arith;
        reached = places.reached;
        t_aside = aside-in places.left_aside (omega arith) (omega arith) (omega arith) (omega arith);
        row_aside = aside-in places.right_aside (omega arith) (omega arith) (omega arith) (omega arith);
        matrix_aside = aside-in places.left_aside (omega arith) (omega arith) (omega arith) (omega arith);
      }

  module _ {w₁ : List ℕ} (e₁ : w₁ ≡ written w target (joined_row w right)) where
    join_kept : KeptOutside target (target + 4 * n) w w₁
    join_kept =
        let room : target + 4 * n ≤ length w = places.room in
        let long : length (joined_row w right) ≡ n + n = row-length right in
        rw e₁ (wider (written-kept w target (joined_row w right) (omega arith)) (omega arith) (omega arith))

    pub join-second : ExpandPlaces m w₁ (target + (n + n)) n left 0 (right + (k + k)) k left k
    join-second =
        let room : target + 4 * n ≤ length w = places.room in
        let left_still = aside-still places.left_aside join_kept in
        let right_still = aside-still places.right_aside join_kept in
        record {
          least = places.least;
          most = places.most;
          room = omega (arith, join_kept.long);
          reached = places.reached;
          t_aside = aside-in left_still (omega arith) (omega arith) (omega arith) (omega arith);
          row_aside = aside-in right_still (omega arith) (omega arith) (omega arith) (omega arith);
          matrix_aside = aside-in left_still (omega arith) (omega arith) (omega arith) (omega arith);
        }

    second-row-same : joined_row w₁ (right + (k + k)) ≡ joined_row w (right + (k + k))
    unfolding pair_at part table
    second-row-same =
        let row : Aside m w target (target + 4 * n) (right + (k + k)) (k + k)
        = aside-in places.right_aside (omega arith) (omega arith) (omega arith) (omega arith) in
        rw (pair_at-kept join_kept (right + (k + k)) k row.apart, matrix_at-kept join_kept left k places.left_aside.apart)

    pub join_written : {w₂ : List ℕ} → w₂ ≡ written w₁ (target + (n + n)) (joined_row w₁ (right + (k + k)))
        → w₂ ≡ written w target (matrix_list (join m n (matrix_at w right k) (matrix_at w left k)))
    unfolding join expand_pair pair_at matrix_at pair_list matrix_list part table
    join_written e₂ =
        written_then w target (joined_row w right) (target + (n + n)) (joined_row w (right + (k + k))) _ _
        (omega (arith, places.room, row-length right, row-length (right + (k + k)))) (ap (λ x. target + x) (sym (row-length right))) e₁
        (e₂ ∙ ap (written w₁ (target + (n + n))) second-row-same)
