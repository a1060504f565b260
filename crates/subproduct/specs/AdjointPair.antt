-- The pair of the right half in Adjoint: transposed products with the left half's matrix, in the working list.
--   AdjointPlaces   what is handed to `adjoint_pair`: the matrix and the two lists lie apart from where the result goes
-- Proved: each product is handed what it requires, and the lists written side by side are those of the model's pair. Assumes nothing.
use Rattle.std.specs.Prelude.{◌≡◌, List, ℕ, ◌+◌, ◌*◌, ◌≤◌, ◌<◌}
use Rattle.std.proofs.Common.{sym, ◌∙◌, arith}
use Rattle.std.proofs.Math.Path.{ap}
use Rattle.std.proofs.Math.ListN.{length}
use Rattle.definitions.specs.Family.{greatest_modulus}
use Rattle.numbers.specs.Regions.{part, written, KeptOutside, written_then, written-kept}
use Rattle.numbers.specs.Products.{transposed_sum, transposed_sum-length}
use Rattle.tree_model.specs.Tree.{adjoint_pair}
use Rattle.products.specs.Places.{Aside, TransposedPlaces}
use Rattle.subproduct.specs.Layout.{lists_at, pair_list, matrix_at, wider, aside-in, aside-still, aside-part}

pub record AdjointPlaces (m : ℕ) (w : List ℕ) (target n matrix qn first second vn : ℕ) : Type 0 where
  pub least : 0 < m
  pub most : m ≤ greatest_modulus
  pub room : target + (n + n) ≤ length w
  pub matrix_aside : Aside m w target (target + (n + n)) matrix (4 * qn)
  pub first_aside : Aside m w target (target + (n + n)) first vn
  pub second_aside : Aside m w target (target + (n + n)) second vn

-- ---- the pair of the right half: transposed products with the left half's matrix
module _ {m : ℕ} {w : List ℕ} {target n matrix qn first second vn : ℕ} (places : AdjointPlaces m w target n matrix qn first second vn) where
  -- the entry that a row of the matrix makes, by the lists of w'
  abbrev adjoint_entry : List ℕ → ℕ → List ℕ
  adjoint_entry w' row = transposed_sum m n (part w' row qn) (part w' first vn) (part w' (row + qn) qn) (part w' second vn)

  pub adjoint_pair-first : TransposedPlaces m w target n matrix (matrix + qn) qn first second vn
  adjoint_pair-first =
      let room : target + (n + n) ≤ length w = places.room in
      record {
        least = places.least;
        most = places.most;
        room = omega arith;
        p_aside = aside-in places.matrix_aside (omega arith) (omega arith) (omega arith) (omega arith);
        q_aside = aside-in places.matrix_aside (omega arith) (omega arith) (omega arith) (omega arith);
        v_aside = aside-in places.first_aside (omega arith) (omega arith) (omega arith) (omega arith);
        u_aside = aside-in places.second_aside (omega arith) (omega arith) (omega arith) (omega arith);
      }

  module _ {w₁ : List ℕ} (e₁ : w₁ ≡ written w target (adjoint_entry w matrix)) where
    first-length : length (adjoint_entry w matrix) ≡ n
    first-length = transposed_sum-length m n _ _ _ _

    adjoint_pair-kept : KeptOutside target (target + (n + n)) w w₁
    adjoint_pair-kept =
        let room : target + (n + n) ≤ length w = places.room in
        rw e₁ (wider (written-kept w target (adjoint_entry w matrix) (omega (arith, first-length))) (omega arith)
        (omega (arith, first-length)))

    pub adjoint_pair-second : TransposedPlaces m w₁ (target + n) n (matrix + (qn + qn)) (matrix + (qn + qn) + qn) qn first second vn
    adjoint_pair-second =
        let room : target + (n + n) ≤ length w = places.room in
        let matrix_still = aside-still places.matrix_aside adjoint_pair-kept in
        record {
          least = places.least;
          most = places.most;
          room = omega (arith, adjoint_pair-kept.long);
          p_aside = aside-in matrix_still (omega arith) (omega arith) (omega arith) (omega arith);
          q_aside = aside-in matrix_still (omega arith) (omega arith) (omega arith) (omega arith);
          v_aside = aside-in (aside-still places.first_aside adjoint_pair-kept) (omega arith) (omega arith) (omega arith) (omega arith);
          u_aside = aside-in (aside-still places.second_aside adjoint_pair-kept) (omega arith) (omega arith) (omega arith) (omega arith);
        }

    -- what the second entry is made of is there still
    second-same : adjoint_entry w₁ (matrix + (qn + qn)) ≡ adjoint_entry w (matrix + (qn + qn))
    second-same = rw (
      aside-part places.matrix_aside adjoint_pair-kept (matrix + (qn + qn)) qn (omega arith) (omega arith),
      aside-part places.matrix_aside adjoint_pair-kept (matrix + (qn + qn) + qn) qn (omega arith) (omega arith),
      aside-part places.first_aside adjoint_pair-kept first vn (omega arith) (omega arith),
      aside-part places.second_aside adjoint_pair-kept second vn (omega arith) (omega arith),
    )

    pub adjoint_pair-written : {w₂ : List ℕ} → w₂ ≡ written w₁ (target + n) (adjoint_entry w₁ (matrix + (qn + qn)))
        → w₂ ≡ written w target (pair_list (adjoint_pair m n (matrix_at w matrix qn) (lists_at w first second vn)))
    unfolding adjoint_pair lists_at matrix_at pair_list
    adjoint_pair-written e₂ =
        let long : length (adjoint_entry w (matrix + (qn + qn))) ≡ n = transposed_sum-length m n _ _ _ _ in
        written_then w target (adjoint_entry w matrix) (target + n) (adjoint_entry w (matrix + (qn + qn))) _ _
        (omega (arith, places.room, first-length)) (ap (λ x. target + x) (sym first-length)) e₁
        (e₂ ∙ ap (written w₁ (target + n)) second-same)
