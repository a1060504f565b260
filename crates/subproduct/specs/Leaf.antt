-- The leaf of two rows.
--   LeafInput   what is handed to the leaf
-- Proved: the leaf's lists are written one after the other. Assumes nothing.
use Rattle.std.specs.Prelude.{◌≡◌, ℕ, ◌+◌, ◌*◌, ◌%◌, ◌≤◌, ◌<◌}
use Rattle.std.proofs.Math.Path.{refl}
use Rattle.std.proofs.Common.{◌∙◌}
use mathlib.Core.List.{List, [], ◌∷◌, ◌++◌}
use native.Mathlib.Omega.{arith}
use Rattle.std.proofs.Math.ListN.{length}
use Rattle.definitions.specs.Family.{greatest_modulus, row_of}
use Rattle.numbers.specs.Regions.{written, written_then}
use Rattle.tree_model.specs.Tree.{leaf}
use Rattle.subproduct.specs.Layout.{matrix_list}

pub record LeafInput (m : ℕ) (w : List ℕ) (at pa pb pc qa qb qc : ℕ) : Type 0 where
  pub most : m ≤ greatest_modulus
  pub room : at + 12 ≤ length w
  pub pa_below : pa < m
  pub pb_below : pb < m
  pub pc_below : pc < m
  pub qa_below : qa < m
  pub qb_below : qb < m
  pub qc_below : qc < m

-- ---- a leaf
-- four lists of three numbers, one after the other
module _ {m : ℕ} {w : List ℕ} {at pa pb pc qa qb qc : ℕ} (input : LeafInput m w at pa pb pc qa qb qc) where
  pub leaf-written : {b0 b1 c0 c1 c2 : ℕ} {w₁ w₂ w₃ w₄ : List ℕ}
      → b0 ≡ (0 + qb * pc + 0 * 0 + 0 * 0) % m → b1 ≡ (0 + qa * pc + 0 * 0 + 0 * 0) % m
      → c0 ≡ (qc + qb * pb + 0 * 0 + 0 * 0) % m → c1 ≡ (0 + qb * pa + qa * pb + 0 * 0) % m → c2 ≡ (0 + qa * pa + 0 * 0 + 0 * 0) % m
      → w₁ ≡ written w at (pc ∷ 0 ∷ 0 ∷ []) → w₂ ≡ written w₁ (at + 3) (pb ∷ pa ∷ 0 ∷ [])
      → w₃ ≡ written w₂ (at + 6) (b0 ∷ b1 ∷ 0 ∷ []) → w₄ ≡ written w₃ (at + 9) (c0 ∷ c1 ∷ c2 ∷ [])
      → w₄ ≡ written w at (matrix_list (leaf m (row_of pa pb pc) (row_of qa qb qc)))
  unfolding matrix_list leaf
  leaf-written {b0} {b1} {c0} {c1} {c2} eb0 eb1 ec0 ec1 ec2 e₁ e₂ e₃ e₄ =
      let room : at + 12 ≤ length w = input.room in
      let one = pc ∷ 0 ∷ 0 ∷ [] in
      let two = pb ∷ pa ∷ 0 ∷ [] in
      let three = b0 ∷ b1 ∷ 0 ∷ [] in
      let four = c0 ∷ c1 ∷ c2 ∷ [] in
      let first = written_then w at one (at + 3) two _ _ (omega arith) refl e₁ e₂ in
      let second = written_then w at (one ++ two) (at + 6) three _ _ (omega arith) refl first e₃ in
      let third = written_then w at (one ++ two ++ three) (at + 9) four _ _ (omega arith) refl second e₄ in
      third ∙ rw (
        eb0,
        eb1,
        ec0,
        ec1,
        ec2,
        alone (qb * pc),
        alone (qa * pc),
        alone (qa * pa),
        ended (qc + qb * pb),
        both (qb * pa) (qa * pb),
      )
    where
      alone : (x : ℕ) → 0 + x + 0 * 0 + 0 * 0 ≡ x
      alone x = omega arith

      ended : (x : ℕ) → x + 0 * 0 + 0 * 0 ≡ x
      ended x = omega arith

      both : (x y : ℕ) → 0 + x + y + 0 * 0 ≡ x + y
      both x y = omega arith
