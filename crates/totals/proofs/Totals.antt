-- The moments' total by rows.
-- Proved: the rows' totals weighed with s are the uncut product of s and t weighed with the moments (row_totals-moment_total). It rests on
-- row_total, which an edit of specs/ changes. Assumes nothing.
use Rattle.std.specs.Prelude.{◌≡◌, List, ℕ, ◌*◌, ◌%◌, ◌<◌}
use Rattle.std.proofs.Math.Path.{sym}
use Rattle.std.proofs.Common.{◌∙◌, mod-lt}
use Rattle.std.proofs.Math.ListN.{get_or}
use Rattle.algebra.specs.Residues.{Zmod, res, res-mod, res-mul, res-injective}
use Rattle.definitions.specs.Number.{sum}
use Rattle.definitions.specs.Orthogonality.{moment_total}
use Rattle.numbers.specs.Residue.{residue-sum}
use Rattle.theory.specs.Bridge.{entries}
use Rattle.theory.specs.BilinearForm.{form, form-rows}
use Rattle.theory.specs.ProductLaw.{res-moment_total}
use Rattle.totals.specs.Totals.{row_total}

-- ---- the moments' total by rows
module _ (m n : ℕ) (s t moment : List ℕ) (pos : 0 < m) where
  res-row_totals : res m pos (sum n (λ i. get_or s i 0 * row_total m n t moment i) % m)
      ≡ form (Zmod m pos) n (entries m pos moment) (entries m pos s) (entries m pos t)
  unfolding row_total
  res-row_totals = simp (res-mod m pos, residue-sum m pos, res-mul m pos)
      (sym (form-rows (Zmod m pos) n (entries m pos moment) (entries m pos s) (entries m pos t)))

  pub row_totals-moment_total : 0 < n → sum n (λ i. get_or s i 0 * row_total m n t moment i) % m ≡ moment_total m n s t moment
  unfolding moment_total
  row_totals-moment_total h = res-injective m pos (sum n (λ i. get_or s i 0 * row_total m n t moment i) % m) (moment_total m n s t moment)
      (mod-lt _ pos) (mod-lt _ pos)
      (res-row_totals ∙ sym (res-moment_total m pos n s t moment h))
