-- The tests 9, 17, 10, 18 and 11 of one row, settled one after another.
-- Proved: what they come to where a number of the row is not below m, where its a or its c is zero or has no inverse, and where they pass.
-- Assumes nothing.
use Rattle.std.specs.Prelude.{◌≡◌, false, ◌↔◌, ℕ, ◌<◌, ◌≤◌, eqb}
use Rattle.std.proofs.Common.{◌∙◌}
use mathlib.Core.List.{[], ◌∷◌}
use Rattle.std.proofs.Math.Logic.Iff
use Rattle.definitions.specs.Family.{Row, RowBelow, row_of, first_c}
use Rattle.definitions.specs.Number.{HasInverse}
use Rattle.definitions.specs.Prepared.{row_tests}
use Rattle.definitions.specs.Refusals.{Verdict, finished, refused, verdict, no_inverse}
use Rattle.numbers.specs.Inverse.{has-inverse-positive}
use Rattle.acceptance.specs.NewRow.{nine, seventeen, ten, eighteen, eleven}
use Rattle.acceptance.specs.Verdicts.{row-below-false, zero-false, no_inverse-false, from_false}
use Rattle.checks.specs.Settling.{refuses, goes_on, refuses-alone, finishes}

pub all-below : {m a b c : ℕ} → a < m → b < m → c < m → RowBelow m (row_of a b c)
all-below x y z = record { a_below = x; b_below = y; c_below = z }

module _ (m place : ℕ) (row : Row) (pos : 0 < m) where
  abbrev whole : Verdict
  whole = verdict (row_tests m place row) []

  -- what is asked of the c
  abbrev Asked : Type 0 → Type 0
  Asked P = first_c ≤ place → P

  c-some : ((eighteen m place row).holds ≡ false) ↔ Asked (0 < row.c)
  c-some = Iff.trans (from_false first_c place (eqb row.c 0)) (λ h l. (zero-false row.c).0 (h l), λ h l. (zero-false row.c).1 (h l))

  c-passes : ((eleven m place row).holds ≡ false) ↔ Asked (HasInverse m row.c)
  c-passes = Iff.trans (from_false first_c place (no_inverse m row.c)) (
    λ h l. (no_inverse-false m row.c pos).0 (h l),
    λ h l. (no_inverse-false m row.c pos).1 (h l),
  )

  pub row-outside : (RowBelow m row → ⊥) → refused 9 ≡ whole
  unfolding row_tests
  row-outside n = refuses (nine m place row) (row-below-false m row) _ [] n

  module _ (below : RowBelow m row) where
    past-nine : verdict (seventeen m place row ∷ ten m place row ∷ eighteen m place row ∷ eleven m place row ∷ []) [] ≡ whole
    unfolding row_tests
    past-nine = goes_on (nine m place row) (row-below-false m row) _ [] below

    pub row-a-zero : (0 < row.a → ⊥) → refused 17 ≡ whole
    row-a-zero n = refuses (seventeen m place row) (zero-false row.a) _ [] n ∙ past-nine

    past-seventeen : 0 < row.a → verdict (ten m place row ∷ eighteen m place row ∷ eleven m place row ∷ []) [] ≡ whole
    past-seventeen some = goes_on (seventeen m place row) (zero-false row.a) _ [] some ∙ past-nine

    pub row-a-lacks : 0 < row.a → (HasInverse m row.a → ⊥) → refused 10 ≡ whole
    row-a-lacks some n = refuses (ten m place row) (no_inverse-false m row.a pos) _ [] n ∙ past-seventeen some

    module _ (a_has : HasInverse m row.a) where
      past-ten : verdict (eighteen m place row ∷ eleven m place row ∷ []) [] ≡ whole
      past-ten = goes_on (ten m place row) (no_inverse-false m row.a pos) _ [] a_has ∙ past-seventeen (has-inverse-positive m row.a a_has)

      pub row-c-zero : (Asked (0 < row.c) → ⊥) → refused 18 ≡ whole
      row-c-zero n = refuses (eighteen m place row) c-some _ [] n ∙ past-ten

      past-eighteen : Asked (0 < row.c) → verdict (eleven m place row ∷ []) [] ≡ whole
      past-eighteen some = goes_on (eighteen m place row) c-some _ [] some ∙ past-ten

      pub row-c-lacks : Asked (0 < row.c) → (Asked (HasInverse m row.c) → ⊥) → refused 11 ≡ whole
      row-c-lacks some n = refuses-alone (eleven m place row) c-passes n ∙ past-eighteen some

      pub row-passes : Asked (HasInverse m row.c) → finished [] ≡ whole
      row-passes h = finishes (eleven m place row) c-passes h ∙ past-eighteen (λ l. has-inverse-positive m row.c (h l))
