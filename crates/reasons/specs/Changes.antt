-- What the numbers of a new row say, where an append or a replacement gives one.
-- Proved, from m = 2 on: of the tests on a new row 17 is given if and only if its numbers are below m and its a is zero, 10 if and only if
-- its a shares a factor with m; 18 and 11 where besides its a has an inverse and it is not row 1, of its c (row-seventeen-is and so on).
-- An append gives such a number if and only if 14 and 5 pass and the tests on the row give it, a replacement if and only if 14 and 16 do
-- (append-says, replace-says). Assumes nothing.
use Rattle.std.specs.Prelude.{◌≡◌, true, false, ◌↔◌, ℕ, suc, ◌-◌, ◌<◌, ◌≤◌, eqb}
use Rattle.std.proofs.Common.{◌∙◌}
use mathlib.Core.List.{[], ◌∷◌}
use Rattle.std.proofs.Math.Logic.Iff
use native.Mathlib.Omega.{arith}
use borrow.Author.Tests.{eqb-true, eq-eqb}
use Rattle.definitions.specs.Family.{Row, RowBelow, first_c}
use Rattle.definitions.specs.Number.{HasInverse}
use Rattle.definitions.specs.Prepared.{Prepared, record_test, absent_row_test, row_tests, append_tests, replace_tests}
use Rattle.definitions.specs.Refusals.{refused, verdict, no_inverse, row_count_test}
use Rattle.numbers.specs.Inverse.{has-inverse-positive}
use Rattle.acceptance.specs.NewRow.{nine, seventeen, ten, eighteen, eleven}
use Rattle.acceptance.specs.Verdicts.{None, verdict-goes-on, row-below-false, zero-false, no_inverse-false, no_inverse-true, from_false}
use Rattle.acceptance.specs.Verdicts.{from-true}
use Rattle.reasons.specs.Lowest.{SharedFactor, shared-factor-is}
use Rattle.reasons.specs.Refused.{refused-past, refused-here}
use Rattle.reasons.specs.Rows.{RowNumber, early, between}

module _ (m place : ℕ) (row : Row) (two : 2 ≤ m) where
  pos : 0 < m
  pos = omega arith

  a-pass : None (nine m place row ∷ seventeen m place row ∷ ten m place row ∷ []) ↔ (RowBelow m row × HasInverse m row.a)
  a-pass = (
    λ n. ((row-below-false m row).0 n.0, (no_inverse-false m row.a pos).0 n.1.1.0),
    λ p. (
      (row-below-false m row).1 p.0,
      ((zero-false row.a).1 (has-inverse-positive m row.a p.1), ((no_inverse-false m row.a pos).1 p.1, tt)),
    ),
  )

  -- a number that is not zero and has no inverse
  shared-is : (x : ℕ) → ((eqb x 0 ≡ false) × (no_inverse m x ≡ true)) ↔ SharedFactor m x
  shared-is x = Iff.trans (
    λ p. ((zero-false x).0 p.0, (no_inverse-true m x pos).0 p.1),
    λ p. ((zero-false x).1 p.0, (no_inverse-true m x pos).1 p.1),
  ) (shared-factor-is m x two)

  pub row-seventeen-is : (verdict (row_tests m place row) [] ≡ refused 17) ↔ (RowBelow m row × (row.a ≡ 0))
  unfolding row_tests
  row-seventeen-is = Iff.trans
      (refused-here [] (nine m place row ∷ []) (seventeen m place row) (ten m place row ∷ eighteen m place row ∷ eleven m place row ∷ [])
      (λ e q. omega arith, tt) (λ e q. omega arith, (λ e q. omega arith, (λ e q. omega arith, tt)))) (
        λ p. ((row-below-false m row).0 p.0.0, eqb-true row.a 0 p.1),
        λ p. (((row-below-false m row).1 p.0, tt), eq-eqb row.a 0 p.1),
      )

  pub row-ten-is : (verdict (row_tests m place row) [] ≡ refused 10) ↔ (RowBelow m row × SharedFactor m row.a)
  unfolding row_tests
  row-ten-is = Iff.trans
      (refused-here [] (nine m place row ∷ seventeen m place row ∷ []) (ten m place row) (eighteen m place row ∷ eleven m place row ∷ [])
      (λ e q. omega arith, (λ e q. omega arith, tt)) (λ e q. omega arith, (λ e q. omega arith, tt))) (
        λ p. ((row-below-false m row).0 p.0.0, (shared-is row.a).0 (p.0.1.0, p.1)),
        λ p. let shared = (shared-is row.a).1 p.1 in (((row-below-false m row).1 p.0, (shared.0, tt)), shared.1),
      )

  pub row-eighteen-is : (verdict (row_tests m place row) [] ≡ refused 18)
      ↔ (RowBelow m row × HasInverse m row.a × (first_c ≤ place) × (row.c ≡ 0))
  unfolding row_tests
  row-eighteen-is = Iff.trans
      (refused-here [] (nine m place row ∷ seventeen m place row ∷ ten m place row ∷ []) (eighteen m place row) (eleven m place row ∷ [])
      (λ e q. omega arith, (λ e q. omega arith, (λ e q. omega arith, tt))) (λ e q. omega arith, tt)) (
        λ p.
            let passed = a-pass.0 p.0 in
            let asked = (from-true first_c place (eqb row.c 0)).0 p.1 in
            (passed.0, passed.1, asked.0, eqb-true row.c 0 asked.1),
        λ p. (a-pass.1 (p.0, p.1), (from-true first_c place (eqb row.c 0)).1 (p.2, eq-eqb row.c 0 p.3)),
      )

  pub row-eleven-is : (verdict (row_tests m place row) [] ≡ refused 11)
      ↔ (RowBelow m row × HasInverse m row.a × (first_c ≤ place) × SharedFactor m row.c)
  unfolding row_tests
  row-eleven-is = Iff.trans
      (refused-here [] (nine m place row ∷ seventeen m place row ∷ ten m place row ∷ eighteen m place row ∷ []) (eleven m place row) []
      (λ e q. omega arith, (λ e q. omega arith, (λ e q. omega arith, (λ e q. omega arith, tt)))) tt) (
        λ p.
            let passed = a-pass.0 (p.0.0, (p.0.1.0, (p.0.1.1.0, tt))) in
            let asked = (from-true first_c place (no_inverse m row.c)).0 p.1 in
            let some = (from_false first_c place (eqb row.c 0)).0 p.0.1.1.1.0 asked.0 in
            (passed.0, passed.1, asked.0, (shared-is row.c).0 (some, asked.1)),
        λ p.
            let passed = a-pass.1 (p.0, p.1) in
            let shared = (shared-is row.c).1 p.3 in
            let some = (from_false first_c place (eqb row.c 0)).1 (λ l. shared.0) in (
              (passed.0, (passed.1.0, (passed.1.1.0, (some, tt)))),
              (from-true first_c place (no_inverse m row.c)).1 (p.2, shared.1),
            ),
      )

module _ (k : ℕ) (number : RowNumber k) (p : Prepared) (row : Row) where
  pub append-says : (verdict (append_tests p row) [] ≡ refused k)
      ↔ (None (record_test p ∷ row_count_test (suc p.rows) ∷ []) × (verdict (row_tests p.modulus p.rows row) [] ≡ refused k))
  unfolding append_tests record_test row_count_test
  append-says = (
    refused-past k [] (record_test p ∷ row_count_test (suc p.rows) ∷ []) (row_tests p.modulus p.rows row)
        (λ e. between k number 14 (omega arith), (λ e. early k number 5 (omega arith), tt)),
    λ q. verdict-goes-on (row_tests p.modulus p.rows row) [] (record_test p ∷ row_count_test (suc p.rows) ∷ []) q.0 ∙ q.1,
  )

  pub replace-says : (i : ℕ) → (verdict (replace_tests p i row) [] ≡ refused k)
      ↔ (None (record_test p ∷ absent_row_test p i ∷ []) × (verdict (row_tests p.modulus (i - 1) row) [] ≡ refused k))
  unfolding replace_tests record_test absent_row_test
  replace-says i = (
    refused-past k [] (record_test p ∷ absent_row_test p i ∷ []) (row_tests p.modulus (i - 1) row)
        (λ e. between k number 14 (omega arith), (λ e. between k number 16 (omega arith), tt)),
    λ q. verdict-goes-on (row_tests p.modulus (i - 1) row) [] (record_test p ∷ absent_row_test p i ∷ []) q.0 ∙ q.1,
  )
