-- The operations on a prepared family and its changes finish exactly on what is asked of them.
--   NewRow m place row   a row that may stand at that place: its numbers are below m, its a has an inverse, and its c from row 2 on
--   AppendInput, DropInput, ReplaceInput   what each change takes: a right record, and the rest as it must be
-- Proved: none of the tests holds (`-passes`), and the verdict is finished (`-finished`), if and only if: for an operation, the record is
-- right, and its own rows with the lent lists are what the call on lists accepts; for a change, its input is of that kind; for the record
-- without rows, m is a modulus. Assumes nothing.
use Rattle.std.specs.Prelude.{◌≡◌, false, List, ◌↔◌, ℕ, ◌-◌, ◌<◌, ◌≤◌, eqb}
use Rattle.std.proofs.Math.Logic.Iff
use Rattle.std.proofs.Common.{ltb-false, le-ltb}
use Rattle.definitions.specs.Family.{Row, Family, Modulus, most_rows, first_c}
use Rattle.definitions.specs.Number.{HasInverse}
use Rattle.definitions.specs.Refusals.{finished, verdict, no_inverse}
use Rattle.definitions.specs.Prepared.{Prepared, Right, own_rows, no_rows_test, absent_row_test, row_tests}
use Rattle.definitions.specs.Prepared.{empty_tests, append_tests, drop_tests, replace_tests}
use Rattle.definitions.specs.PreparedCalls.{prepared_plain_tests, prepared_tree_tests, prepared_norms_tests, prepared_moments_tests}
use Rattle.numbers.specs.Inverse.{has-inverse-positive}
use Rattle.acceptance.specs.Acceptance.{PlainInput, TreeInput, MomentsInput, NormsInput, curve-accepted}
use Rattle.acceptance.specs.Verdicts.{None, verdict-finished, or-false, zero-false, no_inverse-false, row-below-false, from_false}
use Rattle.acceptance.specs.Verdicts.{modulus-passes, row-count-passes, output-passes, work-passes}
use Rattle.prepared_model.specs.Rows.{NewRow}
use Rattle.prepared_model.specs.Rightness.{record-passes, right_positive}

-- ---- the operations
module _ (p : Prepared) where
  abbrev f : Family
  f = own_rows p

  pub prepared-plain-passes : (u : List ℕ) (output : ℕ) → None (prepared_plain_tests p u output) ↔ (Right p × PlainInput f u output)
  unfolding prepared_plain_tests
  prepared-plain-passes u output = simp (record-passes, output-passes) (
    λ n. (
      n.0,
      record { accepted = n.0.accepted; curve = (curve-accepted f u).0 (n.1.0, n.1.1.1); output_length = n.1.1.0 },
    ),
    λ q. let curve = (curve-accepted f u).1 q.1.curve in (q.0, (curve.0, (q.1.output_length, curve.1))),
  )

  pub prepared-tree-passes : (u : List ℕ) (output work : ℕ)
      → None (prepared_tree_tests p u output work) ↔ (Right p × TreeInput f u output work)
  unfolding prepared_tree_tests
  prepared-tree-passes u output work = simp (record-passes, output-passes, work-passes) (
    λ n. (
      n.0,
      record {
        plain = record {
          accepted = n.0.accepted;
          curve = (curve-accepted f u).0 (n.1.0, n.1.1.1.1);
          output_length = n.1.1.0;
        };
        work_long = n.1.1.1.0;
      },
    ),
    λ q.
        let curve = (curve-accepted f u).1 q.1.plain.curve in
        (q.0, (curve.0, (q.1.plain.output_length, (q.1.work_long, curve.1)))),
  )

  pub prepared-norms-passes : (output : ℕ) → None (prepared_norms_tests p output) ↔ (Right p × NormsInput f output)
  unfolding prepared_norms_tests
  prepared-norms-passes output = simp (record-passes, output-passes) (
    λ n. (n.0, record { accepted = n.0.accepted; output_length = n.1.0 }),
    λ q. (q.0, (q.1.output_length, tt)),
  )

  pub prepared-moments-passes : (output work : ℕ) → None (prepared_moments_tests p output work) ↔ (Right p × MomentsInput f output work)
  unfolding prepared_moments_tests
  prepared-moments-passes output work = simp (record-passes, output-passes, work-passes) (
    λ n. (n.0, record { accepted = n.0.accepted; output_length = n.1.0; work_long = n.1.1.0 }),
    λ q. (q.0, (q.1.output_length, (q.1.work_long, tt))),
  )

  pub prepared-plain-finished : (u : List ℕ) (output : ℕ) (values : List ℕ)
      → (verdict (prepared_plain_tests p u output) values ≡ finished values) ↔ (Right p × PlainInput f u output)
  prepared-plain-finished u output values =
      Iff.trans (verdict-finished (prepared_plain_tests p u output) values) (prepared-plain-passes u output)

  pub prepared-tree-finished : (u : List ℕ) (output work : ℕ) (values : List ℕ)
      → (verdict (prepared_tree_tests p u output work) values ≡ finished values) ↔ (Right p × TreeInput f u output work)
  prepared-tree-finished u output work values =
      Iff.trans (verdict-finished (prepared_tree_tests p u output work) values) (prepared-tree-passes u output work)

  pub prepared-norms-finished : (output : ℕ) (values : List ℕ)
      → (verdict (prepared_norms_tests p output) values ≡ finished values) ↔ (Right p × NormsInput f output)
  prepared-norms-finished output values = Iff.trans (verdict-finished (prepared_norms_tests p output) values) (prepared-norms-passes output)

  pub prepared-moments-finished : (output work : ℕ) (values : List ℕ)
      → (verdict (prepared_moments_tests p output work) values ≡ finished values) ↔ (Right p × MomentsInput f output work)
  prepared-moments-finished output work values =
      Iff.trans (verdict-finished (prepared_moments_tests p output work) values) (prepared-moments-passes output work)

-- ---- a new row
pub new-row-passes : (m place : ℕ) (row : Row) → 0 < m → None (row_tests m place row) ↔ NewRow m place row
unfolding row_tests
new-row-passes m place row pos =
    let a = no_inverse-false m row.a pos in
    let c = no_inverse-false m row.c pos in
    let from = from_false first_c place (no_inverse m row.c) in
    let some : (x : ℕ) → HasInverse m x → eqb x 0 ≡ false = λ x has. (zero-false x).1 (has-inverse-positive m x has) in (
      λ n.
          record {
            below = (row-below-false m row).0 n.0;
            a_inverse = a.0 n.1.1.0;
            c_inverse = λ l. c.0 (from.0 n.1.1.1.1.0 l);
          },
      λ h. (
        (row-below-false m row).1 h.below,
        (
          some row.a h.a_inverse,
          (
            a.1 h.a_inverse,
            (
              (from_false first_c place (eqb row.c 0)).1 (λ l. some row.c (h.c_inverse l)),
              (from.1 (λ l. c.1 (h.c_inverse l)), tt),
            ),
          ),
        ),
      ),
    )

-- ---- the changes; a row is counted from 1
pub record AppendInput (p : Prepared) (row : Row) : Type 0 where
  pub right : Right p
  pub room : p.rows < most_rows
  pub new_row : NewRow p.modulus p.rows row

pub record DropInput (p : Prepared) : Type 0 where
  pub right : Right p
  pub some : 0 < p.rows

pub record ReplaceInput (p : Prepared) (i : ℕ) (row : Row) : Type 0 where
  pub right : Right p
  pub first : 1 ≤ i
  pub last : i ≤ p.rows
  pub new_row : NewRow p.modulus (i - 1) row

pub no-rows-passes : (p : Prepared) → ((no_rows_test p).holds ≡ false) ↔ (0 < p.rows)
unfolding no_rows_test
no-rows-passes p = zero-false p.rows

pub absent-row-passes : (p : Prepared) (i : ℕ) → ((absent_row_test p i).holds ≡ false) ↔ ((1 ≤ i) × (i ≤ p.rows))
unfolding absent_row_test
absent-row-passes p i = simp (or-false, zero-false) (
  λ e. (e.0, ltb-false p.rows i e.1),
  λ h. (h.0, le-ltb p.rows i h.1),
)

pub empty-passes : (m : ℕ) → None (empty_tests m) ↔ Modulus m
unfolding empty_tests
empty-passes m = (λ n. (modulus-passes m).0 n.0, λ h. ((modulus-passes m).1 h, tt))

pub append-passes : (p : Prepared) (row : Row) → None (append_tests p row) ↔ AppendInput p row
unfolding append_tests
append-passes p row =
    let taken : Right p → None (row_tests p.modulus p.rows row) ↔ NewRow p.modulus p.rows row =
    λ right. new-row-passes p.modulus p.rows row (right_positive right) in
    simp (record-passes, row-count-passes) (
      λ n. record { right = n.0; room = n.1.0; new_row = (taken n.0).0 n.1.1 },
      λ q. (q.right, (q.room, (taken q.right).1 q.new_row)),
    )

pub drop-passes : (p : Prepared) → None (drop_tests p) ↔ DropInput p
unfolding drop_tests
drop-passes p = simp (record-passes, no-rows-passes) (
  λ n. record { right = n.0; some = n.1.0 },
  λ q. (q.right, (q.some, tt)),
)

pub replace-passes : (p : Prepared) (i : ℕ) (row : Row) → None (replace_tests p i row) ↔ ReplaceInput p i row
unfolding replace_tests
replace-passes p i row =
    let taken : Right p → None (row_tests p.modulus (i - 1) row) ↔ NewRow p.modulus (i - 1) row =
    λ right. new-row-passes p.modulus (i - 1) row (right_positive right) in
    simp (record-passes, absent-row-passes) (
      λ n. record { right = n.0; first = n.1.0.0; last = n.1.0.1; new_row = (taken n.0).0 n.1.1 },
      λ q. (q.right, ((q.first, q.last), (taken q.right).1 q.new_row)),
    )

pub empty-finished : (m : ℕ) (values : List ℕ) → (verdict (empty_tests m) values ≡ finished values) ↔ Modulus m
empty-finished m values = Iff.trans (verdict-finished (empty_tests m) values) (empty-passes m)

pub append-finished : (p : Prepared) (row : Row) (values : List ℕ)
    → (verdict (append_tests p row) values ≡ finished values) ↔ AppendInput p row
append-finished p row values = Iff.trans (verdict-finished (append_tests p row) values) (append-passes p row)

pub drop-finished : (p : Prepared) (values : List ℕ) → (verdict (drop_tests p) values ≡ finished values) ↔ DropInput p
drop-finished p values = Iff.trans (verdict-finished (drop_tests p) values) (drop-passes p)

pub replace-finished : (p : Prepared) (i : ℕ) (row : Row) (values : List ℕ)
    → (verdict (replace_tests p i row) values ≡ finished values) ↔ ReplaceInput p i row
replace-finished p i row values = Iff.trans (verdict-finished (replace_tests p i row) values) (replace-passes p i row)
