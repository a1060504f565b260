-- `row_lines` reads the three lines of rows one after the other. Each answer is a lemma applied to what the lines before it said.
-- Assumes nothing.
use Rattle.std.proofs.Math.Path.{subst⁻¹}
use Rattle.form.specs.FamilyLines.{RowsRead, no-a, no-b, no-c, rows_at}
use Rattle.form.proofs.row_lines.Goals as goal

pub returns-in_err-a_line : goal.returns-in_err-a_line
returns-in_err-a_line c =
    subst⁻¹ (RowsRead _ _ _ _ _ _ _ _) c.from_residual.ensures (no-a _ c.in_err-a_line.ensures)

pub returns-in_err-b_line : goal.returns-in_err-b_line
returns-in_err-b_line c =
    subst⁻¹ (RowsRead _ _ _ _ _ _ _ _) c.from_residual-in_err-b_line.ensures
    (no-b _ _ _ _ _ _ c.in_ok-a_line.ensures c.in_err-b_line.ensures)

pub returns-in_err-c_line : goal.returns-in_err-c_line
returns-in_err-c_line c =
    subst⁻¹ (RowsRead _ _ _ _ _ _ _ _) c.from_residual-in_err-c_line.ensures
    (no-c _ _ _ _ _ _ c.in_ok-a_line.ensures _ _ _ _ c.in_ok-b_line.ensures c.in_err-c_line.ensures)

pub returns : goal.returns
returns c =
    rows_at _ _ _ _ _ _ c.in_ok-a_line.ensures _ _ _ _ c.in_ok-b_line.ensures _ _ _ _ c.in_ok-c_line.ensures
