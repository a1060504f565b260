-- `family_lines` reads the line of the modulus and then those of the rows. Assumes nothing.
use Rattle.std.proofs.Math.Path.{subst⁻¹}
use Rattle.form.specs.FamilyLines.{FamilyRead, no-modulus, no_rows, family-at}
use Rattle.form.proofs.family_lines.Goals as goal

pub returns-in_err-modulus : goal.returns-in_err-modulus
returns-in_err-modulus c =
    subst⁻¹ (FamilyRead _ _ _ _ _ _ _ _) c.from_residual.ensures (no-modulus _ c.in_err-modulus.ensures)

pub returns-in_err-rows : goal.returns-in_err-rows
returns-in_err-rows c =
    subst⁻¹ (FamilyRead _ _ _ _ _ _ _ _) c.from_residual-in_err-rows.ensures
    (no_rows _ _ _ _ c.in_ok-modulus.ensures c.in_err-rows.ensures)

pub returns : goal.returns
returns c = family-at _ _ _ _ c.in_ok-modulus.ensures _ _ _ _ _ _ _ _ _ _ c.in_ok-rows.ensures
