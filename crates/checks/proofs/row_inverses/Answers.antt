-- `row_inverses` answers the verdict of tests 17, 10, 18 and 11: one inverse settles all, or it is looked for whom to blame, column by column.
-- Assumes nothing.
use mathlib.Core.Path.{sym, ◌∙◌}
use native.Mathlib.Omega.{arith}
use lib.Seq.{length-take-le}
use Rattle.definitions.specs.Answers.{number_of}
use Rattle.acceptance.specs.Stages.{stage-refuses, stage-passes, stages-end}
use Rattle.residue.specs.Inversion.{inverted-found, found-has}
use Rattle.checks.specs.Columns.{columns-remain, joint-passes, told-answered}
use Rattle.checks.proofs.row_inverses.Goals as goal
use Rattle.checks.proofs.row_inverses.Goals.{then-first-r, else-first-r}

pub slice_bounds-joint_product-end : goal.slice_bounds-joint_product-end
slice_bounds-joint_product-end c = sym (length-take-le _ _ c.requires.1)

pub returns-in_default : goal.returns-in_default
returns-in_default c = λ b close_b.
    joint-passes _ _ _ _ _ _ _ c.requires.0 c.requires.1 c.requires.2 _ _ _ _ _ c.saturating_sub.ensures
    (λ l. elim c.if-first-r.branch [ then-first-r w ↦ w.closing-is | else-first-r w ↦ absurd (omega arith) ]) c.joint_product-product.ensures
    (found-has _ _ _ (inverted-found _ _ c.invert-whole.ensures c.in_default.is))

pub returns-in_default-blamed : goal.returns-in_default-blamed
returns-in_default-blamed c = λ b close_b.
    stage-refuses _ _ (columns-remain _ _ _ _ _ _ _ c.requires.0 c.requires.1 c.requires.2 b close_b) _ (told-answered _ ∙ c.column-blamed.ensures number_of) _
    c.in_default-blamed.is

pub returns : goal.returns
returns c = λ b close_b.
    stages-end _ (stage-passes _ _ (columns-remain _ _ _ _ _ _ _ c.requires.0 c.requires.1 c.requires.2 b close_b) _ (told-answered _ ∙ c.column-blamed.ensures number_of)
    c.in-Ok.is) c.column.result (told-answered _ ∙ c.column.ensures number_of)
