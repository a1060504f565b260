-- `convert_parts` meets its promise: the fronts are lists of their own, and what lies behind the output's front stays. Assumes nothing.
use Rattle.operations.specs.Lists.{parts-sized, parts-promised}
use Rattle.operations.proofs.convert_parts.Goals as goal

pub convert_lists-requires : goal.convert_lists-requires
convert_lists-requires c =
    parts-sized _ _ _ _ _ _ _ _ _ _ _ c.requires

pub returns : goal.returns
returns c =
    parts-promised _ _ c.args.a.now c.args.b.now c.args.c.now c.args.rows c.args.curve.now c.args.entries c.args.output.now c.args.count _ _ _ _
    c.convert_lists.ensures
