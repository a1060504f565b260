-- `column` answers the verdict of a column of remainders. Assumes nothing.
use mathlib.Core.List.{[]}
use mathlib.Core.Path.{◌∙◌, ap}
use lib.ListN.{length, drop}
use Rattle.definitions.specs.Answers.{number_of}
use Rattle.definitions.specs.Refusals.{verdict}
use Rattle.checks.specs.Columns.{told-answered}
use Rattle.expand_join.specs.Rows.{front-column}
use Rattle.expand_join.proofs.column.Goals as goal

pub returns : goal.returns
returns c =
    told-answered _ ∙ c.column.ensures number_of
    ∙ ap (λ ts. verdict ts []) (front-column c.args.m c.args.first c.args.list.now _ _
    (drop (length c.args.list.now) c.zeros-x.result) _ c.reduce_list.ensures)
