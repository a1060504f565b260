-- `expands_joined` meets its law: the lists of Expand on each channel are what the joined list leaves, and Join of them is that list. Where a
-- call refuses, the input is none on which the law is promised. Assumes nothing.
use mathlib.Core.Path.{sym, ◌∙◌}
use Rattle.acceptance.proofs.HandedOn.{handed-on}
use Rattle.join_laws.specs.Holding.{both-refused, first-refused, second-refused, channels-law}
use Rattle.join_laws.proofs.expands_joined.Goals as goal

pub returns-in_err-expand_join : goal.returns-in_err-expand_join
returns-in_err-expand_join c =
    rw (handed-on _ _ c.from_residual.ensures.1 ∙ sym c.in_err-expand_join.was)
    (both-refused _ _ _ _ _ _ _ _ _ _ _ c.expand_join.result c.expand_join.ensures _ c.in_err-expand_join.was)

pub returns-in_err-plain_expand : goal.returns-in_err-plain_expand
returns-in_err-plain_expand c =
    rw (handed-on _ _ c.from_residual-in_err-plain_expand.ensures.1 ∙ sym c.in_err-plain_expand.was)
    (first-refused _ _ _ _ _ _ _ _ _ _ _ c.expand_join.result c.expand_join.ensures
    c.plain_expand.result _ c.plain_expand.ensures _ c.in_err-plain_expand.was)

pub returns-in_err-plain_expand-2 : goal.returns-in_err-plain_expand-2
returns-in_err-plain_expand-2 c =
    rw (handed-on _ _ c.from_residual-in_err-plain_expand-2.ensures.1 ∙ sym c.in_err-plain_expand-2.was)
    (second-refused _ _ _ _ _ _ _ _ _ _ _ c.expand_join.result c.expand_join.ensures
    c.plain_expand.result _ c.plain_expand.ensures c.plain_expand-2.result _ c.plain_expand-2.ensures _
    c.in_err-plain_expand-2.was)

pub returns : goal.returns
returns c =
    channels-law _ _ _ _ _ _ _ _ _ _ _ c.expand_join.result c.expand_join.ensures
    c.plain_expand.result _ c.plain_expand.ensures c.plain_expand-2.result _ c.plain_expand-2.ensures
    c.join.result _ c.join.ensures
