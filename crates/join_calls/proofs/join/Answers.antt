-- `join` keeps its promise: it answers the verdict of its tests, and its core writes the joined values. Assumes nothing.
use mathlib.Core.Path.{◌∙◌}
use Rattle.joining.specs.Calls.{join_tests}
use Rattle.join_calls.specs.Handing.{moduli-hand-on, rest-hand-on, rest-passes, lists-held, lists-whole}
use Rattle.join_calls.specs.Pairs.{answer-pair, answer-refused}
use Rattle.join_calls.proofs.join.Goals as goal

pub returns-in_err-inverse : goal.returns-in_err-inverse
unfolding join_tests
returns-in_err-inverse c =
    moduli-hand-on _ _ _ _ _ _ _ c.from_residual.ensures.1 (answer-refused _ _ c.moduli.ensures c.in_err-inverse.was)

pub returns-in_err-remainders : goal.returns-in_err-remainders
unfolding join_tests
returns-in_err-remainders c =
    rest-hand-on _ _ _ _ _ _ (answer-pair _ _ c.moduli.ensures c.in_ok-inverse.was) _ c.remainders.ensures _ _
    c.from_residual-in_err-remainders.ensures.1 c.in_err-remainders.was

pub join_lists-requires : goal.join_lists-requires
join_lists-requires c =
    let pair = answer-pair _ _ c.moduli.ensures c.in_ok-inverse.was in
    (pair, lists-held _ _ _ _ _ _ pair _ c.remainders.ensures c.in_ok-remainders.was)

pub returns : goal.returns
unfolding join_tests
returns c =
    let pair = answer-pair _ _ c.moduli.ensures c.in_ok-inverse.was in
    rest-passes _ _ _ _ _ _ pair _ c.remainders.ensures _ c.in_ok-remainders.was
    (c.join_lists.ensures ∙ lists-whole _ _ _ _ _ _ pair _ c.remainders.ensures c.in_ok-remainders.was)
