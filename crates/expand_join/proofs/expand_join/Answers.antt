-- `expand_join` keeps its promise: it answers the verdict of its tests, and joins what both channels expand to. Assumes nothing.
use mathlib.Core.Path.{◌∙◌}
use lib.ListN.{length, drop}
use Rattle.joining.specs.Calls.{expand_join_tests}
use Rattle.join_calls.specs.Handing.{moduli-hand-on, rest-hand-on, rest-passes}
use Rattle.join_calls.specs.Pairs.{answer-pair, answer-refused}
use Rattle.expand_join.specs.Channel.{first-asked, second-asked, both-held, both-joined}
use Rattle.expand_join.proofs.expand_join.Goals as goal

pub returns-in_err-inverse : goal.returns-in_err-inverse
unfolding expand_join_tests
returns-in_err-inverse c =
    moduli-hand-on _ _ _ _ _ _ _ c.from_residual.ensures.1 (answer-refused _ _ c.moduli.ensures c.in_err-inverse.was)

pub tests-requires : goal.tests-requires
tests-requires c =
    let pair = answer-pair _ _ c.moduli.ensures c.in_ok-inverse.was in
    (pair.first, pair.second)

pub returns-in_err-tests : goal.returns-in_err-tests
unfolding expand_join_tests
returns-in_err-tests c =
    rest-hand-on _ _ _ _ _ _ (answer-pair _ _ c.moduli.ensures c.in_ok-inverse.was) c.tests.result c.tests.ensures _ _
    c.from_residual-in_err-tests.ensures.1 c.in_err-tests.was

pub expand_channel-requires : goal.expand_channel-requires
expand_channel-requires c =
    first-asked _ _ _ (answer-pair _ _ c.moduli.ensures c.in_ok-inverse.was) _ _ _ _ _ c.tests.result
    c.tests.ensures c.in_ok-tests.was _ c.zeros-x.ensures

pub expand_channel-requires-2 : goal.expand_channel-requires-2
expand_channel-requires-2 c =
    second-asked _ _ _ (answer-pair _ _ c.moduli.ensures c.in_ok-inverse.was) _ _ _ _ _ c.tests.result
    c.tests.ensures c.in_ok-tests.was _ c.zeros-y.ensures

pub join_lists-requires : goal.join_lists-requires
join_lists-requires c =
    let pair = answer-pair _ _ c.moduli.ensures c.in_ok-inverse.was in (
      pair,
      both-held _ _ _ pair c.args.a.now c.args.b.now c.args.c.now c.args.curve.now _ c.tests.result
          c.tests.ensures c.in_ok-tests.was _ _ (drop (length c.args.curve.now) c.zeros-x.result)
          (drop (length c.args.curve.now) c.zeros-y.result) c.expand_channel.ensures
          c.expand_channel-2.ensures,
    )

pub returns : goal.returns
unfolding expand_join_tests
returns c =
    let pair = answer-pair _ _ c.moduli.ensures c.in_ok-inverse.was in
    rest-passes _ _ _ _ _ _ pair c.tests.result c.tests.ensures _ c.in_ok-tests.was
    (c.join_lists.ensures ∙ both-joined _ _ _ pair c.args.a.now c.args.b.now c.args.c.now c.args.curve.now _
    c.tests.result c.tests.ensures c.in_ok-tests.was _ _
    (drop (length c.args.curve.now) c.zeros-x.result)
    (drop (length c.args.curve.now) c.zeros-y.result) c.expand_channel.ensures c.expand_channel-2.ensures)
