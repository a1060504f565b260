-- `by_appends` keeps its promise: the laws of `Grown` at the loop, and at a refused append. Assumes nothing.
use mathlib.Core.Path.{ap}
use native.Mathlib.Omega.{arith}
use Rattle.definitions.specs.Answers.{answered}
use Rattle.checks.specs.Shape.{shaped}
use Rattle.prepared_laws.specs.Growing.{grown-start, grown-next, grown-refused, grown-ends, shape-refused}
use Rattle.prepared_laws.proofs.by_appends.Goals as goal

pub returns-in_default : goal.returns-in_default
returns-in_default c = shape-refused _ _ _ _ _ _ c.family_shape-shape.ensures _ c.in_default.is

pub loop-i-init : goal.loop-i-init
loop-i-init c =
    grown-start _ _ _ _ _ _ (shaped _ _ _ _ _ c.family_shape-shape.ensures c.in-Ok.is) c.empty-start.ensures

pub bounds-b-i : goal.bounds-b-i
bounds-b-i c =
    omega (arith, c.loop-i.invariant.shape.b_length)

pub bounds-c-i : goal.bounds-c-i
bounds-c-i c =
    omega (arith, c.loop-i.invariant.shape.c_length)

pub returns-in_default-answer : goal.returns-in_default-answer
returns-in_default-answer c =
    grown-refused _ _ _ _ _ _ c.loop-i.invariant _ _ c.loop-i-test.true c.append-next.ensures _
    (ap answered c.in_default-answer.is)

pub loop-i-preserved : goal.loop-i-preserved
loop-i-preserved c =
    grown-next _ _ _ _ _ _ c.loop-i.invariant _ _ c.loop-i-test.true c.append-next.ensures
    (ap answered c.in-Ok-answer.is)

pub returns : goal.returns
returns c = grown-ends _ _ _ _ _ _ c.loop-i.invariant c.loop-i-test.false
