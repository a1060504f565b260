-- `choose` answers the operation that a number names, one arm for each. Assumes nothing.
use mathlib.Core.Path.{sym, ap}
use native.Mathlib.Omega.{arith}
use Rattle.zahupnik.specs.Returned.{choice_of, choice}
use Rattle.zahupnik.proofs.Returning.{choice-past}
use Rattle.zahupnik.proofs.choose.Goals as goal

pub returns-in-0 : goal.returns-in-0
unfolding choice choice_of
returns-in-0 c = sym (ap choice c.in-0.is)

pub returns-in-1 : goal.returns-in-1
unfolding choice choice_of
returns-in-1 c = sym (ap choice c.in-1.is)

pub returns-in-2 : goal.returns-in-2
unfolding choice choice_of
returns-in-2 c = sym (ap choice c.in-2.is)

pub returns-in-3 : goal.returns-in-3
unfolding choice choice_of
returns-in-3 c = sym (ap choice c.in-3.is)

pub returns-in-4 : goal.returns-in-4
unfolding choice choice_of
returns-in-4 c = sym (ap choice c.in-4.is)

pub returns-in_default : goal.returns-in_default
returns-in_default c =
    choice-past _ (omega (arith, c.in_default.in_default-own.rest.1, c.in_default.in_default-own.rest.0.1, c.in_default.in_default-own.rest.0.0.1, c.in_default.in_default-own.rest.0.0.0.1, c.in_default.in_default-own.rest.0.0.0.0.1))
