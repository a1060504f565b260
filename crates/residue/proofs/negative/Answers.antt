-- `residue::negative` meets its contract: a remainder is below m, and m less the remainder is `negative` by definition.
-- Assumes nothing.
use mathlib.Core.Path.{ap}
use Prim.Native.Nat.{◌-◌}
use Rattle.definitions.specs.Number.{negative}
use Rattle.residue.proofs.negative.Goals as goal

pub returns : goal.returns
unfolding negative
returns c = ap (λ r. c.args.m.value - r) c.remainder.ensures
