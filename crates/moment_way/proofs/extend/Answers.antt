-- `extend` meets its contract: a copy, and one entry more. Assumes nothing.
use Rattle.std.proofs.Common.{arith}
use Rattle.moment_way.specs.Polynomials.{extended-rows}
use Rattle.moment_way.proofs.extend.Goals as goal

pub returns : goal.returns
returns c = extended-rows (omega arith) c.requires c.zeros-rows.ensures c.copy.ensures
