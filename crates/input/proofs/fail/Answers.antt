-- `fail` answers 1. The check finds this too; written out, it says what is wrong where another status is answered. Assumes nothing.
use Rattle.std.proofs.Common.{refl}
use Rattle.input.proofs.fail.Goals as goal

pub returns : goal.returns
returns g c = refl
