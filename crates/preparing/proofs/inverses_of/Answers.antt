-- `inverses_of` meets its contract: the inverses are filled in over zeros. Assumes nothing.
use mathlib.Core.Path.{ap}
use Prim.Native.Nat.{ℕ}
use native.Mathlib.Omega.{arith}
use lib.ListN.{length, length-replicate}
use Rattle.prepared_model.specs.Padding.{filled-padded}
use borrow.Author.Rules.{rules}
use Rattle.preparing.proofs.inverses_of.Goals as goal

pub of_list-requires : goal.of_list-requires
of_list-requires c =
    (search rules, omega (arith, ap length c.zeros-result.ensures, length-replicate {A = ℕ} 127 0))

pub returns : goal.returns
returns c = filled-padded _ _ c.zeros-result.ensures _ c.of_list.ensures
