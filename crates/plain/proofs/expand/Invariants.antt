-- The loop of `expand`: after i steps the arrays match the model (`Expanding`). The measure is what is left of the steps. Assumes nothing.
use lib.ListN.{take}
use Prim.Native.Nat.{◌-◌}
use Rattle.definitions.specs.Family.{ones}
use Rattle.lists.specs.Lent.{lent}
use Rattle.plain.specs.Expanding.{Expanding}
use Rattle.plain.proofs.expand.Given as goal

abbrev pub invariant-loop-i : goal.invariant-loop-i
invariant-loop-i l =
    let f = l.family-inside in
    Expanding (lent f.modulus (l.n - 1) f.a.now f.b.now f.c.now ones) (take l.n l.curve)
    l.n l.current l.older l.i
