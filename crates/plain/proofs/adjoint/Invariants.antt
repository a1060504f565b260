-- The loop of `adjoint`: after j rows the arrays agree with the model (`Adjoining`). The measure is what is left of the rows. Assumes
-- nothing.
use lib.ListN.{take}
use Prim.Native.Nat.{◌-◌}
use Rattle.definitions.specs.Family.{ones}
use Rattle.lists.specs.Lent.{lent}
use Rattle.plain.specs.Adjoining.{Adjoining}
use Rattle.plain.proofs.adjoint.Given as goal

abbrev pub invariant-loop-j : goal.invariant-loop-j
invariant-loop-j l =
    let f = l.family-inside in
    Adjoining (lent f.modulus (l.n - 1) f.a.now f.b.now f.c.now ones) (take l.n l.curve) l.n
    l.initial.output l.current l.older l.output l.j
