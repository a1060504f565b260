-- The loop of `decompose`: after i steps the array matches the model (`Decomposing`). Assumes nothing.
use Rattle.plain.specs.Decomposing.{Tables, Decomposing}
use Rattle.plain.proofs.decompose.Given as goal

abbrev pub invariant-loop-i : goal.invariant-loop-i
invariant-loop-i l =
    let f = l.inverted-inside in
    Tables f.modulus l.n f.a.now f.b.now f.c.now l.rise l.stay l.fall
    × Decomposing f.modulus l.n f.a.now f.b.now f.c.now l.coefficients l.current l.i
