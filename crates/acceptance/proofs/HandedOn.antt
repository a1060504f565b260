-- A refusal that `?` hands on: std says of the answer that it is an error which equals the refusal.
-- Proved: the answer is that refusal. Assumes nothing.
use Rattle.std.specs.Prelude.{◌≡◌, Result, Ok, Err, IsErrAnd}
use Rattle.std.proofs.Common.{ap}
use Rattle.definitions.specs.declared.Refusal.{Refusal}

pub handed-on : {A : Type 0} (r : Result A Refusal) (k : Refusal) → IsErrAnd r (λ e. e ≡ k) → r ≡ Err k
handed-on (Ok x) k h = absurd h
handed-on (Err e) k h = ap Err h
