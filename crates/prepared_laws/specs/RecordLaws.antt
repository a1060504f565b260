-- An operation on the record that is made by appending the rows of a family to the empty one, as the functions of this crate promise it: all
-- that is to be believed of `prepared_laws`, and nothing proved.
--   ByRecord f call v kept   on an accepted family the operation keeps the promise `call` of the call on the lists; on any other it refuses,
--                            and the lists are what they were
-- v is what the answer says, and kept that the lists are what they were. Item 3 of the change requests. Assumes nothing.
use Rattle.std.specs.Prelude.{◌≡◌, []}
use Rattle.definitions.specs.Family.{Family, Accepted}
use Rattle.definitions.specs.Refusals.{Verdict, finished}

pub record ByRecord (f : Family) (call : Type 0) (v : Verdict) (kept : Type 0) : Type 0 where
  pub law : Accepted f → call
  pub refusal : (Accepted f → ⊥) → (v ≡ finished [] → ⊥) × kept
