-- Lemmas stand here and not in specs/, so that an edit of a definition is refused by a proof.
--   Settled   from the record made by appends to the promise of the call on the lists
-- Assumes nothing.
pub mod Settled
