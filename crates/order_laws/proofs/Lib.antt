-- Lemmas stand here and not in specs/, so that an edit of a definition is refused by a proof.
--   Holding   from the promises of the calls to the laws over them
-- Assumes nothing.
pub mod Holding
