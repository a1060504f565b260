pub mod Taken
-- Lemmas stand here and not in specs/, so that an edit of a definition is refused by a proof.
--   Decomposing   what a step of Decompose is lent, how it goes on, and how the loop ends
-- Assumes nothing.
pub mod Decomposing
