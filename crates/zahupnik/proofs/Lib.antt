-- Lemmas stand here and not in specs/, so that an edit of a definition is refused by a proof.
--   Returning   from the answer of a public call to what its exported function returns and leaves
-- Assumes nothing.
pub mod Returning
