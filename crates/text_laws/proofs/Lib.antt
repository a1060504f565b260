-- Lemmas stand here and not in specs/, so that an edit of a definition is refused by a proof.
--   Answered   from the promises of the two calls to the law over them
-- Assumes nothing.
pub mod Answered
