-- Lemmas stand here and not in specs/, so that an edit of a definition is refused by a proof.
--   FirstC   c_1 shows in no list
-- Assumes nothing.
pub mod FirstC
