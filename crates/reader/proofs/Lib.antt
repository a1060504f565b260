-- Lemmas stand here and not in specs/, so that an edit of a definition is refused by a proof.
--   Keys      a key stands where the text begins with it
--   Loading   one step of loading the numbers of a line
-- Assumes nothing.
pub mod Keys
pub mod Loading
