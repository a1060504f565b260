-- Lemmas stand here and not in specs/, so that an edit of a definition is refused by a proof.
--   Determining   the lines one after the other are the text
--   Pieces        of the pieces joined the same is kept as of the text
-- Assumes nothing.
pub mod Determining
pub mod Pieces
