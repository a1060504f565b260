-- The lines of a text, and how they are taken.
--   Lines         what they are
--   Determining   what determines them
--   Pieces        how they are had from the pieces of the text
--   Taking        how one is taken from a piece
--   Walking       how all are, one after the other
-- Assumes nothing.
pub mod Lines
pub mod Determining
pub mod Pieces
pub mod Taking
pub mod Walking
