-- Lemmas stand here and not in specs/, so that an edit of a definition is refused by a proof.
--   Division   what one coefficient of a quotient is taken of, and what it is
-- Assumes nothing.
pub mod Division
