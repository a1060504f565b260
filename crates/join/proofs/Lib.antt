-- Lemmas stand here and not in specs/, so that an edit of a definition is refused by a proof.
--   Joining   what each step of joining comes to, and that it fits
-- Assumes nothing.
pub mod Joining
