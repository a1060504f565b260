-- Lemmas stand here and not in specs/, so that an edit of a definition is refused by a proof.
--   Totals   the rows' totals, weighed, are the moments' total
-- Assumes nothing.
pub mod Totals
