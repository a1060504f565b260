-- Lemmas stand here and not in specs/, so that an edit of a definition is refused by a proof.
--   Totals         how a sum that wraps begins, goes on and ends
--   Coefficients   the same of the sum of a coefficient
--   Steps          the same of the steps of a transposed sum
-- Assumes nothing.
pub mod Totals
pub mod Coefficients
pub mod Steps
