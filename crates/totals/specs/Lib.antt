-- What the contracts of `totals` cite beside `definitions`.
--   Totals   what the two totals assume of their lists, and the laws of their loops
-- Assumes nothing.
pub mod Totals
