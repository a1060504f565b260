-- What the contracts of this crate cite, and the laws of its loops.
--   Totals         sums that wrap, in progress
--   Coefficients   the sum of a coefficient of two products
--   Steps          the steps of a sum of transposed products
--   Terms          the sum of a term of two transposed products
-- Assumes nothing.
pub mod Totals
pub mod Coefficients
pub mod Steps
pub mod Terms
