-- What the contracts of this crate cite, and the laws behind its quotient.
--   Reciprocal   quotients by a reciprocal
--   Wrapping     sums that wrap at 2^64, and their remainder
-- Assumes nothing.
pub mod Reciprocal
pub mod Wrapping
