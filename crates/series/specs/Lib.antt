-- What the contracts of this crate cite, and the laws of its loop.
--   Division   the quotient of two reversed polynomials
-- Assumes nothing.
pub mod Division
