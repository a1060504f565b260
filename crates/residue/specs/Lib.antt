-- What the contracts of `residue` cite beside `definitions`.
--   Inversion        what invert answers, on every input
--   UnsignedEuclid   the algorithm by which it does
--   Summands         what combine may assume
-- Assumes nothing.
pub mod Inversion
pub mod UnsignedEuclid
pub mod Summands
