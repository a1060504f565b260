-- What is true of the definitions of `joining`:
--   Integers   the whole numbers read by omega, their ring
--   Reduction  remainders, and the map of rings from the whole numbers to the residues
--   Joined     the joined value as plain facts, and the numbers that it is made of
--   Lists      the joined values of two lists, place by place
--   Mapped     a map of rings takes the terms of a recurrence to those of the mapped rows
--   Expanding  Expand over the whole numbers reduced modulo m is Expand modulo m
--   Accepting  on which input the calls finish
-- In proofs/, under the same names: there is one joined value and no other, what joined lists leave, and that Expand joined is exact.
-- Assumes nothing.
pub mod Integers
pub mod Reduction
pub mod Joined
pub mod Lists
pub mod Mapped
pub mod Expanding
pub mod Accepting
