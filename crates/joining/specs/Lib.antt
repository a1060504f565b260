-- Item 6 of the change requests as definitions: what a reader must believe of the calls on two channels, and all of it. It goes on from
-- `definitions`, in this order:
--   Whole      remainders of whole numbers with a sign, the range, the joined value
--   Expanding  Expand over the whole numbers, and a family and a curve reduced modulo m
--   Calls      the tests of both calls in their order, and their promises
--   Examples   joined values at the ends of their ranges, published polynomials, and many faults at once and then one after another
--              mended, computed
-- Assumes nothing.
pub mod Whole
pub mod Expanding
pub mod Calls
pub mod Examples
