-- Item 7 of the change requests as definitions: what a reader must believe of the curve store, but for the laws, which `order_laws` and
-- `store_laws` state in these words. It goes on from `definitions` and the lines of a text (`lines`, Lines), in this order:
--   Order      where each entry goes when even powers come first, and the way back
--   Parity     what the law of zeros speaks of: families without b, curves with only even or only odd entries, the two parts of a list
--   Calls      the tests of both calls in their order, and their promises
--   Printing   what the program `store` is to print for a line, and for an input
--   Examples   lists, the order of the tests, lines and inputs, computed
-- Assumes nothing.
pub mod Order
pub mod Parity
pub mod Calls
pub mod Printing
pub mod Examples
