-- The tests of the calls:
--   Verdicts     each test as a plain fact, and verdicts settled test by test
--   Stages       how a call makes its tests stage by stage
--   Promises     what a call promises, from the answer of its tests
--   Given        which numbers its tests can give
--   Acceptance   what a call that finishes has been lent
--   Range        from which row on 18 and 11 look at the c, where every c has an inverse
--   NewRow       the tests of a new row by their numbers
--   Jobs         what a job says that is written, or carried out
-- Assumes nothing.
pub mod Verdicts
pub mod Stages
pub mod Promises
pub mod Given
pub mod Acceptance
pub mod Range
pub mod NewRow
pub mod Jobs
