-- The prepared family's record as a list of lists, and what is true of it:
--   lists with zeros behind: Padding
--   14 as a plain fact, and what a right record holds: Rightness
--   a right record as the cores ask for it: Lending
--   rows that are accepted one by one: Rows
--   the parts that are tested one by one, and that they make a record right: Parts
--   norms that are tried by products: NormProducts
--   what the operations on a record and its changes finish on: Accepting
--   the record of rows in arrays: Preparing;  the rows after a change: Changing
--   what the changes do to one another: ChangeLaws;  that the operations answer as with the lists: AsLists
-- Assumes nothing.
pub mod Padding
pub mod Rightness
pub mod Lending
pub mod Rows
pub mod Parts
pub mod NormProducts
pub mod Accepting
pub mod Preparing
pub mod Changing
pub mod ChangeLaws
pub mod AsLists
