-- How Expand and join comes to what it ensures.
--   Input   what its functions ask
--   Rows    the tests of its rows, column by column
--   Stages  its tests made one after another
--   Channel one channel, and both joined
-- Assumes nothing.
pub mod Input
pub mod Rows
pub mod Stages
pub mod Channel
