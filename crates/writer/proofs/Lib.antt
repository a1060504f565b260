-- Lemmas of bytes copied one by one.
--   Copying   a copy in progress
-- Assumes nothing.
pub mod Copying
