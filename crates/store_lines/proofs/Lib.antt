-- Lemmas of bytes copied one by one.
--   Copied   what a copy leaves that has put them all
-- Assumes nothing.
pub mod Copied
