-- The laws of job texts that are written.
--   Laws      the statements, and what the function of this crate promises
--   Carried   what is written is read back and carried out, and what is carried out is written so
--   Longest   the longest text that is written
--   Answered  from the promises of the two calls to the law (in proofs/)
-- Assumes nothing.
pub mod Laws
pub mod Carried
pub mod Longest
