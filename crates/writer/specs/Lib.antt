-- What the writer puts into an output.
--   Putting   bytes put over a part of a list, and parts one after the other
--   Entries   numbers and lists of numbers
--   Lines     lines, and a line before what follows it
--   Answer    the answer text
--   Refusal   the refusal text
-- Assumes nothing.
pub mod Putting
pub mod Entries
pub mod Lines
pub mod Answer
pub mod Refusal
