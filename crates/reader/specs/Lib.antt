-- How the reader's answers, which give places, say the same as the readers of definitions, which give what is left.
--   Places     an answer by places for each reader's answer; numbers that were found
--   Digits     one step of reading a number
--   Storing    numbers that were read and put at the front of a lent list
--   Loading    one step of loading the numbers of a line (in proofs/)
--   Keys       one step of comparing a key; a line by its key and its content
--   Lines      a line of numbers, of one number, of an operation
-- Assumes nothing.
pub mod Places
pub mod Digits
pub mod Storing
pub mod Keys
pub mod Lines
