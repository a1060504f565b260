-- What is printed for a text.
--   Limits      what the lengths of the lists settle: the numbers that can be given, how long the text is, how much is looked at
--   Printouts   the promise, and how it follows from those of the text call and the writer
-- Assumes nothing.
pub mod Limits
pub mod Printouts
