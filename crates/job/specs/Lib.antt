-- The text call's answer, from the reading to the answer text, and the job text that is written.
--   Replies   the answer text of lists whose sizes are in order
--   Texts     the text call at each place where it answers
--   Writing   the call that writes a job at each place where it answers
-- Assumes nothing.
pub mod Replies
pub mod Texts
pub mod Writing
