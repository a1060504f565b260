-- What the program `store` prints for a line.
--   Requests   what a line asks for, as the code finds it
--   Printed    what is printed, by the test that decides; what is kept of a line decides it
--   Form       the lines of the form, that a list comes back, how long an answer is
--   Answering  what is printed for the lines that end in a piece
-- Assumes nothing.
pub mod Requests
pub mod Printed
pub mod Form
pub mod Answering
