-- What is printed for a text that comes in pieces. Assumes nothing.
pub mod Printing
