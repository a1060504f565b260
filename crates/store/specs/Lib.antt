-- What is known of the program's lists. Assumes nothing.
pub mod Keeping
