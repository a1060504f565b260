-- What is known of what was read. Assumes nothing.
pub mod Input
