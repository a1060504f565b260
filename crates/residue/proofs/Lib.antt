-- Lemmas of this crate. Assumes nothing.
pub mod Running
