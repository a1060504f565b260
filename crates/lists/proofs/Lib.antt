pub mod Copies
pub mod Fills
