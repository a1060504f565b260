-- How the verdict of a tree call settles its answer, and how its core meets the definition. Assumes nothing.
pub mod TreeCore
pub mod MomentCore
