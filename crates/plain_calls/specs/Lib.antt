-- How the verdict of a plain call settles its answer, and how its core meets the definition. Assumes nothing.
pub mod PlainCall
pub mod PlainCore
