-- What the exported functions promise. How the public calls' promises come to it stands in Returning of proofs/. Assumes nothing.
pub mod Returned
pub mod Choices
pub mod Positive
