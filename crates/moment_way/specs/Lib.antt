-- What the contracts of this crate cite, and the laws of its functions. Assumes nothing.
pub mod Input
pub mod Polynomials
pub mod Moments
pub mod Hankel
pub mod Decompose
