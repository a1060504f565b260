-- What the contracts of the plain ways cite, and the laws of their loops. Assumes nothing.
pub mod Input
pub mod Fitting
pub mod Matching
pub mod Expanding
pub mod Adjoining
pub mod Decomposing
pub mod Norming
