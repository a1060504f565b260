-- Lists that are lent whole, the sizes of a job, and what Inverse promises. Assumes nothing.
pub mod WholeLists
pub mod Sizes
pub mod Inverting
