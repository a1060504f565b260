-- What the contracts of the checks cite, and what their passes and comparisons say of the tests. Assumes nothing.
pub mod Passes
pub mod Settling
pub mod Shape
pub mod RowTests
pub mod Columns
pub mod NewRow
