-- What the contracts of the row steps cite, and the laws of their loops. Assumes nothing.
pub mod Row
pub mod ExpandRow
pub mod AdjointRow
pub mod DecomposeRow
