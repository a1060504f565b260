-- What the contracts of this crate cite, and the mathematics of its recursions. Assumes nothing.
pub mod Layout
pub mod Leaf
pub mod Join
pub mod Build
pub mod Climb
pub mod AdjointPair
pub mod Descend
