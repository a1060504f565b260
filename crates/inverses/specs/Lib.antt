-- Inverses of a list: one by one, one inverse shared among all entries, and from a place on; one product of two lists. Assumes nothing.
pub mod OneByOne
pub mod Sharing
pub mod Range
pub mod Joint
pub mod InverseArray
