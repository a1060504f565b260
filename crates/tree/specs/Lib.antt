-- What the contracts of this crate cite, and the mathematics of its loops and steps. Assumes nothing.
pub mod Root
pub mod RootPair
pub mod Input
pub mod Core
