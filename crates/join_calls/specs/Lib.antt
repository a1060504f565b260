-- What the tests of two moduli answer, and how Join comes to what it ensures. Assumes nothing.
pub mod Pairs
pub mod Handing
