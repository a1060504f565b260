-- The record in the definitions' words, and how the tests of a change settle what it hands out. Assumes nothing.
pub mod Held
pub mod ChangeCalls
