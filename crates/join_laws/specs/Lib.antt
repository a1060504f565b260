-- The laws over the calls on two channels, and why they hold. Assumes nothing.
pub mod Laws
pub mod Holding
