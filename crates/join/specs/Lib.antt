-- What the leaves of the calls on two channels ask, and how their code comes to what they ensure. Assumes nothing.
pub mod Joining
pub mod Reducing
