-- The laws over the calls that put a list in another order. Why they hold stands in Holding of proofs/. Assumes nothing.
pub mod Laws
