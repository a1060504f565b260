-- What the calls that put a list in another order do.
--   Accepting   on which input they finish
--   Arranging   how they meet their promise
-- Assumes nothing.
pub mod Accepting
pub mod Arranging
