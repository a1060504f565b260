-- Lemmas stand here and not in specs/, so that an edit of a definition is refused by a proof.
--   RoundTrips   two calls, each with its own promise, come to ThereAndBack
--   Totalled     the totals of the product law, of the lists that the calls handed out
-- Assumes nothing.
pub mod RoundTrips
pub mod Totalled
