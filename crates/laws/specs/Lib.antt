-- The laws over the calls, as propositions about the lists that the calls hand out. Assumes nothing.
pub mod Names
pub mod Laws
pub mod ByWay
pub mod RoundTrips
pub mod Ways
pub mod HandedOut
pub mod FirstC
