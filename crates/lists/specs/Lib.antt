-- What the list functions cite, what is known of a lent list, the family that lent lists stand for, and the inverses that are lent beside
-- its rows. Assumes nothing.
pub mod Entries
pub mod Held
pub mod Lent
pub mod Inverses
pub mod Whole
pub mod Lending
