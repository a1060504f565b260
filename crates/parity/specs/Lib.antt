-- What holds of even powers first (`storing`, Order).
--   Places   the places are each met once, and which index goes to a place
--   Orders   each order by its entries; either after the other returns the list
--   Zeros    where every b is zero, the zeros of F_j and of an expanded curve, and where they go
-- Assumes nothing.
pub mod Places
pub mod Orders
pub mod Zeros
