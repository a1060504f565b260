-- What the contracts of this crate cite, and the laws of its loops.
--   Places   parts of a working list, read and written
-- Assumes nothing.
pub mod Places
