-- Lemmas stand here and not in specs/, so that an edit of a definition is refused by a proof.
--   Joined      the joined value: there is one, there is no other, and which it is
--   Lists       the joined values of two lists
--   Expanding   the joined values of Expand are exact in their range
-- Assumes nothing.
pub mod Joined
pub mod Lists
pub mod Expanding
