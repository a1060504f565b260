-- Lemmas of stores one after another, and of lists that are lent whole.
--   Stores   two, three and four numbers stored side by side are the list of them, written at the first place
--   Lent     the tree of a family is that of its first rows, as many as it has
-- Assumes nothing.
pub mod Stores
pub mod Lent
