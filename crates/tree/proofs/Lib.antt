-- Lemmas stand here and not in specs/, so that an edit of a definition is refused by a proof.
--   Taken  what the steps take of a family and a curve
--   Core   each step is handed what it requires, and the answer is the tree model's
-- Assumes nothing.
pub mod Taken
pub mod Core
