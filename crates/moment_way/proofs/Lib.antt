-- Lemmas stand here and not in specs/, so that an edit of a definition is refused by a proof.
--   DecomposeByMoments   what each step of Decompose is handed, and that the last leaves Decompose
--   Taken                what the steps take of a family, its closing row and the inverses
--   Steps                the product of the coefficients with the moments, as the code lends the parts of its list
-- Assumes nothing.
pub mod DecomposeByMoments
pub mod Taken
pub mod Steps
