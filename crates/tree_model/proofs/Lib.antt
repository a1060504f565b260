-- Lemmas stand here and not in specs/, so that an edit of a definition is refused by a proof.
--   Level         the least level that covers n
--   TreeBelow     entries of the tree's lists are below m
--   TreeNodes     what the matrices of the tree are
--   TreeExpand    the tree's Expand is Expand
--   TreeAdjoint   the tree's Adjoint is Adjoint
--   Extended      F_n and G_{n-1} read off from Expand
-- Assumes nothing.
pub mod Level
pub mod TreeBelow
pub mod TreeNodes
pub mod TreeExpand
pub mod TreeAdjoint
pub mod Extended
