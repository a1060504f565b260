-- The tree way as a model on lists. The report, Figures 1 to 3:
--   the model, how many rows a tree covers, its clauses, and worked examples: Level, Tree, TreeClauses, TreeExamples
--   lengths and bounds of its lists: TreeLengths, TreeBelow
--   that it is Expand, by lists as power series: ListSeries, and in proofs/ TreeNodes, TreeExpand
--   that it is Adjoint, by transposed products as values of a linear form: Pairing, ListPairing, and in proofs/ TreeAdjoint
--   F_n and G_{n-1} by it: Extended
-- The theorems on Level, TreeBelow and Extended stand under the same names in proofs/. Assumes nothing.
pub mod Level
pub mod Tree
pub mod TreeClauses
pub mod TreeLengths
pub mod TreeBelow
pub mod ListSeries
pub mod Pairing
pub mod ListPairing
pub mod Extended
pub mod TreeExamples
