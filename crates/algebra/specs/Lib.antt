-- Algebra that knows nothing of this project, in the order to read it.
-- Rings and their solver: Ring, then SolverExamples for how to use it. Numeral, Expression, Meaning, Reading and
-- Solver are how it works, in that order.
-- Sums and units: Sum, Diagonal (the pairs i + j = n), Unit, Product.
-- Power series: Series, Variable (constants and x), Order (series that vanish below x^k), Quotient.
-- Between rings: Map, and Residues for the ring of numbers modulo m.
-- A lemma takes its ring first; those of Map take the map, and those of Residues the modulus. Assumes nothing.
pub mod Ring
pub mod Numeral
pub mod Expression
pub mod Meaning
pub mod Reading
pub mod Solver
pub mod Sum
pub mod Diagonal
pub mod Unit
pub mod Product
pub mod Series
pub mod Variable
pub mod Order
pub mod Quotient
pub mod Map
pub mod Residues
pub mod SolverExamples
