-- What is true of the definitions, for every modulus from 2 on and every convertible family:
--   the recurrence over any ring: Recurrence, Operator, Combination
--   the definitions read in the ring of residues: Curves, Bridge
--   where a conversion looks: not at the closing row and not at c_1; the family of no rows: SameRows, Closing, FirstC, Alone
--   round trips, linearity, the transposed identity: RoundTrip, Linear, TransposedIdentity
--   moments, norms and the product law (demand 3): Reversal, Determinant, Favard, BilinearForm, Orthogonal, Quotient, Moments,
--   ProductLaw, ByMoments, NormInverse
-- That c_1 shows in no list stands in FirstC of proofs/. docs/THEOREMS.md leads from the demands to the statements. Assumes nothing.
pub mod Recurrence
pub mod Operator
pub mod Combination
pub mod Curves
pub mod Bridge
pub mod SameRows
pub mod Closing
pub mod FirstC
pub mod Alone
pub mod RoundTrip
pub mod Linear
pub mod TransposedIdentity
pub mod Reversal
pub mod Determinant
pub mod Favard
pub mod BilinearForm
pub mod Orthogonal
pub mod Quotient
pub mod Moments
pub mod ProductLaw
pub mod ByMoments
pub mod NormInverse
