-- The plain ways as models on lists:
--   the models, and what an entry of a step rests on: PlainModels, PlainSteps
--   lists as sequences of residues: Entries
--   that they are Expand, Adjoint and Decompose: PlainExpand, PlainAdjoint, and PlainDecompose by Horner's rule (Horner)
--   a step of Decompose by three lists of the family: PlainBasis
-- Assumes nothing.
pub mod PlainModels
pub mod PlainSteps
pub mod Entries
pub mod PlainExpand
pub mod PlainAdjoint
pub mod Horner
pub mod PlainDecompose
pub mod PlainBasis
