-- Lists of numbers and numbers modulo m, before any family:
--   lists by their entries, tables, sums: Lists, Sums
--   parts of a list, and what is written into one: Regions
--   inverses, running products, residues as a ring, the greatest common factor: Inverse, RunningProduct, Residue, Euclid, Factor
--   products of polynomials and transposed products, on lists: Products
-- Assumes nothing.
pub mod Lists
pub mod Sums
pub mod Regions
pub mod Inverse
pub mod RunningProduct
pub mod Residue
pub mod Euclid
pub mod Factor
pub mod Products
