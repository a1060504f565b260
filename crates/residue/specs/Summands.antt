-- A sum of three products of residues and one residue more.
--   Summands m s a p b q c r   the numbers of s + a p + b q + c r are residues modulo a modulus of at most 31 bits
-- Proved: a product of two residues is at most the square of the greatest, so that three of them and a residue fit 64 bits.
-- Assumes nothing.
use Rattle.std.specs.Prelude.{ℕ, ◌*◌, ◌≤◌, ◌<◌}
use Rattle.std.proofs.Common.{mul-le-mul, arith}
use Rattle.definitions.specs.Family.{greatest_modulus}

pub record Summands (m s a p b q c r : ℕ) : Type 0 where
  pub most : m ≤ greatest_modulus
  pub s_below : s < m
  pub a_below : a < m
  pub p_below : p < m
  pub b_below : b < m
  pub q_below : q < m
  pub c_below : c < m
  pub r_below : r < m

-- the square of the greatest residue
abbrev greatest_product : ℕ
greatest_product = 4611686009837453316

product_small : (m a b : ℕ) → m ≤ greatest_modulus → a < m → b < m → a * b ≤ greatest_product
product_small m a b h p q = mul-le-mul {n₂ = 2147483646} {m₂ = 2147483646} (omega arith) (omega arith)

pub record SmallProducts (a p b q c r : ℕ) : Type 0 where
  pub ap : a * p ≤ greatest_product
  pub bq : b * q ≤ greatest_product
  pub cr : c * r ≤ greatest_product

pub products-small : (m s a p b q c r : ℕ) → Summands m s a p b q c r → SmallProducts a p b q c r
products-small m s a p b q c r h = record {
  ap = product_small m a p h.most h.a_below h.p_below;
  bq = product_small m b q h.most h.b_below h.q_below;
  cr = product_small m c r h.most h.c_below h.r_below;
}
