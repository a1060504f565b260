-- What a step of a plain way may assume of its numbers, and what it leaves.
--   RowInput   a row's numbers are residues, and so are those of the two lists that it moves on, which have room for count entries
--   Stepped    current's first count entries have become those of next, and older's what current's were
-- Proved: a constant of a curve's entry is a residue. Assumes nothing.
use Rattle.std.specs.Prelude.{◌≡◌, List, ℕ, zero, suc, ◌≤◌, ◌<◌, length, get_or}
use Rattle.std.proofs.Common.{arith}
use Rattle.definitions.specs.Family.{greatest_modulus}
use Rattle.numbers.specs.Lists.{filled}
use Rattle.numbers.specs.Products.{Below}
use Rattle.plain_model.specs.PlainModels.{constant}

pub record RowInput (m x a b c : ℕ) (current older : List ℕ) (count : ℕ) : Type 0 where
  pub most : m ≤ greatest_modulus
  pub x_below : x < m
  pub a_below : a < m
  pub b_below : b < m
  pub c_below : c < m
  pub current_below : Below m current
  pub older_below : Below m older
  pub current_long : count ≤ length current
  pub older_long : count ≤ length older

pub record Stepped (next : ℕ → ℕ) (count : ℕ) (current current' older older' : List ℕ) : Type 0 where
  pub current_is : current' ≡ filled next count current
  pub older_is : older' ≡ filled (λ i. get_or current i 0) count older

pub constant-below : (m x i : ℕ) → x < m → constant x i < m
unfolding constant
constant-below m x zero h = h
constant-below m x (suc i) h = omega arith
