-- What is known of a lent list, and what a core leaves in one.
--   Holds m count xs   the first count entries of xs are there and below m
--   Output             what a core with a working list leaves: its n numbers at the front of the output, and the working list cleared
-- Proved: the first entries of a list that holds them are below m at every place, zero past their end. Assumes nothing.
use Rattle.std.specs.Prelude.{◌≡◌, List, ◌++◌, ℕ, ◌≤◌, ◌<◌, length, get_or, take, drop}
use Rattle.std.proofs.Math.Logic.{by_cases}
use Rattle.std.proofs.Math.Decide.{dec_lt}
use Rattle.std.proofs.Common.{arith, get_or-take, length-take-le}
use Rattle.std.proofs.Math.ListN.{get_or-eq_default}
use Rattle.definitions.specs.Answers.{cleared}
use Rattle.numbers.specs.Products.{Below}

pub record Holds (m count : ℕ) (list : List ℕ) : Type 0 where
  pub long : count ≤ length list
  pub below : (i : ℕ) → i < count → get_or list i 0 < m

pub record Output (result : List ℕ) (n : ℕ) (output output' work work' : List ℕ) : Type 0 where
  pub written : output' ≡ result ++ drop n output
  pub wiped : work' ≡ cleared work

pub held_below : (m count : ℕ) (list : List ℕ) → 0 < m → Holds m count list → Below m (take count list)
held_below m count list pos h i = by_cases (dec_lt i count)
    (λ l. rw (get_or-take count list i 0 l) (h.below i l))
    (λ l. rw (get_or-eq_default (take count list) 0 {n = i} (rw (length-take-le count list h.long) (omega arith))) pos)
