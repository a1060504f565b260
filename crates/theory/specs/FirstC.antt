-- Families that differ in c_1 alone.
--   begun m a b c close x   the family whose c_1 is x, and whose c from row 2 on are those of the list c
-- That c_1 shows in no list stands in FirstC of proofs/. Item 2 of the change requests. Assumes nothing.
use Rattle.std.specs.Prelude.{List, ◌∷◌}
use Prim.Native.Nat.{ℕ}
use Rattle.definitions.specs.Family.{Family, Row}

module _ (m : ℕ) (a b c : List ℕ) (close : Row) where
  abbrev pub begun : ℕ → Family
  begun x = record { m = m; a = a; b = b; c = x ∷ c; close = close }
