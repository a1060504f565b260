-- A right record as the cores ask for it: n is one more than its rows.
-- Proved: its first n - 1 rows, closed by 1 1 1, are its own rows, and so what a conversion makes of them and a curve; the curve holds n
-- residues; the stored inverses are those that a core asks of the a, and of the c from row 2 on; its first n norms are those of its own
-- rows. Assumes nothing.
use Rattle.std.specs.Prelude.{◌≡◌, List, ℕ, ◌+◌, ◌*◌, ◌-◌, ◌%◌, take}
use Rattle.std.proofs.Common.{◌∙◌, ap₂, mod-eq_of_lt, arith, take_all}
use Rattle.std.proofs.Math.Path.{ap}
use Rattle.std.proofs.Math.ListN.{get_or}
use Rattle.definitions.specs.Family.{Family, Curve, ones, size}
use Rattle.definitions.specs.Number.{table}
use Rattle.definitions.specs.Orthogonality.{norm, norms, moment_count}
use Rattle.definitions.specs.Prepared.{Prepared, Right, most_norms, own_rows}
use Rattle.numbers.specs.Lists.{table-length, table-entry, table-equal}
use Rattle.inverses.specs.InverseArray.{a-inverts, c-inverts}
use Rattle.lists.specs.Held.{Holds}
use Rattle.lists.specs.Inverses.{Inverts}
use Rattle.lists.specs.Lent.{lent}
use Rattle.prepared_model.specs.Padding.{padded-inside}
use Rattle.prepared_model.specs.Rightness.{right-rows, right-long, right-norms, right-a-inverses, right-c-inverses}

module _ {p : Prepared} (right : Right p) where
  abbrev f : Family
  f = own_rows p

  abbrev n : ℕ
  n = p.rows + 1

  -- the code counts from the record's row count
  pub right-size : n ≡ size f
  right-size = omega (arith, right-rows right)

  pub right-moments : 2 * p.rows + 1 ≡ moment_count f
  right-moments = omega (arith, right-rows right)

  pub right-lent : lent p.modulus (n - 1) p.a p.b p.c ones ≡ f
  right-lent = let e : n - 1 ≡ p.rows = omega arith in ap (λ r. lent p.modulus r p.a p.b p.c ones) e

  module _ {u : List ℕ} (curve : Curve f u) where
    pub right-curve : Holds p.modulus n u
    right-curve = record {
      long = omega (arith, right-size, curve.long);
      below = λ i h. curve.below i (omega (arith, right-size));
    }

    pub right-converts : (convert : Family → List ℕ → List ℕ)
        → convert (lent p.modulus (n - 1) p.a p.b p.c ones) (take n u) ≡ convert f u
    right-converts convert = ap₂ convert right-lent (take_all n u (omega (arith, right-size, curve.long)))

  one-closes : 1 * 1 % p.modulus ≡ 1
  one-closes = mod-eq_of_lt (omega (arith, right.accepted.modulus.least))

  pub right-inverts-a : Inverts p.modulus 0 (n - 1) p.a p.a_inverses 1 1
  right-inverts-a = a-inverts (right-long right) right.accepted (right-a-inverses right) 1 one-closes

  pub right-inverts-c : Inverts p.modulus 1 (n - 1) p.c p.c_inverses 1 1
  right-inverts-c = c-inverts (right-long right) right.accepted (right-c-inverses right) 1 (λ _. one-closes)

  pub right-stored-norms : table n (λ i. get_or p.norms i 0) ≡ norms f
  unfolding norms
  right-stored-norms =
      table-equal n (λ i. get_or p.norms i 0) (norm f)
      (λ i h.
      ap (λ xs. get_or xs i 0) (right-norms right)
      ∙ padded-inside most_norms (norms f) i (omega (arith, right-size, table-length (size f) (norm f)))
      ∙ table-entry (size f) (norm f) i 0 (omega (arith, right-size)))
      ∙ ap (λ k. table k (norm f)) right-size
