-- The parts of a record that test 14 looks at one by one.
--   Residues m count list            the first count entries are below m, and the others zero
--   fields                           a record by its fields
--   Inverted m first count xs ys     from place first up to count, each entry of xs times that of ys leaves 1
--   RowsKept                         the five lists of the rows are residues and then zeros, and the first place for the c is zero
--   Parts p                          all that makes a record right: its range, its lists one by one, their products, its norms
-- Proved: a record whose lists are as long as the arrays is right if and only if all its parts are. Assumes nothing.
use Rattle.std.specs.Prelude.{◌≡◌, List, length, get_or}
use Rattle.std.proofs.Math.Path.{refl, sym}
use Rattle.std.proofs.Common.{◌∙◌, ap, arith, le-ltb}
use Rattle.std.proofs.Math.Logic.{by_cases}
use Prim.Native.Nat.{ℕ, zero, suc, ◌*◌, ◌%◌, ◌<◌, ◌≤◌}
use Rattle.std.proofs.Math.Decide.{dec_lt}
use Rattle.definitions.specs.Number.{HasInverse, table}
use Rattle.definitions.specs.Family.{Family, Modulus, Accepted, most_rows, first_c, ones, rows, row_at}
use Rattle.definitions.specs.Orthogonality.{norms}
use Rattle.definitions.specs.Prepared.{Prepared, Right, most_norms, padded, stored_a, stored_c, prepared, own_rows}
use Rattle.numbers.specs.Inverse.{inverse-unique}
use Rattle.numbers.specs.Lists.{table-length, table-entry}
use Rattle.lists.specs.Lent.{Long, LentRows, accepted-rows, lent_rows, lent-inside}
use Rattle.prepared_model.specs.Rows.{NewRow, listed, rows-accepted}
use Rattle.prepared_model.specs.Lending.{right-inverts-a, right-inverts-c}
use Rattle.prepared_model.specs.Padding.{padded-past, padded-unique, own-padded}
use Rattle.prepared_model.specs.Rightness.{Sized, right-rows, right-few, right-long, right-norms, right-a-inverses, right-c-inverses}
use Rattle.prepared_model.specs.Rightness.{c-stored}

pub record Residues (m count : ℕ) (list : List ℕ) : Type 0 where
  pub below : (i : ℕ) → i < count → get_or list i 0 < m
  pub zeros : (i : ℕ) → count ≤ i → get_or list i 0 ≡ 0

-- a record by its fields
abbrev pub fields : ℕ → ℕ → List ℕ → List ℕ → List ℕ → List ℕ → List ℕ → List ℕ → Prepared
fields m r a b c a_inverses c_inverses d =
    record { modulus = m; rows = r; a = a; b = b; c = c; a_inverses = a_inverses; c_inverses = c_inverses; norms = d }

abbrev pub Inverted : ℕ → ℕ → ℕ → List ℕ → List ℕ → Type 0
Inverted m first count xs ys = (i : ℕ) → first ≤ i → i < count → get_or xs i 0 * get_or ys i 0 % m ≡ 1

pub record RowsKept (m r : ℕ) (a b c a_inverses c_inverses : List ℕ) : Type 0 where
  pub a_kept : Residues m r a
  pub b_kept : Residues m r b
  pub c_kept : Residues m r c
  pub a_inverses_kept : Residues m r a_inverses
  pub c_inverses_kept : Residues m r c_inverses
  pub first_zero : get_or c_inverses 0 0 ≡ 0

pub record Parts (p : Prepared) : Type 0 where
  pub modulus : Modulus p.modulus
  pub few : p.rows ≤ most_rows
  pub kept : RowsKept p.modulus p.rows p.a p.b p.c p.a_inverses p.c_inverses
  pub a_inverted : Inverted p.modulus 0 p.rows p.a p.a_inverses
  pub c_inverted : Inverted p.modulus first_c p.rows p.c p.c_inverses
  pub norms_true : p.norms ≡ padded most_norms (norms (own_rows p))

-- ---- a right record has them
module _ {p : Prepared} (right : Right p) where
  abbrev f : Family
  f = own_rows p

  behind : (xs list : List ℕ) → length xs ≡ rows f → list ≡ padded most_rows xs → (i : ℕ) → p.rows ≤ i → get_or list i 0 ≡ 0
  behind xs list long e i h = ap (λ ys. get_or ys i 0) e ∙ padded-past most_rows xs i (omega (arith, right-rows right))

  kept-rows : LentRows p.modulus p.rows p.a p.b p.c
  kept-rows = accepted-rows _ _ p.a p.b p.c ones (right-long right) right.accepted

  first-zero : get_or p.c_inverses 0 0 ≡ 0
  unfolding prepared stored_c
  first-zero = by_cases (dec_lt 0 p.rows)
      (λ h. c-stored right 0 h)
      (λ h. behind _ p.c_inverses (table-length (rows f) (stored_c f)) (ap (λ q. q.c_inverses) right.own) 0 (omega arith))

  pub right-parts : Parts p
  unfolding prepared
  right-parts = record {
    modulus = right.accepted.modulus;
    few = right-few right;
    kept = record {
      a_kept = record { below = kept-rows.a_holds.below; zeros = behind f.a p.a refl (ap (λ q. q.a) right.own) };
      b_kept = record {
        below = kept-rows.b_holds.below;
        zeros = behind f.b p.b right.accepted.b_length (ap (λ q. q.b) right.own);
      };
      c_kept = record {
        below = kept-rows.c_holds.below;
        zeros = behind f.c p.c right.accepted.c_length (ap (λ q. q.c) right.own);
      };
      a_inverses_kept = record {
        below = (right-a-inverses right).holds.below;
        zeros = behind _ p.a_inverses (table-length (rows f) (stored_a f)) (ap (λ q. q.a_inverses) right.own);
      };
      c_inverses_kept = record {
        below = (right-c-inverses right).holds.below;
        zeros = behind _ p.c_inverses (table-length (rows f) (stored_c f)) (ap (λ q. q.c_inverses) right.own);
      };
      first_zero = first-zero;
    };
    a_inverted = λ i l h. (right-inverts-a right).inverts i l (omega arith);
    c_inverted = λ i l h. (right-inverts-c right).inverts i l (omega arith);
    norms_true = right-norms right;
  }

sized-long : {p : Prepared} → Sized p → p.rows ≤ most_rows → Long p.rows p.a p.b p.c
sized-long sized few = record {
  a_long = omega (arith, sized.a_length);
  b_long = omega (arith, sized.b_length);
  c_long = omega (arith, sized.c_length);
}

-- ---- rows that are kept, and whose products are 1, are accepted
module _ {p : Prepared} (sized : Sized p) (modulus : Modulus p.modulus) (few : p.rows ≤ most_rows)
    (kept : RowsKept p.modulus p.rows p.a p.b p.c p.a_inverses p.c_inverses)
    (a_inverted : Inverted p.modulus 0 p.rows p.a p.a_inverses)
    (c_inverted : Inverted p.modulus first_c p.rows p.c p.c_inverses) where
  each : (i : ℕ) → i < p.rows → NewRow p.modulus i (listed p.a p.b p.c i)
  unfolding HasInverse
  each i h = record {
    below = record { a_below = kept.a_kept.below i h; b_below = kept.b_kept.below i h; c_below = kept.c_kept.below i h };
    a_inverse = (get_or p.a_inverses i 0, a_inverted i (omega arith) h);
    c_inverse = λ l. (get_or p.c_inverses i 0, c_inverted i l h);
  }

  pub kept-accepted : Accepted (own_rows p)
  kept-accepted = rows-accepted modulus few (sized-long sized few) each

-- ---- and a record that has them is right
module _ {p : Prepared} (sized : Sized p) (parts : Parts p) where
  abbrev m : ℕ
  m = p.modulus

  abbrev r : ℕ
  r = p.rows

  abbrev g : Family
  g = own_rows p

  least : 1 < m
  least = omega (arith, parts.modulus.least)

  long : Long r p.a p.b p.c
  long = sized-long sized parts.few

  rows_are : rows g ≡ r
  rows_are = lent_rows m r p.a p.b p.c ones long

  inside : (i : ℕ) → i < r → row_at g i ≡ listed p.a p.b p.c i
  inside = lent-inside m r p.a p.b p.c ones long

  a-true : (i : ℕ) → i < r → get_or p.a_inverses i 0 ≡ stored_a g i
  unfolding stored_a
  a-true i h = rw (inside i h)
      (inverse-unique m (get_or p.a i 0) (get_or p.a_inverses i 0) least (parts.kept.a_inverses_kept.below i h) (parts.a_inverted i (omega arith) h))

  c-true : (i : ℕ) → i < r → get_or p.c_inverses i 0 ≡ stored_c g i
  unfolding stored_c
  c-true zero h = parts.kept.first_zero
  c-true (suc i) h = rw (le-ltb (suc i) first_c (omega arith), stored_c, inside (suc i) h)
      (inverse-unique m (get_or p.c (suc i) 0) (get_or p.c_inverses (suc i) 0) least (parts.kept.c_inverses_kept.below (suc i) h)
      (parts.c_inverted (suc i) (omega arith) h))

  list-true : (stored : ℕ → ℕ) (list : List ℕ) → length list ≡ most_rows → ((i : ℕ) → i < r → get_or list i 0 ≡ stored i)
      → ((i : ℕ) → r ≤ i → get_or list i 0 ≡ 0) → list ≡ padded most_rows (table (rows g) stored)
  list-true stored list size is zeros =
      let count : length (table (rows g) stored) ≡ r = table-length (rows g) stored ∙ rows_are in
      padded-unique most_rows (table (rows g) stored) list size (omega (arith, parts.few))
      (λ i h. is i (omega arith) ∙ sym (table-entry (rows g) stored i 0 (omega (arith, rows_are)))) (λ i h. zeros i (omega arith))

  pub parts-right : Right p
  unfolding prepared
  parts-right =
      let a = own-padded most_rows r p.a sized.a_length parts.few parts.kept.a_kept.zeros in
      let b = own-padded most_rows r p.b sized.b_length parts.few parts.kept.b_kept.zeros in
      let c = own-padded most_rows r p.c sized.c_length parts.few parts.kept.c_kept.zeros in
      let a_inverses = list-true (stored_a g) p.a_inverses sized.a_inverses_length a-true parts.kept.a_inverses_kept.zeros in
      let c_inverses = list-true (stored_c g) p.c_inverses sized.c_inverses_length c-true parts.kept.c_inverses_kept.zeros in
      let rs = sym rows_are in
      record {
        accepted = kept-accepted sized parts.modulus parts.few parts.kept parts.a_inverted parts.c_inverted;
        own = λ i.
            record {
              modulus = p.modulus;
              rows = rs i;
              a = a i;
              b = b i;
              c = c i;
              a_inverses = a_inverses i;
              c_inverses = c_inverses i;
              norms = parts.norms_true i;
            };
      }
