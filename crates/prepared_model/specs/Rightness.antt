-- 14 as a plain fact: a record breaks the test if and only if it is not right. And what a right record holds.
--   Sized p   its lists are as long as the arrays are
-- Proved: the test (record-passes, and its verdicts record-finished, record-refused); of a right record, that it has as many rows as it says,
-- the lengths of its lists, its norms, and that its stored inverses are such as the cores ask for. Assumes nothing.
use Rattle.std.specs.Prelude.{◌≡◌, true, false, ◌↔◌, get_or, Ok}
use Rattle.std.proofs.Math.Path.{refl, sym, ap}
use Rattle.std.proofs.Common.{◌∙◌, arith, length-take, ext_get_or, le-ltb}
use Rattle.std.proofs.Math.Bool.{not-eq-not}
use mathlib.Core.List.{List, [], ◌∷◌}
use Rattle.std.proofs.Math.Logic.Iff
use Prim.Native.Nat.{ℕ, zero, suc, ◌<◌, ◌≤◌}
use Rattle.std.proofs.Math.ListN.{length}
use Rattle.definitions.specs.Number.{inverse, table}
use Rattle.definitions.specs.Family.{Family, most_rows, first_c, ones, rows, size, row_at}
use Rattle.definitions.specs.Orthogonality.{norm, norms}
use Rattle.definitions.specs.Answers.{Answer, answered}
use Rattle.definitions.specs.Refusals.{Test, finished, refused, verdict}
use Rattle.definitions.specs.Prepared.{Prepared, Right, most_norms, padded, stored_a, stored_c, prepared, own_rows}
use Rattle.definitions.specs.Prepared.{any_holds, unlike, differs, broken, record_test}
use Rattle.numbers.specs.Inverse.{inverse-below}
use Rattle.numbers.specs.Lists.{table-length, table-entry}
use Rattle.acceptance.specs.Acceptance.{family-passes}
use Rattle.acceptance.specs.Stages.{stage-none}
use Rattle.acceptance.specs.Verdicts.{None, none-append, verdict-here, verdict-next, or-false, differ-false, some_from-false}
use Rattle.inverses.specs.InverseArray.{InverseArray}
use Rattle.lists.specs.Lent.{Long, lent-inside}
use Rattle.prepared_model.specs.Padding.{padded-length, padded-inside}

-- ---- the test
pub any_false : (ts : List Test) → (any_holds ts ≡ false) ↔ None ts
unfolding any_holds
any_false [] = (λ e. tt, λ n. refl)
any_false (t ∷ ts) = Iff.trans (or-false t.holds (any_holds ts)) (λ p. (p.0, (any_false ts).0 p.1), λ p. (p.0, (any_false ts).1 p.1))

pub unlike-false : (xs ys : List ℕ) → (unlike xs ys ≡ false) ↔ (xs ≡ ys)
unfolding unlike
unlike-false xs ys = (to, from)
  where
    to : unlike xs ys ≡ false → xs ≡ ys
    to e =
        let parts = (or-false _ _).0 e in
        let places = (some_from-false _ 0 (length xs)).0 parts.1 in
        ext_get_or 0 xs ys ((differ-false (length xs) (length ys)).0 parts.0)
        (λ i h. (differ-false (get_or xs i 0) (get_or ys i 0)).0 (places i (omega arith) (omega arith)))

    from : xs ≡ ys → unlike xs ys ≡ false
    from e = (or-false _ _).1 (
      (differ-false (length xs) (length ys)).1 (ap length e),
      (some_from-false _ 0 (length xs)).1 (λ i l h. (differ-false (get_or xs i 0) (get_or ys i 0)).1 (ap (λ zs. get_or zs i 0) e)),
    )

pub differs_false : (p q : Prepared) → (differs p q ≡ false) ↔ (p ≡ q)
unfolding differs
differs_false p q = simp (or-false, unlike-false, differ-false) (
  λ e. λ i.
      record {
        modulus = e.0.0.0.0.0.0.0 i;
        rows = e.0.0.0.0.0.0.1 i;
        a = e.0.0.0.0.0.1 i;
        b = e.0.0.0.0.1 i;
        c = e.0.0.0.1 i;
        a_inverses = e.0.0.1 i;
        c_inverses = e.0.1 i;
        norms = e.1 i;
      },
  λ e. (
    (
      (
        ((((ap (λ r. r.modulus) e, ap (λ r. r.rows) e), ap (λ r. r.a) e), ap (λ r. r.b) e), ap (λ r. r.c) e),
        ap (λ r. r.a_inverses) e,
      ),
      ap (λ r. r.c_inverses) e,
    ),
    ap (λ r. r.norms) e,
  ),
)

module _ (p : Prepared) where
  pub record-passes : ((record_test p).holds ≡ false) ↔ Right p
  unfolding record_test broken
  record-passes = simp (or-false, any_false, none-append, family-passes, differs_false) (
    λ e. record { accepted = e.0; own = e.1 },
    λ r. (r.accepted, r.own),
  )

  pub record-finished : Right p → finished [] ≡ verdict (record_test p ∷ []) []
  unfolding verdict
  record-finished r = sym (verdict-next (record_test p) [] [] (record-passes.1 r))

  pub record-refused : (Right p → ⊥) → refused 14 ≡ verdict (record_test p ∷ []) []
  unfolding record_test
  record-refused wrong = sym (verdict-here (record_test p) [] []
      ((not-eq-not {a = (record_test p).holds} {b = true}).0 (λ e. wrong (record-passes.0 e))))

  -- from the answer of a check that makes the test alone
  pub record-tested : (r : Answer) → answered r ≡ verdict (record_test p ∷ []) [] → r ≡ Ok tt → Right p
  record-tested r is q = record-passes.0 (stage-none (record_test p ∷ []) r is q).0

-- ---- what a right record holds
pub record Sized (p : Prepared) : Type 0 where
  pub a_length : length p.a ≡ most_rows
  pub b_length : length p.b ≡ most_rows
  pub c_length : length p.c ≡ most_rows
  pub a_inverses_length : length p.a_inverses ≡ most_rows
  pub c_inverses_length : length p.c_inverses ≡ most_rows
  pub norms_length : length p.norms ≡ most_norms

module _ {p : Prepared} (right : Right p) where
  abbrev f : Family
  f = own_rows p

  pub right-rows : rows f ≡ p.rows
  unfolding prepared
  right-rows = sym (ap (λ q. q.rows) right.own)

  pub right-few : p.rows ≤ most_rows
  right-few = let few : rows f ≤ most_rows = right.accepted.row_count in omega (arith, right-rows)

  pub right-long : Long p.rows p.a p.b p.c
  right-long =
      let b : length f.b ≡ rows f = right.accepted.b_length in
      let c : length f.c ≡ rows f = right.accepted.c_length in
      record {
        a_long = omega (arith, right-rows, length-take p.rows p.a);
        b_long = omega (arith, b, right-rows, length-take p.rows p.b);
        c_long = omega (arith, c, right-rows, length-take p.rows p.c);
      }

  pub right-norms : p.norms ≡ padded most_norms (norms f)
  unfolding prepared
  right-norms = ap (λ q. q.norms) right.own

  list_length : (xs list : List ℕ) → length xs ≡ rows f → list ≡ padded most_rows xs → length list ≡ most_rows
  list_length xs list long e = ap length e ∙ padded-length most_rows xs (omega (arith, right-few, right-rows))

  pub right-sized : Sized p
  unfolding prepared norms
  right-sized = record {
    a_length = list_length f.a p.a refl (ap (λ q. q.a) right.own);
    b_length = list_length f.b p.b right.accepted.b_length (ap (λ q. q.b) right.own);
    c_length = list_length f.c p.c right.accepted.c_length (ap (λ q. q.c) right.own);
    a_inverses_length = list_length _ p.a_inverses (table-length (rows f) (stored_a f)) (ap (λ q. q.a_inverses) right.own);
    c_inverses_length = list_length _ p.c_inverses (table-length (rows f) (stored_c f)) (ap (λ q. q.c_inverses) right.own);
    norms_length = ap length right-norms
        ∙ padded-length most_norms (norms f) (omega (arith, right-few, right-rows, table-length (size f) (norm f)));
  }

  pub right_positive : 0 < p.modulus
  right_positive = omega (arith, right.accepted.modulus.least)

  -- an entry that is stored beside a row
  stored-entry : (stored : ℕ → ℕ) (list : List ℕ) → list ≡ padded most_rows (table (rows f) stored) → (i : ℕ) → i < p.rows
      → get_or list i 0 ≡ stored i
  stored-entry stored list e i h =
      let inside : i < rows f = omega (arith, right-rows) in
      ap (λ xs. get_or xs i 0) e
      ∙ padded-inside most_rows (table (rows f) stored) i (omega (arith, table-length (rows f) stored))
      ∙ table-entry (rows f) stored i 0 inside

  a-stored : (i : ℕ) → i < p.rows → get_or p.a_inverses i 0 ≡ inverse p.modulus (get_or p.a i 0)
  unfolding prepared stored_a
  a-stored i h =
      stored-entry (stored_a f) p.a_inverses (ap (λ q. q.a_inverses) right.own) i h
      ∙ ap (λ row. inverse p.modulus row.a) (lent-inside _ _ p.a p.b p.c ones right-long i h)

  pub c-stored : (i : ℕ) → i < p.rows → get_or p.c_inverses i 0 ≡ stored_c f i
  unfolding prepared
  c-stored = stored-entry (stored_c f) p.c_inverses (ap (λ q. q.c_inverses) right.own)

  c-from : (i : ℕ) → first_c ≤ i → i < p.rows → stored_c f i ≡ inverse p.modulus (get_or p.c i 0)
  unfolding stored_c
  c-from i l h =
      let row = lent-inside _ _ p.a p.b p.c ones right-long i h in
      rw (le-ltb i first_c l, stored_c) (ap (λ row. inverse p.modulus row.c) row)

  c-below : (i : ℕ) → stored_c f i < p.modulus
  unfolding stored_c
  c-below zero = right_positive
  c-below (suc i) = rw (le-ltb (suc i) first_c (omega arith), stored_c) (inverse-below p.modulus (row_at f (suc i)).c right_positive)

  pub right-a-inverses : InverseArray p.modulus 0 p.rows p.a p.a_inverses
  right-a-inverses = record {
    holds = record {
      long = omega (arith, right-few, right-sized.a_inverses_length);
      below = λ i h. rw (a-stored i h) (inverse-below p.modulus (get_or p.a i 0) right_positive);
    };
    is = λ i _ h. a-stored i h;
  }

  pub right-c-inverses : InverseArray p.modulus 1 p.rows p.c p.c_inverses
  right-c-inverses = record {
    holds = record {
      long = omega (arith, right-few, right-sized.c_inverses_length);
      below = λ i h. rw (c-stored i h) (c-below i);
    };
    is = λ i l h. c-stored i h ∙ c-from i l h;
  }
