-- The rows of a right record after a change, in its arrays.
-- Proved: with a row that may stand there put at a place, with one row more than before or as many, and with the last row wiped, the arrays can
-- be prepared, and their rows are those of the changed family. Assumes nothing.
use Rattle.std.specs.Prelude.{◌≡◌, List, [], ◌∷◌, ◌++◌, ℕ, ◌+◌, ◌-◌, ◌<◌, ◌≤◌, length, get_or, take, set}
use Rattle.std.proofs.Common.{sym, ◌∙◌, ap, add-one, arith, length-set, get_or-set_same, get_or-set_other, take-suc-set, take-take}
use Rattle.std.proofs.Math.Logic.{by_cases}
use Rattle.std.proofs.Math.Decide.{ℕ_discrete}
use Rattle.std.proofs.lemmas.List.{take-set-le}
use Rattle.std.proofs.Math.Seq.{take-set-lt}
use Rattle.definitions.specs.Family.{Row, most_rows, ones, rows}
use Rattle.definitions.specs.Prepared.{Prepared, Right, own_rows, appended, shortened, replaced}
use Rattle.lists.specs.Lent.{lent, accepted-a, accepted-c}
use Rattle.prepared_model.specs.Accepting.{AppendInput, DropInput, ReplaceInput}
use Rattle.prepared_model.specs.Parts.{Residues, RowsKept, right-parts}
use Rattle.prepared_model.specs.Preparing.{Preparable}
use Rattle.prepared_model.specs.Rightness.{Sized, right-rows, right-few, right-long, right-sized}
use Rattle.prepared_model.specs.Rows.{NewRow, listed, rows-accepted}

-- the rows of a right record pass one by one
module _ {p : Prepared} (right : Right p) where
  pub own_row : (i : ℕ) → i < p.rows → NewRow p.modulus i (listed p.a p.b p.c i)
  own_row i h =
      let kept = (right-parts right).kept in
      let long = right-long right in
      record {
        below = record { a_below = kept.a_kept.below i h; b_below = kept.b_kept.below i h; c_below = kept.c_kept.below i h };
        a_inverse = accepted-a _ _ p.a p.b p.c ones long right.accepted i h;
        c_inverse = λ l. accepted-c _ _ p.a p.b p.c ones long right.accepted i l h;
      }

  -- arrays of which r rows pass
  of-arrays : {r : ℕ} {a b c : List ℕ} → r ≤ most_rows → length a ≡ most_rows → length b ≡ most_rows → length c ≡ most_rows
      → ((i : ℕ) → i < r → NewRow p.modulus i (listed a b c i))
      → ((i : ℕ) → r ≤ i → get_or a i 0 ≡ 0) → ((i : ℕ) → r ≤ i → get_or b i 0 ≡ 0) → ((i : ℕ) → r ≤ i → get_or c i 0 ≡ 0)
      → Preparable p.modulus r a b c
  of-arrays few a_length b_length c_length each a_zeros b_zeros c_zeros = record {
    accepted = rows-accepted right.accepted.modulus few
        (record { a_long = omega arith; b_long = omega arith; c_long = omega arith }) each;
    few = few;
    a_length = a_length;
    b_length = b_length;
    c_length = c_length;
    a_zeros = a_zeros;
    b_zeros = b_zeros;
    c_zeros = c_zeros;
  }

  -- a place of the arrays, changed and not
  module _ (place : ℕ) (row : Row) (within : place < most_rows) where
    abbrev now : ℕ → Row
    now = listed (set p.a place row.a) (set p.b place row.b) (set p.c place row.c)

    new-here : now place ≡ row
    new-here =
        let sized = right-sized right in
        rw (
          get_or-set_same p.a place row.a 0 (omega (arith, sized.a_length)),
          get_or-set_same p.b place row.b 0 (omega (arith, sized.b_length)),
          get_or-set_same p.c place row.c 0 (omega (arith, sized.c_length)),
        )

    old-there : (i : ℕ) → (i ≡ place → ⊥) → now i ≡ listed p.a p.b p.c i
    old-there i n = rw (
      get_or-set_other p.a place i row.a 0 n,
      get_or-set_other p.b place i row.b 0 n,
      get_or-set_other p.c place i row.c 0 n,
    )

    a-length : length (set p.a place row.a) ≡ most_rows
    a-length = length-set p.a place row.a ∙ (right-sized right).a_length

    b-length : length (set p.b place row.b) ≡ most_rows
    b-length = length-set p.b place row.b ∙ (right-sized right).b_length

    c-length : length (set p.c place row.c) ≡ most_rows
    c-length = length-set p.c place row.c ∙ (right-sized right).c_length

    -- a new row stands at the place, and the others are the record's own
    pub put-preparable : (r : ℕ) → place < r → p.rows ≤ r → r ≤ most_rows → ((i : ℕ) → i < r → (i ≡ place → ⊥) → i < p.rows)
        → NewRow p.modulus place row
        → Preparable p.modulus r (set p.a place row.a) (set p.b place row.b) (set p.c place row.c)
    put-preparable r inside least few own new =
        of-arrays few a-length b-length c-length each (zeros p.a row.a kept.a_kept) (zeros p.b row.b kept.b_kept)
        (zeros p.c row.c kept.c_kept)
      where
        kept : RowsKept p.modulus p.rows p.a p.b p.c p.a_inverses p.c_inverses
        kept = (right-parts right).kept

        each : (i : ℕ) → i < r → NewRow p.modulus i (now i)
        each i h = by_cases (ℕ_discrete i place)
            (λ (e : i ≡ place). rw (e, new-here) new)
            (λ n. rw (old-there i n) (own_row i (own i h n)))

        zeros : (list : List ℕ) (x : ℕ) → Residues p.modulus p.rows list → (i : ℕ) → r ≤ i → get_or (set list place x) i 0 ≡ 0
        zeros list x kept i h = get_or-set_other list place i x 0 (λ e. absurd (omega arith)) ∙ kept.zeros i (omega arith)

-- ---- the changes
module _ {p : Prepared} {row : Row} (input : AppendInput p row) where
  pub append-preparable : Preparable p.modulus (p.rows + 1) (set p.a p.rows row.a) (set p.b p.rows row.b)
      (set p.c p.rows row.c)
  append-preparable =
      let room : p.rows < most_rows = input.room in
      put-preparable input.right p.rows row room (p.rows + 1) (omega arith) (omega arith) (omega arith)
      (λ i h n. omega arith) input.new_row

  one_more : (list : List ℕ) (x : ℕ) → length list ≡ most_rows → take (p.rows + 1) (set list p.rows x) ≡ take p.rows list ++ x ∷ []
  one_more list x long = rw add-one (take-suc-set list p.rows x (omega (arith, long, input.room)))

  pub append-rows : lent p.modulus (p.rows + 1) (set p.a p.rows row.a) (set p.b p.rows row.b)
      (set p.c p.rows row.c) ones ≡ appended (own_rows p) row
  append-rows =
      let sized = right-sized input.right in
      rw (
        one_more p.a row.a sized.a_length,
        one_more p.b row.b sized.b_length,
        one_more p.c row.c sized.c_length,
      )

module _ {p : Prepared} {i : ℕ} {row : Row} (input : ReplaceInput p i row) where
  pub replace-preparable : Preparable p.modulus p.rows (set p.a (i - 1) row.a) (set p.b (i - 1) row.b)
      (set p.c (i - 1) row.c)
  replace-preparable =
      let few : p.rows ≤ most_rows = right-few input.right in
      let first : 1 ≤ i = input.first in
      let last : i ≤ p.rows = input.last in
      put-preparable input.right (i - 1) row (omega arith) p.rows (omega arith) (omega arith) few (λ j h n. h) input.new_row

  pub replace-rows : lent p.modulus p.rows (set p.a (i - 1) row.a) (set p.b (i - 1) row.b)
      (set p.c (i - 1) row.c) ones ≡ replaced (own_rows p) (i - 1) row
  replace-rows =
      let first : 1 ≤ i = input.first in
      let last : i ≤ p.rows = input.last in
      rw (
        take-set-lt p.rows p.a (i - 1) row.a (omega arith),
        take-set-lt p.rows p.b (i - 1) row.b (omega arith),
        take-set-lt p.rows p.c (i - 1) row.c (omega arith),
      )

module _ {p : Prepared} (input : DropInput p) where
  abbrev last : ℕ
  last = p.rows - 1

  abbrev wiped : List ℕ → List ℕ
  wiped list = set list last 0

  abbrev none : Row
  none = record { a = 0; b = 0; c = 0 }

  inside : last < most_rows
  inside = omega (arith, right-few input.right, input.some)

  pub drop-preparable : Preparable p.modulus last (wiped p.a) (wiped p.b) (wiped p.c)
  drop-preparable =
      of-arrays right (omega (arith, inside)) (a-length right last none inside) (b-length right last none inside)
      (c-length right last none inside) each (zeros p.a sized.a_length kept.a_kept) (zeros p.b sized.b_length kept.b_kept)
      (zeros p.c sized.c_length kept.c_kept)
    where
      right : Right p
      right = input.right

      sized : Sized p
      sized = right-sized right

      kept : RowsKept p.modulus p.rows p.a p.b p.c p.a_inverses p.c_inverses
      kept = (right-parts right).kept

      each : (i : ℕ) → i < last → NewRow p.modulus i (listed (wiped p.a) (wiped p.b) (wiped p.c) i)
      each i h = rw (old-there right last none inside i (λ e. absurd (omega arith))) (own_row right i (omega arith))

      zeros : (list : List ℕ) → length list ≡ most_rows → Residues p.modulus p.rows list → (i : ℕ) → last ≤ i
          → get_or (wiped list) i 0 ≡ 0
      zeros list long residues i h = by_cases (ℕ_discrete i last)
          (λ (e : i ≡ last). ap (λ j. get_or (wiped list) j 0) e ∙ get_or-set_same list last 0 0 (omega (arith, long, inside)))
          (λ n. get_or-set_other list last i 0 0 n ∙ residues.zeros i (omega arith))

  -- the front of the wiped list is that of the rows
  shorter : (list : List ℕ) → take last (wiped list) ≡ take (rows (own_rows p) - 1) (take p.rows list)
  shorter list =
      let count : rows (own_rows p) - 1 ≡ last = omega (arith, right-rows input.right) in
      take-set-le last list last 0 (omega arith) ∙ sym (take-take last p.rows list (omega arith))
      ∙ ap (λ k. take k (take p.rows list)) (sym count)

  pub drop-rows : lent p.modulus last (wiped p.a) (wiped p.b) (wiped p.c) ones ≡ shortened (own_rows p)
  drop-rows = rw (shorter p.a, shorter p.b, shorter p.c)
