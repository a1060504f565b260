-- What the changes do to one another.
-- Proved of a family: the old row put back in the place of a new one, and the last row dropped after it was appended, give the family; a
-- family's first k + 1 rows are its first k rows with row k + 1 appended.
-- Proved of what the changes promise: a change that finishes hands out a right record, so that its stored inverses and norms are true; a row
-- replaced and the old one put back, and a row appended and dropped, hand out the old record, and the second change finishes where the first did.
-- Assumes nothing.
use Rattle.std.specs.Prelude.{◌≡◌, refl, ℕ, suc, ◌-◌, ◌<◌, length, get_or, take}
use Rattle.std.proofs.Common.{sym, ◌∙◌, ap, ap₂, arith, length-set, take_at, take-suc}
use mathlib.Core.List.{List, [], ◌∷◌, ◌++◌}
use Rattle.std.proofs.Math.ListN.{set}
use Rattle.std.proofs.Math.Seq.{set-set, set-get_or}
use Rattle.definitions.specs.Family.{Family, Row, Accepted, Modulus, family, ones, rows, row_at, row_of}
use Rattle.definitions.specs.Prepared.{Prepared, Right, prepared, own_rows, appended, shortened, replaced, Changed, handed_back}
use Rattle.definitions.specs.Prepared.{EmptyCall, AppendCall, DropCall, ReplaceCall}
use Rattle.definitions.specs.Refusals.{Test, Verdict, finished}
use Rattle.numbers.specs.Lists.{snoc-length}
use Rattle.lists.specs.Lent.{lent-inside}
use Rattle.prepared_model.specs.Accepting.{AppendInput, DropInput, ReplaceInput}
use Rattle.prepared_model.specs.Accepting.{append-finished, drop-finished, replace-finished}
use Rattle.prepared_model.specs.Changing.{append-preparable, append-rows, replace-preparable, replace-rows, drop-preparable, drop-rows}
use Rattle.prepared_model.specs.Changing.{own_row}
use Rattle.prepared_model.specs.Preparing.{own-rows, prepared-right}
use Rattle.prepared_model.specs.Rightness.{right-rows, right-long}
use Rattle.prepared_model.specs.Rows.{listed, rows-accepted}

-- ---- of a family
module _ (m : ℕ) (a b c : List ℕ) where
  abbrev f : Family
  f = family m a b c

  pub put_back : (i : ℕ) (row : Row) → replaced (replaced f i row) i (row_at f i) ≡ f
  unfolding row_at
  put_back i row =
      let again : (xs : List ℕ) (x d : ℕ) → set (set xs i x) i (get_or xs i d) ≡ xs = λ xs x d. set-set xs i x (get_or xs i d) ∙ set-get_or xs i d in
      rw (again a row.a 1, again b row.b 1, again c row.c 1)

  pub drop-appended : (row : Row) → length b ≡ length a → length c ≡ length a → shortened (appended f row) ≡ f
  drop-appended row lb lc =
      let count : length (a ++ row.a ∷ []) - 1 ≡ length a = omega (arith, snoc-length a row.a) in
      let front : (xs : List ℕ) (x : ℕ) → length xs ≡ length a → take (length (a ++ row.a ∷ []) - 1) (xs ++ x ∷ []) ≡ xs =
      λ xs x l. ap (λ k. take k (xs ++ x ∷ [])) (count ∙ sym l) ∙ take_at xs (x ∷ []) (length xs) refl in
      rw (front a row.a refl, front b row.b lb, front c row.c lc)

  pub first_rows : (k : ℕ) → k < length a → k < length b → k < length c
      → appended (family m (take k a) (take k b) (take k c)) (row_of (get_or a k 0) (get_or b k 0) (get_or c k 0))
      ≡ family m (take (suc k) a) (take (suc k) b) (take (suc k) c)
  first_rows k la lb lc = rw (take-suc a k 0 la, take-suc b k 0 lb, take-suc c k 0 lc)

-- ---- the changed family is accepted, and the empty one
pub empty-accepted : (m : ℕ) → Modulus m → Accepted (family m [] [] [])
empty-accepted m modulus = rows-accepted {r = 0} {a = []} {b = []} {c = []} modulus (omega arith)
    (record { a_long = omega arith; b_long = omega arith; c_long = omega arith }) (λ i h. absurd (omega arith))

module _ {p : Prepared} where
  pub append-accepted : {row : Row} → AppendInput p row → Accepted (appended (own_rows p) row)
  append-accepted input = rw (← append-rows input) (append-preparable input).accepted

  pub replace-accepted : {i : ℕ} {row : Row} → ReplaceInput p i row → Accepted (replaced (own_rows p) (i - 1) row)
  replace-accepted input = rw (← replace-rows input) (replace-preparable input).accepted

  pub drop-accepted : DropInput p → Accepted (shortened (own_rows p))
  drop-accepted input = rw (← drop-rows input) (drop-preparable input).accepted

-- ---- what a change hands out when it finishes
handed-new : (tests : List Test) (new old : Prepared) (v : Verdict) (out : Prepared) → Changed tests new old v out → v ≡ finished [] → out ≡ new
handed-new tests new old v out call done = call.handed ∙ ap (λ w. handed_back w new old) done

module _ (m : ℕ) (v : Verdict) (out : Prepared) (call : EmptyCall m v out) (done : v ≡ finished []) where
  pub empty-out : out ≡ prepared (family m [] [] [])
  empty-out = handed-new _ _ _ v out call done

module _ (p : Prepared) (row : Row) (v : Verdict) (out : Prepared) (call : AppendCall p row v out) (done : v ≡ finished []) where
  pub append-taken : AppendInput p row
  append-taken = (append-finished p row []).0 (sym call.answer ∙ done)

  pub append-out : out ≡ prepared (appended (own_rows p) row)
  append-out = handed-new _ _ p v out call done

  pub append_right : Right out
  append_right = rw append-out (prepared-right (append-accepted append-taken))

  append-own : own_rows out ≡ appended (own_rows p) row
  append-own = ap own_rows append-out ∙ own-rows (append-accepted append-taken)

module _ (p : Prepared) (v : Verdict) (out : Prepared) (call : DropCall p v out) (done : v ≡ finished []) where
  pub drop-taken : DropInput p
  drop-taken = (drop-finished p []).0 (sym call.answer ∙ done)

  pub drop-out : out ≡ prepared (shortened (own_rows p))
  drop-out = handed-new _ _ p v out call done

  pub drop-right : Right out
  drop-right = rw drop-out (prepared-right (drop-accepted drop-taken))

module _ (p : Prepared) (i : ℕ) (row : Row) (v : Verdict) (out : Prepared) (call : ReplaceCall p i row v out) (done : v ≡ finished []) where
  pub replace-taken : ReplaceInput p i row
  replace-taken = (replace-finished p i row []).0 (sym call.answer ∙ done)

  pub replace-out : out ≡ prepared (replaced (own_rows p) (i - 1) row)
  replace-out = handed-new _ _ p v out call done

  pub replace-right : Right out
  replace-right = rw replace-out (prepared-right (replace-accepted replace-taken))

  replace-own : own_rows out ≡ replaced (own_rows p) (i - 1) row
  replace-own = ap own_rows replace-out ∙ own-rows (replace-accepted replace-taken)

-- ---- a row is replaced, and the old one put back
module _ (p : Prepared) (i : ℕ) (row : Row) (v : Verdict) (q : Prepared) (call : ReplaceCall p i row v q) (done : v ≡ finished []) where
  abbrev old : Row
  old = listed p.a p.b p.c (i - 1)

  taken : ReplaceInput p i row
  taken = replace-taken p i row v q call done

  before : i - 1 < p.rows
  before = omega (arith, taken.first, taken.last)

  old-is : old ≡ row_at (own_rows p) (i - 1)
  old-is = sym (lent-inside _ _ p.a p.b p.c ones (right-long taken.right) (i - 1) before)

  same-modulus : p.modulus ≡ q.modulus
  same-modulus = sym (ap (λ f. f.m) (replace-own p i row v q call done))

  same_rows : p.rows ≡ q.rows
  same_rows =
      sym (right-rows taken.right) ∙ sym (length-set (take p.rows p.a) (i - 1) row.a)
      ∙ sym (ap rows (replace-own p i row v q call done)) ∙ right-rows (replace-right p i row v q call done)

  pub back-taken : ReplaceInput q i old
  back-taken = record {
    right = replace-right p i row v q call done;
    first = taken.first;
    last = omega (arith, taken.last, same_rows);
    new_row = rw (← same-modulus) (own_row taken.right (i - 1) before);
  }

  pub back-handed : (w : Verdict) (out : Prepared) → ReplaceCall q i old w out → (w ≡ finished []) × (out ≡ p)
  back-handed w out again =
      let finishes : w ≡ finished [] = again.answer ∙ (replace-finished q i old []).1 back-taken in
      let family-back : replaced (own_rows q) (i - 1) old ≡ own_rows p =
      ap₂ (λ f x. replaced f (i - 1) x) (replace-own p i row v q call done) old-is
      ∙ put_back p.modulus (take p.rows p.a) (take p.rows p.b) (take p.rows p.c) (i - 1) row in
      (finishes, replace-out q i old w out again finishes ∙ ap prepared family-back ∙ sym taken.right.own)

-- ---- a row is appended, and dropped
module _ (p : Prepared) (row : Row) (v : Verdict) (q : Prepared) (call : AppendCall p row v q) (done : v ≡ finished []) where
  append_taken : AppendInput p row
  append_taken = append-taken p row v q call done

  more_rows : q.rows ≡ suc p.rows
  more_rows =
      sym (right-rows (append_right p row v q call done)) ∙ ap rows (append-own p row v q call done)
      ∙ snoc-length (take p.rows p.a) row.a ∙ ap suc (right-rows append_taken.right)

  pub dropped-taken : DropInput q
  dropped-taken = record { right = append_right p row v q call done; some = omega (arith, more_rows) }

  pub dropped-handed : (w : Verdict) (out : Prepared) → DropCall q w out → (w ≡ finished []) × (out ≡ p)
  dropped-handed w out again =
      let finishes : w ≡ finished [] = again.answer ∙ (drop-finished q []).1 dropped-taken in
      let family-back : shortened (own_rows q) ≡ own_rows p =
      ap shortened (append-own p row v q call done)
      ∙ drop-appended p.modulus _ _ _ row append_taken.right.accepted.b_length append_taken.right.accepted.c_length in
      (finishes, drop-out q w out again finishes ∙ ap prepared family-back ∙ sym append_taken.right.own)
