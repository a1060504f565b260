-- A record that grows row by row.
--   Grown m a b c i q   q is the record of the first i rows of the lists, which are accepted
-- Proved: where it begins, one row more, and where it ends; a row of an accepted family is taken; what the two round trips hand out.
-- Assumes nothing.
use Rattle.std.specs.Prelude.{◌≡◌, refl, List, [], ℕ, ◌+◌, ◌-◌, ◌<◌, ◌≤◌, length, take, Ok, Err}
use Rattle.std.proofs.Common.{sym, ◌∙◌, ap, add-one, arith, length-take-le, take_all}
use Rattle.definitions.specs.Answers.{Answer, number_of, answered}
use Rattle.definitions.specs.Family.{Family, Row, Accepted, most_rows, family, ones, rows}
use Rattle.definitions.specs.Prepared.{Prepared, Right, prepared, own_rows, appended, replaced, handed_back}
use Rattle.definitions.specs.Prepared.{EmptyCall, AppendCall, DropCall, ReplaceCall}
use Rattle.definitions.specs.Refusals.{Verdict, finished, refused, verdict, family_shape}
use Rattle.acceptance.specs.Acceptance.{family-passes}
use Rattle.acceptance.specs.Verdicts.{refused-not-finished, verdict-finished}
use Rattle.checks.specs.Shape.{Shaped}
use Rattle.lists.specs.Lent.{accepted-rows, accepted-a, accepted-c}
use Rattle.lists.specs.Whole.{accepted-long, accepted-lent}
use Rattle.prepared_model.specs.Accepting.{AppendInput, append-finished, empty-finished}
use Rattle.prepared_model.specs.ChangeLaws.{empty-accepted, first_rows, append-accepted, append-taken, append-out, empty-out}
use Rattle.prepared_model.specs.ChangeLaws.{replace-taken, back-handed, dropped-handed}
use Rattle.prepared_model.specs.Preparing.{own-rows, prepared-right}
use Rattle.prepared_model.specs.Rightness.{right-rows, right-few}
use Rattle.prepared_model.specs.Rows.{NewRow, listed}
use Rattle.prepared_laws.specs.PreparedLaws.{ByAppends, PutBack, Dropped}
use Rattle.definitions.specs.declared.Refusal.{Refusal}

abbrev front : ℕ → List ℕ → List ℕ → List ℕ → ℕ → Family
front m a b c i = family m (take i a) (take i b) (take i c)

pub record Grown (m : ℕ) (a b c : List ℕ) (i : ℕ) (q : Prepared) : Type 0 where
  pub shape : Shaped m (length a) (length b) (length c)
  pub within : i ≤ length a
  pub accepted : Accepted (front m a b c i)
  pub is : q ≡ prepared (front m a b c i)

pub grown-start : (m : ℕ) (a b c : List ℕ) (v : Verdict) (q : Prepared) → Shaped m (length a) (length b) (length c) → EmptyCall m v q
    → Grown m a b c 0 q
grown-start m a b c v q shape call = record {
  shape = shape;
  within = omega arith;
  accepted = empty-accepted m shape.modulus;
  is = empty-out m v q call (call.answer ∙ (empty-finished m []).1 shape.modulus);
}

module _ (m : ℕ) (a b c : List ℕ) (i : ℕ) (q : Prepared) (grown : Grown m a b c i q) where
  own : own_rows q ≡ front m a b c i
  own = ap own_rows grown.is ∙ own-rows grown.accepted

  right : Right q
  right = rw grown.is (prepared-right grown.accepted)

  modulus-is : m ≡ q.modulus
  modulus-is = sym (ap (λ f. f.m) own)

  rows_are : q.rows ≡ i
  rows_are = sym (right-rows right) ∙ ap rows own ∙ length-take-le i a grown.within

  -- a row of an accepted family is taken
  row-taken : Accepted (family m a b c) → i < length a → AppendInput q (listed a b c i)
  row-taken accepted h =
      let few : length a ≤ most_rows = grown.shape.few in
      let long = accepted-long accepted in
      let lent = accepted-lent accepted in
      let rows = accepted-rows m (length a) a b c ones long lent in
      let row : NewRow m i (listed a b c i) = record {
        below = record { a_below = rows.a_holds.below i h; b_below = rows.b_holds.below i h; c_below = rows.c_holds.below i h };
        a_inverse = accepted-a m (length a) a b c ones long lent i h;
        c_inverse = λ l. accepted-c m (length a) a b c ones long lent i l h;
      } in
      record { right = right; room = omega (arith, rows_are); new_row = rw (← modulus-is, rows_are) row }

  module _ (v : Verdict) (out : Prepared) (h : i < length a) (call : AppendCall q (listed a b c i) v out) where
    pub grown-next : v ≡ finished [] → Grown m a b c (i + 1) out
    grown-next done =
        let taken = append-taken q (listed a b c i) v out call done in
        let next : appended (own_rows q) (listed a b c i) ≡ front m a b c (i + 1) =
        ap (λ f. appended f (listed a b c i)) own
        ∙ rw add-one (first_rows m a b c i h (omega (arith, grown.shape.b_length)) (omega (arith, grown.shape.c_length))) in
        record {
          shape = grown.shape;
          within = omega arith;
          accepted = rw (← next) (append-accepted taken);
          is = append-out q (listed a b c i) v out call done ∙ ap prepared next;
        }

    pub grown-refused : (k : ℕ) → v ≡ refused k → ByAppends m a b c v out
    grown-refused k q' = record {
      finishes = (
        λ done. absurd (refused-not-finished k [] (sym q' ∙ done)),
        λ accepted. call.answer ∙ (append-finished q (listed a b c i) []).1 (row-taken accepted h),
      );
      law = λ done. absurd (refused-not-finished k [] (sym q' ∙ done));
    }

  pub grown-ends : length a ≤ i → ByAppends m a b c (finished []) q
  grown-ends end =
      let whole : front m a b c i ≡ family m a b c =
      rw (
        take_all i a (omega arith),
        take_all i b (omega (arith, grown.shape.b_length)),
        take_all i c (omega (arith, grown.shape.c_length)),
      ) in
      record {
        finishes = (λ done. rw (← whole) grown.accepted, λ accepted. refl);
        law = λ done. grown.is ∙ ap prepared whole;
      }

pub shape-refused : (m : ℕ) (a b c : List ℕ) (r : Answer) (out : Prepared) → answered r ≡ verdict (family_shape (family m a b c)) []
    → (k : Refusal) → r ≡ Err k → ByAppends m a b c (answered r) out
shape-refused m a b c r out is k q =
    let not : answered r ≡ finished [] → ⊥ = λ done. refused-not-finished (number_of k) [] (sym (ap answered q) ∙ done) in
    record {
      finishes = (
        λ done. absurd (not done),
        λ accepted. is ∙ (verdict-finished (family_shape (family m a b c)) []).1 ((family-passes (family m a b c)).1 accepted).0,
      );
      law = λ done. absurd (not done);
    }

-- ---- the round trips
module _ (p : Prepared) (i : ℕ) (row : Row) (r : Answer) (q : Prepared) (call : ReplaceCall p i row (answered r) q) where
  pub replace-kept : (k : Refusal) → r ≡ Err k → PutBack p i row (answered r) q
  replace-kept k e = record {
    answer = call.answer;
    law = call.handed ∙ ap (λ x. handed_back (answered x) (prepared (replaced (own_rows p) (i - 1) row)) p) e;
  }

  pub replace-back : r ≡ Ok tt → (w : Verdict) (out : Prepared)
      → ReplaceCall q i (listed p.a p.b p.c (i - 1)) w out → PutBack p i row w out
  replace-back e w out again =
      let back = back-handed p i row (answered r) q call (ap answered e) w out again in
      record { answer = back.0 ∙ sym (ap answered e) ∙ call.answer; law = back.1 }

  pub replace-inside : r ≡ Ok tt → (1 ≤ i) × (i - 1 < most_rows)
  replace-inside e =
      let taken = replace-taken p i row (answered r) q call (ap answered e) in
      (taken.first, omega (arith, taken.first, taken.last, right-few taken.right))

module _ (p : Prepared) (row : Row) (r : Answer) (q : Prepared) (call : AppendCall p row (answered r) q) where
  pub append-kept : (k : Refusal) → r ≡ Err k → Dropped p row (answered r) q
  append-kept k e = record {
    answer = call.answer;
    law = call.handed ∙ ap (λ x. handed_back (answered x) (prepared (appended (own_rows p) row)) p) e;
  }

  pub append-back : r ≡ Ok tt → (w : Verdict) (out : Prepared) → DropCall q w out → Dropped p row w out
  append-back e w out again =
      let back = dropped-handed p row (answered r) q call (ap answered e) w out again in
      record { answer = back.0 ∙ sym (ap answered e) ∙ call.answer; law = back.1 }
