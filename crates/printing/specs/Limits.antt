-- What the lengths of the program's lists settle: an output of 4,096 bytes, a working list of 16,384 numbers, and 8,193 bytes for the text.
--   lent_tests t  the tests of the text call on t with these lengths
--   Causable k    a number that a job text can cause: 1 to 6, 9 to 12, 17 and 18
-- Proved: a refusal through the program is causable, so 7 and 8 are never given (printed-never-7-or-8); whatever is printed fits the
-- output (printed-fits); the first 8,193 bytes settle what is printed (printed-first-bytes). Assumes nothing.
use Rattle.std.specs.Prelude.{◌≡◌, refl, Bool, true, false, List, [], ◌⊎◌, ℕ, suc, ◌<◌, ◌≤◌, ltb, length, get_or, take}
use Rattle.std.proofs.Common.{sym, ◌∙◌, ap, true≢false, inl, inr, arith, length-take-le, take_all, lt-ltb, ltb-false, ltb-true}
use Rattle.definitions.specs.Family.{Family, Modulus, Curve, most_rows, rows}
use Rattle.definitions.specs.Printing.{shown, printed}
use Rattle.definitions.specs.Reading.{Read, found, malformed, read_job}
use Rattle.definitions.specs.Refusals.{Test, Verdict, finished, refused, verdict, work_length, work_test}
use Rattle.definitions.specs.Text.{Job, decimal, meant, refusal_key, refusal_text, answer_text}
use Rattle.definitions.specs.TextCall.{most_bytes, text_output_length, text_length_test, text_output_test, size_tests, lengths_of, sizes_of}
use Rattle.definitions.specs.TextCall.{job_tests, form_tests, text_tests}
use Rattle.definitions.specs.TextCall.{converted, result, reply_to, reply}
use Rattle.definitions.specs.declared.Operation.{Operation}
use Rattle.texts.specs.AnswerTexts.{all-writable, length-answer, length-line}
use Rattle.theory.specs.Bridge.{expand-curve, adjoint-curve}
use Rattle.texts.specs.Decimal.{length-decimal}
use Rattle.theory.specs.Moments.{moments-below, moments-length, norms-curve}
use Rattle.theory.specs.RoundTrip.{decompose-curve}
use Rattle.acceptance.specs.Verdicts.{None, with_values, verdict-here, verdict-finished}
use Rattle.acceptance.specs.Jobs.{carried-passes}
use Rattle.acceptance.specs.Given.{Given, revalued, refused-given, given-append, lengths-given, values-given}

abbrev pub lent_tests : List ℕ → List Test
lent_tests t = text_tests t text_output_length work_length

abbrev pub Causable : ℕ → Type 0
Causable k = ((1 ≤ k) × (k ≤ 6)) ⊎ (((9 ≤ k) × (k ≤ 12)) ⊎ ((17 ≤ k) × (k ≤ 18)))

early : (k : ℕ) → (1 ≤ k) × (k ≤ 6) → Causable k
early k h = inl h

late : (k : ℕ) → (9 ≤ k) × (k ≤ 12) → Causable k
late k h = inr (inl h)

latest : (k : ℕ) → (17 ≤ k) × (k ≤ 18) → Causable k
latest k h = inr (inr h)

causable-most : (k : ℕ) → Causable k → k ≤ 18
causable-most k (inl h) = omega (arith, h.1)
causable-most k (inr (inl h)) = omega (arith, h.1)
causable-most k (inr (inr h)) = h.1

never : (k : ℕ) → (7 ≤ k) × (k ≤ 8) → Causable k → ⊥
never k (least, most) (inl h) = omega (arith, h.1)
never k (least, most) (inr (inl h)) = omega (arith, h.0)
never k (least, most) (inr (inr h)) = omega (arith, h.0)

-- the output is not under 4,096 bytes, and the working list not under 16,384 numbers
job-given : (j : Job) → Given Causable (job_tests j text_output_length work_length)
unfolding job_tests size_tests text_output_test work_test
job-given j =
    given-append Causable (sizes_of j.operation j.family j.curve text_output_length work_length) _
    (given-append Causable (lengths_of j.operation j.family j.curve text_output_length text_output_length) _
    (lengths-given Causable _ _ _ _ _ _ _ _ (early 3 (omega arith)) (early 4 (omega arith)) (early 5 (omega arith)) (early 6 (omega arith))
    (λ e. absurd (true≢false (sym e))))
    (λ e. absurd (true≢false (sym e)), tt))
    (values-given Causable j.family j.curve (late 9 (omega arith)) (latest 17 (omega arith)) (late 10 (omega arith))
    (latest 18 (omega arith)) (late 11 (omega arith)) (late 12 (omega arith)))

form-given : (r : Read) → Given Causable (form_tests r text_output_length work_length)
unfolding form_tests
form-given malformed = (λ e. early 2 (omega arith), tt)
form-given (found w) = (λ e. early 2 (omega arith), job-given (meant w))

module _ (t : List ℕ) where
  pub refusal-causable : (values : List ℕ) (k : ℕ) → verdict (lent_tests t) values ≡ refused k → Causable k
  unfolding text_tests text_length_test
  refusal-causable values k = refused-given Causable values k (lent_tests t) (λ e. early 1 (omega arith), form-given (read_job t))

  pub printed-never-7-or-8 : (values : List ℕ)
      → (verdict (lent_tests t) values ≡ refused 7 → ⊥) × (verdict (lent_tests t) values ≡ refused 8 → ⊥)
  printed-never-7-or-8 values =
      (λ e. never 7 (omega arith) (refusal-causable values 7 e), λ e. never 8 (omega arith) (refusal-causable values 8 e))

-- ---- how long the text is
module _ (operation : Operation) (f : Family) (modulus : Modulus f.m) (few : rows f ≤ most_rows) where
  text-fits : (xs : List ℕ) → length xs ≤ 255 → ((i : ℕ) → i < length xs → get_or xs i 0 < f.m)
      → length (answer_text operation xs) ≤ text_output_length
  text-fits xs short below = length-answer operation xs short (all-writable xs (λ i h. omega (arith, below i h, modulus.greatest)))

  curve-fits : (u : List ℕ) → Curve f u → length (answer_text operation u) ≤ text_output_length
  curve-fits u c = text-fits u (omega (arith, c.long)) (λ i h. c.below i (omega (arith, c.long)))

  positive : 0 < f.m
  positive = omega (arith, modulus.least)

  result_fits : (o : Operation) (u : List ℕ) → length (answer_text operation (converted o f u)) ≤ text_output_length
  unfolding converted
  result_fits Operation.Expand u = curve-fits _ (expand-curve f positive u)
  result_fits Operation.Adjoint u = curve-fits _ (adjoint-curve f positive u)
  result_fits Operation.Decompose u = curve-fits _ (decompose-curve f positive u)
  result_fits Operation.Moments u = let long = moments-length f in text-fits _ (omega arith) (λ i h. moments-below f positive i (omega arith))
  result_fits Operation.Norms u = curve-fits _ (norms-curve f positive)

reply-fits : (r : Read) → None (form_tests r text_output_length work_length) → length (reply_to r) ≤ text_output_length
unfolding form_tests reply_to result
reply-fits malformed none = omega arith
reply-fits (found w) none =
    let accepted = ((carried-passes (meant w) text_output_length work_length).0 none.1).job.accepted in
    result_fits w.operation (meant w).family accepted.modulus accepted.row_count w.operation w.curve

refusal-fits : (k : ℕ) → k ≤ 18 → length (refusal_text k) ≤ text_output_length
unfolding refusal_text
refusal-fits k h = omega (arith, length-line refusal_key (decimal k) [], length-decimal k (omega arith))

pub printed-fits : (t : List ℕ) → length (printed t) ≤ text_output_length
unfolding printed shown text_tests reply
printed-fits t = split (verdict (lent_tests t) (reply t)) refl
  where
    split : (v : Verdict) → verdict (lent_tests t) (reply t) ≡ v → length (shown (verdict (lent_tests t) (reply t))) ≤ text_output_length
    split (finished text) e =
        let same = revalued (lent_tests t) (reply t) (reply t) ∙ ap (with_values (reply t)) e in
        rw same (reply-fits (read_job t) ((verdict-finished (lent_tests t) (reply t)).0 same).1)
    split (refused k) e = rw e (refusal-fits k (causable-most k (refusal-causable t (reply t) k e)))

-- ---- how much of the input is looked at
too_long : (t : List ℕ) → most_bytes < length t → printed t ≡ refusal_text 1
unfolding printed shown text_tests text_length_test
too_long t h = ap shown
    (verdict-here (text_length_test (length t)) (form_tests (read_job t) text_output_length work_length) (reply t) (lt-ltb most_bytes (length t) h))

pub printed-first-bytes : (t : List ℕ) → printed (take (suc most_bytes) t) ≡ printed t
printed-first-bytes t = split (ltb most_bytes (length t)) refl
  where
    split : (h : Bool) → ltb most_bytes (length t) ≡ h → printed (take (suc most_bytes) t) ≡ printed t
    split true e =
        let long : suc most_bytes ≤ length t = ltb-true most_bytes (length t) e in
        too_long (take (suc most_bytes) t) (omega (arith, length-take-le (suc most_bytes) t long)) ∙ sym (too_long t long)
    split false e = ap printed (take_all (suc most_bytes) t (omega (arith, ltb-false most_bytes (length t) e)))
