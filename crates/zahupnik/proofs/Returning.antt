-- From the answer of a public call to what its exported function returns and leaves.
-- Proved: the number of a verdict says what the verdict does, where no test has the number 0 (returned-is). So a call keeps its promise when
-- its answer is turned into a number:
--   a call that writes a list, with a working list or without, or whole numbers; a change of a record
--   Inverse, whether it finishes, finds no inverse or refuses before that
--   the text call, and the call that writes a job, whether its number names an operation or not
-- These rest on `returned`, which an edit of specs/ changes. Assumes nothing.
use Rattle.std.specs.Prelude.{◌≡◌, Bool, true, false, List, [], ◌∷◌, ◌++◌, ℕ, zero, suc, ◌<◌, ◌≤◌, eqb, ℤ, length, drop, Ok, Err, Option, Some}
use Rattle.std.proofs.Math.Path.{refl}
use Rattle.std.proofs.Common.{sym, ◌∙◌, ap, subst, arith}
use Rattle.definitions.specs.Answers.{Valued, InverseAnswer, number_of, valued, inverse_answered, inverse_handed, factor_handed, after, cleared, Converted, ConvertedIn}
use Rattle.definitions.specs.Answers.{InverseCall}
use Rattle.definitions.specs.Number.{greatest_factor}
use Rattle.definitions.specs.Prepared.{Prepared, Changed, handed_back}
use Rattle.definitions.specs.Refusals.{Test, Verdict, finished, refused, verdict, test, inverse_tests}
use Rattle.definitions.specs.Text.{WrittenJob, meant, job_text}
use Rattle.definitions.specs.TextCall.{text_tests, reply, TextConverted}
use Rattle.definitions.specs.JobWriting.{writing_tests, JobWritten}
use Rattle.definitions.specs.declared.NotInverted.{NotInverted}
use Rattle.definitions.specs.declared.Operation.{Operation}
use Rattle.definitions.specs.declared.Refusal.{Refusal}
use Rattle.joining.specs.Calls.{WholesHanded}
use Rattle.acceptance.specs.Given.{revalued, refused-given}
use Rattle.acceptance.specs.Verdicts.{refused-not-finished, verdict-next, with_values, verdict-values}
use Rattle.zahupnik.specs.Returned.{returned, number, operations, choice_of, choice, chosen_tests, chosen_text, JobReturned}
use Rattle.zahupnik.specs.Positive.{Positive, inverse-positive, text-positive, chosen-positive}

-- a number above 0 is that of a refusal
refusal_is : (k : ℕ) → 0 < k → returned k ≡ refused k
refusal_is zero h = absurd (omega arith)
refusal_is (suc k) h = refl

-- the values make no difference to the number, nor to what a list holds
number-values : (values : List ℕ) (v : Verdict) → number (with_values values v) ≡ number v
number-values values (finished none) = refl
number-values values (refused k) = refl

after-values : (values : List ℕ) (v : Verdict) (new old : List ℕ) → after (with_values values v) new old ≡ after v new old
after-values values (finished none) new old = refl
after-values values (refused k) new old = refl

module _ (tests : List Test) (positive : Positive tests) where
  pub returned-is : (v : Verdict) → v ≡ verdict tests [] → (k : ℕ) → k ≡ number v → returned k ≡ v
  returned-is (finished values) e k q = ap returned q ∙ sym (e ∙ revalued tests [] [] ∙ ap (with_values []) (sym e))
  returned-is (refused j) e k q = ap returned q ∙ refusal_is j (refused-given (λ i. 0 < i) [] j tests positive (sym e))

  -- a call that writes a list
  pub list-returned : {result output output' : List ℕ} (v : Verdict) (k : ℕ) → Converted tests result v output output'
      → k ≡ number v → Converted tests result (returned k) output output'
  list-returned {result} {output} {output'} v k made e =
      subst (λ w. Converted tests result w output output') (sym (returned-is v made.answer k e)) made

  pub list-returned-in : {result output output' work work' : List ℕ} (v : Verdict) (k : ℕ)
      → ConvertedIn tests result v output output' work work' → k ≡ number v
      → ConvertedIn tests result (returned k) output output' work work'
  list-returned-in {result} {output} {output'} {work} {work'} v k made e =
      subst (λ w. ConvertedIn tests result w output output' work work') (sym (returned-is v made.answer k e)) made

  -- a call that writes whole numbers
  pub wholes-returned : {result output output' : List ℤ} (v : Verdict) (k : ℕ) → WholesHanded tests result v output output'
      → k ≡ number v → WholesHanded tests result (returned k) output output'
  wholes-returned {result} {output} {output'} v k made e =
      subst (λ w. WholesHanded tests result w output output') (sym (returned-is v made.answer k e)) made

  -- a change
  pub change-returned : {new old out out' : Prepared} (v : Verdict) (k : ℕ) → Changed tests new old v out → k ≡ number v → out' ≡ out
      → Changed tests new old (returned k) out'
  change-returned {new} {old} v k made e same =
      let says = returned-is v made.answer k e in
      record { answer = says ∙ made.answer; handed = same ∙ made.handed ∙ ap (λ w. handed_back w new old) (sym says) }

  -- a call that hands out a number: x is the definition's, old what was lent
  module _ (x old : ℕ) where
    pub value-returned : (y : ℕ) → finished (y ∷ []) ≡ verdict tests (x ∷ []) → Converted tests (x ∷ []) (returned 0) (old ∷ []) (y ∷ [])
    value-returned y e = at (verdict tests []) refl (e ∙ verdict-values (x ∷ []) tests)
      where
        at : (v : Verdict) → verdict tests [] ≡ v → finished (y ∷ []) ≡ with_values (x ∷ []) v
            → Converted tests (x ∷ []) (returned 0) (old ∷ []) (y ∷ [])
        at (finished none) q d = record { answer = sym (revalued tests [] [] ∙ ap (with_values []) q); written = cc }
        at (refused k) q d = absurd (refused-not-finished k (y ∷ []) (sym d))

    pub refusal-returned : (k : ℕ) → refused k ≡ verdict tests (x ∷ []) → Converted tests (x ∷ []) (returned k) (old ∷ []) (old ∷ [])
    refusal-returned k e =
        let is : refused k ≡ verdict tests [] = ap (with_values []) e ∙ sym (revalued tests (x ∷ []) []) in
        rw (returned-is (refused k) is k refl) (record { answer = is; written = refl })

  -- a call whose answer has a value
  module _ (values : List ℕ) (r : Valued) (is : valued r ≡ verdict tests values) where
    without : with_values [] (valued r) ≡ verdict tests []
    without = ap (with_values []) is ∙ sym (revalued tests values [])

    module _ (k : ℕ) (e : k ≡ number (valued r)) where
      says : returned k ≡ with_values [] (valued r)
      says = returned-is (with_values [] (valued r)) without k (e ∙ sym (number-values [] (valued r)))

      leaves : (new old list : List ℕ) → list ≡ after (valued r) new old → list ≡ after (returned k) new old
      leaves new old list w = w ∙ sym (after-values [] (valued r) new old) ∙ ap (λ v. after v new old) (sym says)

      pub valued-returned : (result output output' : List ℕ) → output' ≡ after (valued r) result output
          → Converted tests result (returned k) output output'
      valued-returned result output output' w = record { answer = says ∙ without; written = leaves result output output' w }

      pub valued-returned-in : (result output output' work work' : List ℕ)
          → output' ≡ after (valued r) result output → work' ≡ after (valued r) (cleared work) work
          → ConvertedIn tests result (returned k) output output' work work'
      valued-returned-in result output output' work work' w q = record {
        answer = says ∙ without;
        written = leaves result output output' w;
        wiped = leaves (cleared work) work work' q;
      }

-- Inverse; inverse and factor: what the lent numbers held
module _ (m x inverse factor : ℕ) (r : InverseAnswer) (call : InverseCall m x (inverse_answered r) [] (inverse_handed r) [] (factor_handed r)) where
  abbrev Kept : InverseAnswer → Type 0
  Kept a = InverseCall m x (inverse_answered a) [] (inverse_handed a) [] (factor_handed a)

  pub found-returned : (y : ℕ) → r ≡ Ok y
      → InverseCall m x (returned 0) (inverse ∷ []) (y ∷ []) (factor ∷ []) (1 ∷ [])
  found-returned y e =
      let made = subst Kept e call in record { answer = made.answer; written = made.written; factor = made.factor }

  pub without-returned : (g : ℕ) → r ≡ Err (NotInverted.Shares g)
      → InverseCall m x (returned 13) (inverse ∷ []) (inverse ∷ []) (factor ∷ []) (g ∷ [])
  without-returned g e = let made = subst Kept e call in record { answer = made.answer; written = refl; factor = made.factor }

  pub early-returned : (k : Refusal) → r ≡ Err (NotInverted.Refused k)
      → InverseCall m x (returned (number_of k)) (inverse ∷ []) (inverse ∷ []) (factor ∷ []) (factor ∷ [])
  early-returned k e =
      let made = subst Kept e call in
      let above = refused-given (λ j. 0 < j) [] (number_of k) (inverse_tests m x) (inverse-positive m x) (sym made.answer) in
      rw (refusal_is (number_of k) above) (record { answer = made.answer; written = refl; factor = untold (eqb (number_of k) 13) made.factor })
    where
      -- it tells no factor, so it is not 13
      untold : (told : Bool) → ◌≡◌ {A = List ℕ} [] (elim told as (λ b. List ℕ) [ true ↦ greatest_factor m x ∷ [] | false ↦ [] ])
          → factor ∷ [] ≡ elim told as (λ b. List ℕ) [ true ↦ greatest_factor m x ∷ [] | false ↦ factor ∷ [] ]
      untold true same = let none : ◌≡◌ {A = ℕ} 0 1 = ap length same in absurd (omega arith)
      untold false same = refl

pub text-returned : (t output output' work work' : List ℕ) (r : Valued) → TextConverted t r output output' work work'
    → (k : ℕ) → k ≡ number (valued r)
    → ConvertedIn (text_tests t (length output) (length work)) (reply t ++ drop (length (reply t)) output) (returned k)
    output output' work work'
text-returned t output output' work work' r made k e =
    valued-returned-in _ (text-positive t (length output) (length work)) _ r made.answer k e _ output output' work work'
    made.written made.wiped

-- the function that writes a job, once its number has named an operation or none
choice-past-all : (others : List Operation) (k : ℕ) → length others ≤ k → choice_of others k ≡ Option.None
unfolding choice_of
choice-past-all [] k h = refl
choice-past-all (operation ∷ others) zero h = absurd (omega arith)
choice-past-all (operation ∷ others) (suc k) h = choice-past-all others k (omega arith)

pub choice-past : (k : ℕ) → 5 ≤ k → Option.None ≡ choice k
unfolding choice
choice-past k h = sym (choice-past-all operations k h)

module _ (job : Operation → WrittenJob) (k : ℕ) (output : List ℕ) (count : ℕ) where
  pub nothing-returned : (chosen : Option Operation) → chosen ≡ choice k → chosen ≡ Option.None → JobReturned job k 2 output output count count
  unfolding chosen_tests verdict
  nothing-returned chosen is e = record {
    text = rw (sym is ∙ e) (record { answer = refl; written = refl });
    counted = rw (sym is ∙ e) (record { answer = refl; written = refl });
  }

  module _ (chosen : Option Operation) (operation : Operation) (is : chosen ≡ choice k) (e : chosen ≡ Some operation)
      (r : Valued) (output' : List ℕ) (written : JobWritten (job operation) r output output') where
    named : choice k ≡ Some operation
    named = sym is ∙ e

    abbrev tests : List Test
    tests = test 2 false ∷ writing_tests (meant (job operation)) (length output)

    positive : Positive tests
    unfolding chosen_tests
    positive = chosen-positive (Some operation) job (length output)

    passed : valued r ≡ verdict tests (length (job_text (job operation)) ∷ [])
    passed = written.answer ∙ sym (verdict-next (test 2 false) _ _ refl)

    pub length-returned : (n : ℕ) → r ≡ Ok n → JobReturned job k 0 output output' count n
    unfolding chosen_tests chosen_text
    length-returned n q = record {
      text = rw named (valued-returned tests positive _ r passed 0 (sym (ap (λ v. number (valued v)) q)) _ output output' written.written);
      counted = rw named (value-returned tests positive _ count n (sym (ap valued q) ∙ passed));
    }

    pub job-refusal-returned : (j : Refusal) → r ≡ Err j → JobReturned job k (number_of j) output output' count count
    unfolding chosen_tests chosen_text
    job-refusal-returned j q = record {
      text = rw named (valued-returned tests positive _ r passed (number_of j) (sym (ap (λ v. number (valued v)) q)) _ output output' written.written);
      counted = rw named (refusal-returned tests positive _ count (number_of j) (sym (ap valued q) ∙ passed));
    }
