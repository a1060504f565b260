-- The call that writes a job, at each place where it answers.
-- Proved: where a test holds nothing is written (job-refused); where none does the output has room for the text (job-room), and the text
-- that is put there is what the call promises (job-written). Assumes nothing.
use Rattle.std.specs.Prelude.{List, [], ◌∷◌, ◌++◌, ◌≡◌, refl, ℕ, length, drop, Ok, Err}
use Rattle.std.proofs.Common.{sym, ◌∙◌, ap, arith}
use Rattle.definitions.specs.Answers.{Answer, Valued, number_of, answered}
use Rattle.definitions.specs.Family.{rows}
use Rattle.definitions.specs.JobWriting.{AcceptedJob, writing_tests, JobWritten}
use Rattle.definitions.specs.Refusals.{Test, finished, refused, verdict}
use Rattle.definitions.specs.Text.{WrittenJob, meant, job_text}
use Rattle.acceptance.specs.Jobs.{WritingInput, writing-passes}
use Rattle.acceptance.specs.Stages.{stage-none}
use Rattle.acceptance.specs.Verdicts.{None, verdict-finished, with_values, verdict-values}
use Rattle.verdicts.specs.Sizes.{curve-few}
use Rattle.job_text.specs.Parts.{JobRoom, TextWritten}
use Rattle.definitions.specs.declared.Refusal.{Refusal}

module _ (w : WrittenJob) (output : List ℕ) (tested : Answer) where
  abbrev tests : List Test
  tests = writing_tests (meant w) (length output)

  module _ (says : answered tested ≡ verdict tests []) where
    pub job-refused : (k : Refusal) → tested ≡ Err k → (r : Valued) → r ≡ Err k → JobWritten w r output output
    job-refused k q r is =
        let no : refused (number_of k) ≡ verdict tests (length (job_text w) ∷ []) =
        sym (verdict-values (length (job_text w) ∷ []) tests ∙ ap (with_values (length (job_text w) ∷ [])) (sym says ∙ ap answered q)) in
        rw is (record { answer = no; written = refl })

    module _ (q : tested ≡ Ok tt) where
      none : None tests
      none = stage-none tests tested says q

      input : WritingInput (meant w) (length output)
      input = (writing-passes (meant w) (length output)).0 none

      pub job-room : JobRoom output w.a w.b w.c w.curve
      job-room =
          let job : AcceptedJob (meant w) = input.job in
          let few = job.accepted.row_count in
          record {
            long = input.output_long;
            a_few = few;
            b_few = omega (arith, job.accepted.b_length);
            c_few = omega (arith, job.accepted.c_length);
            curve_few = omega (arith, job.curve_length, curve-few w.operation (rows (meant w).family));
          }

      pub job-written : (n : ℕ) (output' : List ℕ) → TextWritten w n output output' → JobWritten w (Ok n) output output'
      job-written n output' p = record {
        answer = ap (λ k. finished (k ∷ [])) p.answer ∙ sym ((verdict-finished tests _).1 none);
        written = p.written ∙ ap (λ k. job_text w ++ drop k output) p.answer;
      }
