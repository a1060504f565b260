-- From the promises of the two calls to the law over them.
-- Proved: what is promised where the first call refuses (write-refused) and where it finishes, so that the second is made on the very bytes
-- that it wrote (text-front, write-answered). These rest on the law of specs/, which an edit changes. Assumes nothing.
use Rattle.std.specs.Prelude.{◌≡◌, refl, List, [], ◌∷◌, ◌++◌, ℕ, ◌≤◌, length, take, drop, Ok, Err}
use Rattle.std.proofs.Common.{sym, ◌∙◌, ap, subst, arith, length-append, take_at}
use Rattle.definitions.specs.Answers.{Valued, number_of, valued, after, cleared}
use Rattle.definitions.specs.JobWriting.{AcceptedJob, JobWritten}
use Rattle.definitions.specs.Reading.{read_job}
use Rattle.definitions.specs.Refusals.{Test, finished, refused, verdict}
use Rattle.definitions.specs.Text.{WrittenJob, meant, job_text}
use Rattle.definitions.specs.TextCall.{reply, TextConverted}
use Rattle.acceptance.specs.Given.{revalued}
use Rattle.acceptance.specs.Jobs.{writing-finished}
use Rattle.acceptance.specs.Stages.{all-remain, none-remain}
use Rattle.acceptance.specs.Verdicts.{None, with_values, refused-not-finished, verdict-finished, verdict-stops}
use Rattle.text_laws.specs.Laws.{CarriedOutInput, CarriedOut, write_tests, answer_tests, WrittenAndAnswered}
use Rattle.text_laws.specs.Carried.{written_read, written-reply, written-carried}
use Rattle.definitions.specs.declared.Refusal.{Refusal}

-- first: the answer of the call that writes; text': what it left
module _ (w : WrittenJob) (text output work : List ℕ) (first : Valued) (text' : List ℕ) (call : JobWritten w first text text') where
  abbrev tests : List Test
  tests = write_tests w text output work

  abbrev long : ℕ
  long = length (job_text w)

  abbrev sheet : List ℕ
  sheet = job_text w ++ drop long text

  -- what is written is an accepted job
  written-only : verdict tests [] ≡ finished [] → AcceptedJob (meant w)
  written-only e = ((writing-finished (meant w) (length text) []).0 e).job

  pub write-refused : (k : Refusal) → first ≡ Err k → (r : Valued) → r ≡ first → WrittenAndAnswered w text output work r text' output work
  write-refused k q r is =
      let no : verdict tests (long ∷ []) ≡ refused (number_of k) = sym call.answer ∙ ap valued q in
      let none : verdict tests [] ≡ refused (number_of k) = revalued tests (long ∷ []) [] ∙ ap (with_values []) no in
      rw (is ∙ q) (record {
        answer = sym (verdict-stops (answer_tests w text output work) _ tests (long ∷ []) (number_of k) no);
        text_is = call.written ∙ ap (λ v. after (valued v) sheet text) q ∙ sym (ap (λ v. after v sheet text) none);
        written = refl;
        wiped = refl;
        only = written-only;
        holds = λ input. absurd (refused-not-finished (number_of k) [] (sym none ∙ (writing-finished (meant w) (length text) []).1
            (record { job = input.job; output_long = input.text_long })));
      })

  module _ (n : ℕ) (q : first ≡ Ok n) where
    told : verdict tests (long ∷ []) ≡ finished (long ∷ [])
    told = revalued tests (long ∷ []) (long ∷ []) ∙ ap (with_values (long ∷ [])) (sym call.answer ∙ ap valued q)

    n-is : n ≡ long
    n-is = let same : finished (n ∷ []) ≡ finished (long ∷ []) = sym (ap valued q) ∙ call.answer ∙ told in cc

    none : None tests
    none = (verdict-finished tests (long ∷ [])).0 told

    sheet-is : text' ≡ sheet
    sheet-is = call.written ∙ ap (λ v. after (valued v) sheet text) q

    pub text-inside : n ≤ length text'
    text-inside = omega (arith, n-is, ap length sheet-is ∙ length-append (job_text w) (drop long text))

    pub text-front : take n text' ≡ job_text w
    text-front = ap (take n) sheet-is ∙ take_at (job_text w) (drop long text) n (sym n-is)

    module _ (r : Valued) (output' work' : List ℕ) (answered : TextConverted (take n text') r output output' work work') where
      second : TextConverted (job_text w) r output output' work work'
      second = subst (λ t. TextConverted t r output output' work work') text-front answered

      carried : CarriedOutInput w text output work → CarriedOut w r text text' output output' work work'
      carried input =
          let values = length (reply (job_text w)) ∷ [] in
          let is = written-reply w input.job in
          let passes = written-carried w (length output) (length work) input.job input.output_long input.work_long in
          let finishes : valued r ≡ finished values = second.answer ∙ (verdict-finished (answer_tests w text output work) values).1 passes in
          record {
            writes = (verdict-finished tests []).1 none;
            finishes = finishes ∙ ap (λ t. finished (length t ∷ [])) is;
            text_is = sheet-is;
            read_back = ap (λ k. read_job (take k text')) (sym n-is) ∙ ap read_job text-front ∙ written_read w input.job;
            answer_is = second.written ∙ ap (λ v. after v (reply (job_text w) ++ drop (length (reply (job_text w))) output) output) finishes
                ∙ ap (λ t. t ++ drop (length t) output) is;
            wiped = second.wiped ∙ ap (λ v. after v (cleared work) work) finishes;
          }

      pub write-answered : WrittenAndAnswered w text output work r text' output' work'
      write-answered = record {
        answer = second.answer ∙ (none-remain tests (answer_tests w text output work) all-remain none).same _;
        text_is = sheet-is ∙ sym (ap (λ v. after v sheet text) ((verdict-finished tests []).1 none));
        written = second.written;
        wiped = second.wiped;
        only = written-only;
        holds = carried;
      }
