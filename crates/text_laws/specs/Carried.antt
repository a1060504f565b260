-- What is written is read back and carried out, and what is carried out is written so.
-- Proved, of an accepted job: each of its numbers can be written (job-writable), its text is read as that job (written_read), is not too
-- long (written-within), and the text call that is lent enough finishes on it (written-carried) and answers with its operation's result
-- (written-reply). A job of 32-bit numbers is written exactly if its text is carried out (written-exactly), and a text that is carried out
-- is what is written of its own lists (carried-comes-back). Assumes nothing.
use Rattle.std.specs.Prelude.{◌≡◌, refl, false, List, ◌↔◌, ℕ, ◌<◌, ◌≤◌, length, get_or}
use Rattle.std.proofs.Common.{sym, subst, true≢false, arith}
use Rattle.std.proofs.Math.Path.{ap}
use Rattle.std.proofs.Math.Logic.Iff
use borrow.Author.Tests.{le-ltb}
use Rattle.definitions.specs.Family.{Family, Accepted, row_at, rows}
use Rattle.definitions.specs.JobWriting.{job_output_length, AcceptedJob, writing_tests}
use Rattle.definitions.specs.Reading.{Read, found, malformed, read_job}
use Rattle.definitions.specs.Refusals.{work_length}
use Rattle.definitions.specs.Text.{WrittenJob, AllWritable, Writable, meant, job_text}
use Rattle.definitions.specs.TextCall.{most_bytes, text_output_length, text_length_test, job_tests, form_tests, text_tests, reply_to, reply}
use Rattle.numbers.specs.Lists.{get_or-default}
use Rattle.texts.specs.AnswerTexts.{all-writable}
use Rattle.texts.specs.JobTexts.{longest_job, length-job}
use Rattle.texts.specs.Texts.{JobOf, read-job, job_read}
use Rattle.acceptance.specs.Jobs.{CarriedInput, writing-passes, carried-passes}
use Rattle.acceptance.specs.Verdicts.{None}
use Rattle.verdicts.specs.Sizes.{curve-few}
use Rattle.text_laws.specs.Laws.{answer_to}

-- ---- each number of the job can be written
module _ (w : WrittenJob) (job : AcceptedJob (meant w)) where
  abbrev f : Family
  f = (meant w).family

  acc : Accepted f
  acc = job.accepted

  -- a list of numbers below the modulus; d: the default by which its entries are read
  below-writable : (xs : List ℕ) (d : ℕ) → ((i : ℕ) → i < length xs → get_or xs i d < w.modulus) → AllWritable xs
  below-writable xs d below = all-writable xs (λ i h.
      let g : get_or xs i 0 < w.modulus = subst (λ x. x < w.modulus) (get_or-default xs i d 0 h) (below i h) in
      omega (arith, acc.modulus.greatest))

  pub job-writable : Writable w
  unfolding row_at
  job-writable = record {
    modulus = omega (arith, acc.modulus.greatest);
    a = below-writable w.a 1 (λ i h. (acc.below i (omega arith)).a_below);
    b = below-writable w.b 1 (λ i h. (acc.below i (omega (arith, acc.b_length))).b_below);
    c = below-writable w.c 1 (λ i h. (acc.below i (omega (arith, acc.c_length))).c_below);
    curve = below-writable w.curve 0 job.curve_below;
  }

  pub written_read : read_job (job_text w) ≡ found w
  written_read = read-job w job-writable

  pub written-within : length (job_text w) ≤ longest_job
  written-within =
      let few = acc.row_count in
      length-job w job-writable few (omega (arith, acc.b_length)) (omega (arith, acc.c_length))
      (omega (arith, job.curve_length, curve-few w.operation (rows f)))

  pub written-reply : reply (job_text w) ≡ answer_to w
  unfolding reply reply_to
  written-reply = ap reply_to written_read

-- ---- the tests of the text call on what is written
module _ (w : WrittenJob) (output work : ℕ) where
  found-passes : (r : Read) → r ≡ found w → None (form_tests r output work) ↔ None (job_tests (meant w) output work)
  unfolding form_tests
  found-passes r e = rw e (λ n. n.1, λ n. (refl, n))

  text-passes : read_job (job_text w) ≡ found w
      → None (text_tests (job_text w) output work) ↔ (((text_length_test (length (job_text w))).holds ≡ false) × CarriedInput (meant w) output work)
  unfolding text_tests
  text-passes e =
      let form = Iff.trans (found-passes (read_job (job_text w)) e) (carried-passes (meant w) output work) in
      (λ n. (n.0, form.0 n.1), λ p. (p.0, form.1 p.1))

  pub written-carried : AcceptedJob (meant w) → text_output_length ≤ output → work_length ≤ work → None (text_tests (job_text w) output work)
  unfolding text_length_test
  written-carried job o l = (text-passes (written_read w job)).1 (
    le-ltb most_bytes (length (job_text w)) (omega (arith, written-within w job)),
    record { job = job; output_long = o; work_long = l },
  )

module _ (w : WrittenJob) where
  carried-written : Writable w → None (text_tests (job_text w) text_output_length work_length) → None (writing_tests (meant w) job_output_length)
  carried-written h n =
      let carried = ((text-passes w text_output_length work_length (read-job w h)).0 n).1 in
      (writing-passes (meant w) job_output_length).1 (record { job = carried.job; output_long = omega arith })

  pub written-exactly : Writable w
      → None (writing_tests (meant w) job_output_length) ↔ None (text_tests (job_text w) text_output_length work_length)
  written-exactly h = (
    λ n. written-carried w text_output_length work_length ((writing-passes (meant w) job_output_length).0 n).job (omega arith) (omega arith),
    carried-written h,
  )

-- ---- a text that is carried out
pub record ComesBack (t : List ℕ) : Type 0 where
  pub job : WrittenJob
  pub read : read_job t ≡ found job
  pub passes : None (writing_tests (meant job) job_output_length)
  pub text : job_text job ≡ t

pub carried-comes-back : (t : List ℕ) → None (text_tests t text_output_length work_length) → ComesBack t
unfolding text_tests form_tests
carried-comes-back t n = at (read_job t) refl n.1
  where
    at : (r : Read) → read_job t ≡ r → None (form_tests r text_output_length work_length) → ComesBack t
    at malformed e none = absurd (true≢false none.0)
    at (found w) e none =
        let is : JobOf t w = job_read t w e in
        let same = subst (λ s. None (text_tests s text_output_length work_length)) (sym is.text) n in
        record { job = w; read = e; passes = carried-written w is.writable same; text = is.text }
