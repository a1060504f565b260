-- What a job says that is written, or carried out.
--   WritingInput j output       an accepted job, and an output that its text may be written into
--   CarriedInput j output work  an accepted job, and an output and a working list with which the text call carries it out
-- Proved: none of the tests holds (`-passes`), and the verdict is finished (writing-finished), if and only if the input is of that kind.
-- Assumes nothing.
use Rattle.std.specs.Prelude.{◌≡◌, List, ◌↔◌, ℕ, ◌≤◌}
use Rattle.std.proofs.Math.Logic.Iff
use Rattle.definitions.specs.Refusals.{finished, verdict, work_length, value_tests}
use Rattle.definitions.specs.Text.{Job}
use Rattle.definitions.specs.TextCall.{text_output_length, length_tests, size_tests, lengths_of, job_tests}
use Rattle.definitions.specs.JobWriting.{job_output_length, AcceptedJob, writing_tests}
use Rattle.acceptance.specs.Verdicts.{None, verdict-finished, none-append, curve-length-passes, curve-entries-pass}
use Rattle.acceptance.specs.Verdicts.{text-output-passes, work-passes}
use Rattle.acceptance.specs.Acceptance.{family-passes}

-- lengths of output and working list are numbers
pub record WritingInput (j : Job) (output : ℕ) : Type 0 where
  pub job : AcceptedJob j
  pub output_long : job_output_length ≤ output

pub record CarriedInput (j : Job) (output work : ℕ) : Type 0 where
  pub job : AcceptedJob j
  pub output_long : text_output_length ≤ output
  pub work_long : work_length ≤ work

module _ (j : Job) where
  -- the lengths and the values of a job, with the least length of the output for a text
  job-passes : (least output : ℕ)
      → (None (lengths_of j.operation j.family j.curve least output) × None (value_tests j.family j.curve))
      ↔ (AcceptedJob j × (least ≤ output))
  unfolding length_tests value_tests
  job-passes least output =
      let family = family-passes j.family in
      let entries = curve-entries-pass j.family.m j.curve 0 in
      simp (none-append, curve-length-passes, text-output-passes) (
        λ p. (
          record { accepted = family.0 (p.0.0, p.1.0); curve_length = p.0.1.0; curve_below = entries.0 p.1.1.0 },
          p.0.1.1.0,
        ),
        λ p.
            let stages = family.1 p.0.accepted in
            ((stages.0, (p.0.curve_length, (p.1, tt))), (stages.1, (entries.1 p.0.curve_below, tt))),
      )

  pub writing-passes : (output : ℕ) → None (writing_tests j output) ↔ WritingInput j output
  unfolding writing_tests
  writing-passes output = simp (none-append, job-passes) (
    λ p. record { job = p.0; output_long = p.1 },
    λ p. (p.job, p.output_long),
  )

  pub carried-passes : (output work : ℕ) → None (job_tests j output work) ↔ CarriedInput j output work
  unfolding job_tests size_tests
  carried-passes output work =
      let job = job-passes text_output_length output in
      simp (none-append, work-passes) (
        λ p. let passed = job.0 (p.0.0, p.1) in record { job = passed.0; output_long = passed.1; work_long = p.0.1.0 },
        λ p. let passed = job.1 (p.job, p.output_long) in ((passed.0, (p.work_long, tt)), passed.1),
      )

  pub writing-finished : (output : ℕ) (values : List ℕ) → (verdict (writing_tests j output) values ≡ finished values) ↔ WritingInput j output
  writing-finished output values = Iff.trans (verdict-finished (writing_tests j output) values) (writing-passes output)
