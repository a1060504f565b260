-- How long a job text is.
--   longest_job  the bytes of the longest: mod= with ten digits has 15, each of a=, b= and c= with 127 numbers of ten digits 1,399,
--                op=decompose 13, and v= with 128 such numbers 1,410
-- Proved: the text of a writable job of at most 127 rows and 128 numbers for its curve has no more (length-job). Assumes nothing.
use Rattle.std.specs.Prelude.{◌≡◌, ℕ, suc, ◌+◌, ◌≤◌, length}
use mathlib.Core.List.{[]}
use native.Mathlib.Omega.{arith}
use Rattle.definitions.specs.Family.{most_rows}
use Rattle.definitions.specs.Text.{decimal, numbers, line, modulus_key, a_key, b_key, c_key, operation_key, curve_key, name}
use Rattle.definitions.specs.Text.{WrittenJob, Writable, job_text}
use Rattle.texts.specs.Decimal.{length-decimal}
use Rattle.texts.specs.AnswerTexts.{length-line, length-name, length-numbers}

abbrev pub longest_job : ℕ
longest_job = 5635

module _ (w : WrittenJob) where
  -- the six keys have 15 bytes, and each line has its byte 10
  length-job_text : length (job_text w) ≡ length (decimal w.modulus) + length (numbers w.a) + length (numbers w.b)
      + length (numbers w.c) + length (name w.operation) + length (numbers w.curve) + 21
  unfolding job_text
  length-job_text =
      let t₅ = line curve_key (numbers w.curve) [] in
      let t₄ = line operation_key (name w.operation) t₅ in
      let t₃ = line c_key (numbers w.c) t₄ in
      let t₂ = line b_key (numbers w.b) t₃ in
      let t₁ = line a_key (numbers w.a) t₂ in
      omega (
        arith,
        length-line modulus_key (decimal w.modulus) t₁,
        length-line a_key (numbers w.a) t₂,
        length-line b_key (numbers w.b) t₃,
        length-line c_key (numbers w.c) t₄,
        length-line operation_key (name w.operation) t₅,
        length-line curve_key (numbers w.curve) [],
      )

  pub length-job : Writable w → length w.a ≤ most_rows → length w.b ≤ most_rows → length w.c ≤ most_rows
      → length w.curve ≤ suc most_rows → length (job_text w) ≤ longest_job
  length-job h a b c u = omega (
    arith,
    length-job_text,
    length-decimal w.modulus h.modulus,
    length-numbers w.a h.a,
    length-numbers w.b h.b,
    length-numbers w.c h.c,
    length-name w.operation,
    length-numbers w.curve h.curve,
  )
