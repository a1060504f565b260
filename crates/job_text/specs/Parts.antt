-- The job text in the parts in which it is put into an output.
--   row_lines a b c rest       the lines of the rows, and then what follows;  rows_room  the most bytes of the lines
--   family_lines m a b c rest  the line of the modulus before these;  family_room  the most bytes of the four
--   request_lines op u         the lines of the operation and of the curve;  request_room  the most bytes of them
--   JobRoom out a b c u        the output has the 8,192 bytes that a job is lent, the lists at most 127 and 128 numbers
--   TextWritten w r old new r is the length of the job text, at most 8,192, and new is that text and then what old held
-- Proved: the rows from their three lines, the family from these and its first, what is asked from its two, and the whole text from its
-- parts. Assumes nothing.
use Rattle.std.specs.Prelude.{◌≡◌, List, [], ◌++◌, ℕ, suc, ◌+◌, ◌*◌, ◌≤◌, length}
use Rattle.std.proofs.Common.{◌∙◌, ap, arith}
use Rattle.definitions.specs.Family.{most_rows}
use Rattle.definitions.specs.Text.{decimal, numbers, line, modulus_key, a_key, b_key, c_key, operation_key, curve_key, name}
use Rattle.definitions.specs.Text.{WrittenJob, job_text}
use Rattle.definitions.specs.JobWriting.{job_output_length, written_job}
use Rattle.definitions.specs.declared.Operation.{Operation}
use Rattle.texts.specs.LinesReading.{lines_then}
use Rattle.writer.specs.Putting.{Put, Written, put-length, put_then, put_as, put_front}
use Rattle.writer.specs.Lines.{line_room, put-line-then}

abbrev numbers_room : List ℕ → List ℕ → ℕ
numbers_room key xs = line_room key (11 * length xs)

unfoldable pub row_lines : List ℕ → List ℕ → List ℕ → List ℕ → List ℕ
row_lines a b c rest = line a_key (numbers a) (line b_key (numbers b) (line c_key (numbers c) rest))

abbrev pub rows_room : List ℕ → List ℕ → List ℕ → ℕ
rows_room a b c = numbers_room a_key a + (numbers_room b_key b + numbers_room c_key c)

unfoldable pub family_lines : ℕ → List ℕ → List ℕ → List ℕ → List ℕ → List ℕ
family_lines m a b c rest = line modulus_key (decimal m) (row_lines a b c rest)

abbrev pub family_room : List ℕ → List ℕ → List ℕ → ℕ
family_room a b c = line_room modulus_key 10 + rows_room a b c

unfoldable pub request_lines : Operation → List ℕ → List ℕ
request_lines operation u = line operation_key (name operation) (line curve_key (numbers u) [])

abbrev pub request_room : List ℕ → ℕ
request_room u = line_room operation_key 9 + numbers_room curve_key u

rows_then : (a b c rest : List ℕ) → row_lines a b c [] ++ rest ≡ row_lines a b c rest
unfolding row_lines
rows_then a b c rest =
    lines_then a_key (numbers a) _ rest
    ∙ ap (line a_key (numbers a)) (lines_then b_key (numbers b) _ rest
    ∙ ap (line b_key (numbers b)) (lines_then c_key (numbers c) [] rest))

family-then : (m : ℕ) (a b c rest : List ℕ) → family_lines m a b c [] ++ rest ≡ family_lines m a b c rest
unfolding family_lines
family-then m a b c rest = lines_then modulus_key (decimal m) _ rest ∙ ap (line modulus_key (decimal m)) (rows_then a b c rest)

-- ---- the rows: the output and the place after the lines of a, of b and of c
module _ (old : List ℕ) (at : ℕ) (a b c : List ℕ) (room : at + rows_room a b c ≤ length old)
    (out₁ : List ℕ) (at₁ : ℕ) (p₁ : Put old at (line a_key (numbers a) []) (numbers_room a_key a) out₁ at₁) where
  after-a : length out₁ ≡ length old
  after-a = put-length old at _ _ out₁ at₁ p₁ (omega arith)

  b-fits : at₁ + numbers_room b_key b ≤ length out₁
  b-fits = omega (arith, after-a, p₁.place, p₁.short)

  module _ (out₂ : List ℕ) (at₂ : ℕ) (p₂ : Put out₁ at₁ (line b_key (numbers b) []) (numbers_room b_key b) out₂ at₂) where
    pub put-rows : (out₃ : List ℕ) (at₃ : ℕ) → Put out₂ at₂ (line c_key (numbers c) []) (numbers_room c_key c) out₃ at₃
        → Put old at (row_lines a b c []) (rows_room a b c) out₃ at₃
    unfolding row_lines
    put-rows out₃ at₃ p₃ =
        put-line-then old at _ _ _ out₁ at₁ p₁ (omega arith) _ _ out₃ at₃
        (put-line-then out₁ at₁ _ _ _ out₂ at₂ p₂ b-fits _ _ out₃ at₃ p₃)

-- ---- the family
module _ (old : List ℕ) (at m : ℕ) (a b c : List ℕ) (room : at + family_room a b c ≤ length old)
    (out₁ : List ℕ) (at₁ : ℕ) (p₁ : Put old at (line modulus_key (decimal m) []) (line_room modulus_key 10) out₁ at₁) where
  pub put-family : (out₂ : List ℕ) (at₂ : ℕ) → Put out₁ at₁ (row_lines a b c []) (rows_room a b c) out₂ at₂
      → Put old at (family_lines m a b c []) (family_room a b c) out₂ at₂
  unfolding family_lines
  put-family out₂ at₂ p₂ = put-line-then old at _ _ _ out₁ at₁ p₁ (omega arith) _ _ out₂ at₂ p₂

-- ---- what is asked
module _ (old : List ℕ) (at : ℕ) (operation : Operation) (u : List ℕ) (room : at + request_room u ≤ length old)
    (out₁ : List ℕ) (at₁ : ℕ) (p₁ : Put old at (line operation_key (name operation) []) (line_room operation_key 9) out₁ at₁) where
  pub put-request : (out₂ : List ℕ) (at₂ : ℕ) → Put out₁ at₁ (line curve_key (numbers u) []) (numbers_room curve_key u) out₂ at₂
      → Put old at (request_lines operation u) (request_room u) out₂ at₂
  unfolding request_lines
  put-request out₂ at₂ p₂ = put-line-then old at _ _ _ out₁ at₁ p₁ (omega arith) _ _ out₂ at₂ p₂

-- ---- the text
pub record JobRoom (out a b c u : List ℕ) : Type 0 where
  pub long : job_output_length ≤ length out
  pub a_few : length a ≤ most_rows
  pub b_few : length b ≤ most_rows
  pub c_few : length c ≤ most_rows
  pub curve_few : length u ≤ suc most_rows

abbrev pub TextWritten : WrittenJob → ℕ → List ℕ → List ℕ → Type 0
TextWritten w r old new = Written (job_text w) job_output_length r old new

module _ (old : List ℕ) (m : ℕ) (a b c : List ℕ) (operation : Operation) (u : List ℕ) (room : JobRoom old a b c u)
    (out₁ : List ℕ) (at₁ : ℕ) (p₁ : Put old 0 (family_lines m a b c []) (family_room a b c) out₁ at₁) where
  family-fits : 0 + family_room a b c ≤ length old
  family-fits = omega (arith, room.long, room.a_few, room.b_few, room.c_few)

  pub text-written : (new : List ℕ) (r : ℕ) → Put out₁ at₁ (request_lines operation u) (request_room u) new r
      → TextWritten (written_job m a b c operation u) r old new
  unfolding job_text family_lines row_lines request_lines
  text-written new r p₂ =
      let rest = request_lines operation u in
      let whole = put_then old 0 (family_lines m a b c []) (family_room a b c) out₁ at₁ p₁ rest (request_room u) new r family-fits p₂ in
      let named = put_as old 0 _ _ new r whole (family_lines m a b c rest) (family_room a b c + request_room u) (family-then m a b c rest)
      (omega arith) in
      put_front old _ _ new r named job_output_length (omega (arith, room.a_few, room.b_few, room.c_few, room.curve_few))
