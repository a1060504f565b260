-- How long an answer text is.
-- Proved: a list whose entries are 32-bit numbers can be written; its text has at most 11 bytes for each number, less one; an answer text
-- of at most 255 such numbers has at most 4,096 bytes (length-answer), so the least output has room for every answer.
-- Assumes nothing.
use Rattle.std.specs.Prelude.{◌≡◌, ℕ, suc, ◌+◌, ◌*◌, ◌-◌, ◌<◌, ◌≤◌, length, get_or}
use Rattle.std.proofs.Common.{◌∙◌, ap, arith, length-append}
use mathlib.Core.List.{List, [], ◌∷◌, ◌++◌}
use Rattle.definitions.specs.Text.{greatest_number, newline, decimal, spaced, numbers, line, operation_key, result_key, name, answer_text}
use Rattle.definitions.specs.Text.{AllWritable}
use Rattle.definitions.specs.TextCall.{text_output_length}
use Rattle.definitions.specs.declared.Operation.{Operation}
use Rattle.texts.specs.Decimal.{length-decimal}

pub all-writable : (xs : List ℕ) → ((i : ℕ) → i < length xs → get_or xs i 0 ≤ greatest_number) → AllWritable xs
all-writable [] h = tt
all-writable (x ∷ xs) h = (h 0 (omega arith), all-writable xs (λ i l. h (suc i) (omega arith)))

length-spaced : (xs : List ℕ) → AllWritable xs → length (spaced xs) ≤ 11 * length xs
unfolding spaced
length-spaced [] h = omega arith
length-spaced (x ∷ xs) h = omega (arith, length-append (decimal x) (spaced xs), length-decimal x h.0, length-spaced xs h.1)

pub length-numbers : (xs : List ℕ) → AllWritable xs → length (numbers xs) ≤ 11 * length xs - 1
unfolding numbers
length-numbers [] h = omega arith
length-numbers (x ∷ xs) h = omega (arith, length-append (decimal x) (spaced xs), length-decimal x h.0, length-spaced xs h.1)

pub length-line : (key content rest : List ℕ) → length (line key content rest) ≡ length key + length content + 1 + length rest
unfolding line
length-line key content rest =
    length-append key (content ++ newline ∷ rest) ∙ ap (λ n. length key + n) (length-append content (newline ∷ rest)) ∙ (omega arith)

pub length-name : (operation : Operation) → length (name operation) ≤ 9
unfolding name
length-name Operation.Expand = omega arith
length-name Operation.Adjoint = omega arith
length-name Operation.Decompose = omega arith
length-name Operation.Moments = omega arith
length-name Operation.Norms = omega arith

module _ (operation : Operation) (xs : List ℕ) where
  length-answer_text : length (answer_text operation xs) ≡ length (name operation) + length (numbers xs) + 9
  unfolding answer_text
  length-answer_text =
      let rest = line result_key (numbers xs) [] in
      omega (arith, length-line operation_key (name operation) rest, length-line result_key (numbers xs) [])

  pub length-answer : length xs ≤ 255 → AllWritable xs → length (answer_text operation xs) ≤ text_output_length
  length-answer few h = omega (arith, length-answer_text, length-name operation, length-numbers xs h)
