-- Lines put into an output.
--   line_room key most  the most bytes of a line with that key and a content of at most `most`
-- Proved: a line from its key, its content and byte 10; the line of each operation; a line and then what follows it, so that a text
-- is put line by line (put-line-then). Assumes nothing.
use Rattle.std.specs.Prelude.{◌≡◌, ℕ, ◌+◌, ◌<◌, ◌≤◌, length, set}
use Rattle.std.proofs.Common.{sym, ap, arith}
use mathlib.Core.List.{List, [], ◌∷◌, ◌++◌, append_assoc}
use Rattle.definitions.specs.Text.{newline, line, operation_key, name}
use Rattle.definitions.specs.declared.Operation.{Operation}
use Rattle.texts.specs.AnswerTexts.{length-line, length-name}
use Rattle.texts.specs.LinesReading.{line-then}
use Rattle.writer.specs.Putting.{Put, put_one, put-length, put_then, put_as}

abbrev pub line_room : List ℕ → ℕ → ℕ
line_room key most = length key + most + 1

-- the output after the key and after the content, and the places after them
module _ (old : List ℕ) (at : ℕ) (key : List ℕ) (content : List ℕ) (most : ℕ) (room : at + line_room key most ≤ length old)
    (out₁ : List ℕ) (at₁ : ℕ) (p₁ : Put old at key (length key) out₁ at₁)
    (out₂ : List ℕ) (at₂ : ℕ) (p₂ : Put out₁ at₁ content most out₂ at₂) where
  open-line : Put old at (key ++ content) (length key + most) out₂ at₂
  open-line = put_then old at key (length key) out₁ at₁ p₁ content most out₂ at₂ (omega arith) p₂

  last_fits : at₂ < length out₂
  last_fits = omega (arith, put-length old at _ _ out₂ at₂ open-line (omega arith), open-line.place, open-line.short)

  parts : (key ++ content) ++ newline ∷ [] ≡ line key content []
  unfolding line
  parts = append_assoc key content (newline ∷ [])

  pub put_ended : Put old at (line key content []) (line_room key most) (set out₂ at₂ newline) (at₂ + 1)
  put_ended =
      let q = put_then old at _ _ out₂ at₂ open-line (newline ∷ []) 1 _ _ (omega arith) (put_one out₂ at₂ newline last_fits) in
      put_as old at _ _ _ _ q (line key content []) (line_room key most) parts (omega arith)

pub put-named : (old : List ℕ) (at : ℕ) (new : List ℕ) (next : ℕ) (operation o : Operation) → operation ≡ o
    → Put old at (line operation_key (name o) []) (length (line operation_key (name o) [])) new next
    → Put old at (line operation_key (name operation) []) (line_room operation_key 9) new next
put-named old at new next operation o e p =
    put_as old at (line operation_key (name o) []) _ new next p (line operation_key (name operation) []) (line_room operation_key 9)
    (ap (λ a. line operation_key (name a) []) (sym e)) (omega (arith, length-line operation_key (name o) [], length-name o))

pub put-line-then : (old : List ℕ) (at : ℕ) (key content : List ℕ) (most : ℕ) (mid : List ℕ) (next : ℕ)
    → Put old at (line key content []) most mid next → at + most ≤ length old
    → (rest : List ℕ) (more : ℕ) (new : List ℕ) (next' : ℕ) → Put mid next rest more new next'
    → Put old at (line key content rest) (most + more) new next'
put-line-then old at key content most mid next p h rest more new next' q =
    put_as old at _ _ new next' (put_then old at _ most mid next p rest more new next' h q) (line key content rest) (most + more)
    (line-then key content rest) (omega arith)
