-- The three kinds of line, by what the checks of their parts say.
--   ReadAt t f x next         the reader's answer f is x, and what is left of t begins at place next
--   Numbered t f r            what a reader of one number answers
--   Chosen t f r              what a reader of an operation answers
--   operation_line operation  the whole line of an operation
-- Proved: the answers for a line of numbers, of one number, of an operation. Assumes nothing.
use Rattle.std.specs.Prelude.{◌≡◌, refl, Bool, true, false, List, [], ◌∷◌, ◌++◌, ℕ, ◌+◌, ◌≤◌, drop, Option, Some, None}
use Rattle.std.proofs.Common.{sym, ◌∙◌, ap}
use Rattle.std.proofs.Math.Path.{subst⁻¹}
use Rattle.std.proofs.Math.ListN.{length}
use Rattle.definitions.specs.Text.{newline, line, operation_key, name}
use Rattle.definitions.specs.Reading.{Front, got, bad, read_key, read_number, read_numbers, read_operation, ended, read_line}
use Rattle.definitions.specs.declared.Operation.{Operation}
use Rattle.texts.specs.DecimalReading.{got-not-bad}
use Rattle.texts.specs.LinesReading.{read-key, key-read, line-then, read-operation-line, operation-line-read}
use Rattle.reader.specs.Places.{found, placed, opens, NumberAt, number-found, number-missed}
use Rattle.reader.specs.Storing.{Listed}
use Rattle.reader.specs.Keys.{KeyAt, key-found, key-missed, line-none, line-content}
use Rattle.reader.specs.declared.Read.{Read}

pub record ReadAt {A : Type 0} (t : List ℕ) (f : Front A) (x : A) (next : ℕ) : Type 0 where
  pub read : f ≡ got x (drop next t)
  pub inside : next ≤ length t

abbrev pub Numbered : List ℕ → Front ℕ → Option (Read ℕ) → Type 0
Numbered t f (Some r) = ReadAt t f r.value r.next
Numbered t f None = f ≡ bad

abbrev pub Chosen : List ℕ → Front Operation → Option (Read Operation) → Type 0
Chosen t f (Some r) = ReadAt t f r.value r.next
Chosen t f None = f ≡ bad

-- ---- a line of numbers
pub line-listed : (t : List ℕ) (at : ℕ) (key out out' : List ℕ) (r : Option (Read ℕ)) → KeyAt t at key
    → Listed t (ended (read_numbers (drop (at + length key) t))) out out' r → Listed t (read_line key read_numbers (drop at t)) out out' r
line-listed t at key out out' r k = subst⁻¹ (λ f. Listed t f out out' r) (line-content key read_numbers t at k)

-- ---- a line of one number, by what its three checks say
module _ (t : List ℕ) (at : ℕ) (key : List ℕ) (inside : at ≤ length t) (k : Bool) (key_says : k ≡ opens (read_key key (drop at t))) where
  pub number-none : k ≡ false → read_line key read_number (drop at t) ≡ bad
  number-none q = line-none key read_number (drop at t) (key-missed t at key k key_says q)

  module _ (key_there : k ≡ true) (number : Option (Read ℕ)) (number_says : number ≡ placed (length t) (read_number (drop (at + length key) t))) where
    content : read_line key read_number (drop at t) ≡ ended (read_number (drop (at + length key) t))
    content = line-content key read_number t at (key-found t at key k key_says inside key_there)

    pub number-wrong : number ≡ None → read_line key read_number (drop at t) ≡ bad
    unfolding ended
    number-wrong q = rw (content, number-missed t (at + length key) number number_says q)

    module _ (x next : ℕ) (number_there : number ≡ found x next) where
      number_at : NumberAt t (at + length key) x next
      number_at = number-found t (at + length key) number number_says x next number_there

      pub number-inside : next ≤ length t
      number-inside = number_at.inside

      module _ (end : Bool) (end_says : end ≡ opens (read_key (newline ∷ []) (drop next t))) where
        pub number-open : end ≡ false → read_line key read_number (drop at t) ≡ bad
        unfolding ended
        number-open q = rw (content, number_at.read, key-missed t next (newline ∷ []) end end_says q)

        pub number-ended : end ≡ true → ReadAt t (read_line key read_number (drop at t)) x (next + 1)
        unfolding ended
        number-ended q =
            let end_at = key-found t next (newline ∷ []) end end_says number-inside q in
            record { read = rw (content, number_at.read, end_at.read); inside = end_at.inside }

-- ---- the line of an operation: each is compared whole
abbrev pub operation_line : Operation → List ℕ
operation_line operation = line operation_key (name operation) []

module _ (t : List ℕ) (at : ℕ) where
  pub operation-found : (operation : Operation) → KeyAt t at (operation_line operation)
      → ReadAt t (read_line operation_key read_operation (drop at t)) operation (at + length (operation_line operation))
  operation-found operation k =
      let rest = drop (at + length (operation_line operation)) t in
      let text : drop at t ≡ line operation_key (name operation) rest =
      key-read (operation_line operation) (drop at t) tt rest k.read ∙ line-then operation_key (name operation) rest in
      record { read = ap (read_line operation_key read_operation) text ∙ read-operation-line operation rest; inside = k.inside }

  pub operation-missed : ((operation : Operation) → read_key (operation_line operation) (drop at t) ≡ bad)
      → read_line operation_key read_operation (drop at t) ≡ bad
  operation-missed none = cases (read_line operation_key read_operation (drop at t)) refl
    where
      cases : (f : Front Operation) → read_line operation_key read_operation (drop at t) ≡ f → f ≡ bad
      cases (got operation rest) e =
          let text : drop at t ≡ operation_line operation ++ rest =
          operation-line-read (drop at t) operation rest e ∙ sym (line-then operation_key (name operation) rest) in
          let read : read_key (operation_line operation) (drop at t) ≡ got tt rest =
          ap (read_key (operation_line operation)) text ∙ read-key (operation_line operation) rest in
          absurd (got-not-bad (sym (none operation) ∙ read))
      cases bad e = refl

-- what is said of each operation is said of all
pub each-operation : (P : Operation → Type 0)
    → P Operation.Expand → P Operation.Adjoint → P Operation.Decompose → P Operation.Moments → P Operation.Norms
    → (operation : Operation) → P operation
each-operation P e a d m n Operation.Expand = e
each-operation P e a d m n Operation.Adjoint = a
each-operation P e a d m n Operation.Decompose = d
each-operation P e a d m n Operation.Moments = m
each-operation P e a d m n Operation.Norms = n
