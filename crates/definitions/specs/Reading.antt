-- How a job text is read. Each reader takes what its writer writes off the front of some bytes.
--   Front A           got: what a reader took off the front, and what is left;  bad: it does not stand there
--   read_number       a decimal number of at most 4294967295; what follows it is for the next reader
--   read_numbers      numbers with one space between two, or none
--   read_operation    the name of an operation
--   read_line key r   a line with that key whose content r reads
--   read_job t        found, with the written job, if t is of the form, and malformed if not
-- The scope paper, 'The job text'. Assumes nothing.
use Rattle.std.specs.Prelude.{Bool, true, false, ◌&&◌, List, [], ◌∷◌, ℕ, zero, suc, ◌+◌, ◌*◌, ◌-◌, eqb, leb, length}
use Rattle.definitions.specs.Text.{greatest_number, newline, space, nought, modulus_key, a_key}
use Rattle.definitions.specs.Text.{b_key, c_key, operation_key, curve_key, name, WrittenJob}
use Rattle.definitions.specs.declared.Operation.{Operation}

pub data Front (A : Type 0) : Type 0 where
  got : A → List ℕ → Front A
  bad : Front A

pub data Read : Type 0 where
  found : WrittenJob → Read
  malformed : Read

abbrev pub pick : {A : Type 0} → Bool → A → A → A
pick true x y = x
pick false x y = y

-- reading on
abbrev pub then : {A B : Type 0} → Front A → (A → List ℕ → Front B) → Front B
then (got x rest) next = next x rest
then bad next = bad

unfoldable pub read_key : List ℕ → List ℕ → Front (Unit {0})
read_key [] t = got tt t
read_key (k ∷ key) [] = bad
read_key (k ∷ key) (b ∷ t) = pick (eqb b k) (read_key key t) bad

unfoldable pub is_digit : ℕ → Bool
is_digit b = leb nought b && leb b 57

-- the digits that go on a number whose value is x so far
unfoldable pub read_digits : ℕ → List ℕ → Front ℕ
read_digits x [] = got x []
read_digits x (b ∷ t) =
    pick (is_digit b)
    (pick (leb (x * 10 + (b - nought)) greatest_number) (read_digits (x * 10 + (b - nought)) t) bad)
    (got x (b ∷ t))

-- nothing goes on a number that begins with 0
unfoldable pub read_number : List ℕ → Front ℕ
read_number [] = bad
read_number (b ∷ t) = pick (is_digit b) (pick (eqb b nought) (got 0 t) (read_digits (b - nought) t)) bad

abbrev pub put : ℕ → Front (List ℕ) → Front (List ℕ)
put x (got xs rest) = got (x ∷ xs) rest
put x bad = bad

-- after the number x: a space and the next numbers, or no more
unfoldable pub read_on : (List ℕ → Front (List ℕ)) → ℕ → List ℕ → Front (List ℕ)
read_on next x [] = got (x ∷ []) []
read_on next x (b ∷ t) = pick (eqb b space) (put x (next t)) (got (x ∷ []) (b ∷ t))

-- one number or more, at most k
unfoldable pub read_some : ℕ → List ℕ → Front (List ℕ)
read_some zero t = bad
read_some (suc k) t = then (read_number t) (read_on (read_some k))

unfoldable pub read_numbers : List ℕ → Front (List ℕ)
read_numbers [] = got [] []
read_numbers (b ∷ t) = pick (is_digit b) (read_some (length (b ∷ t)) (b ∷ t)) (got [] (b ∷ t))

abbrev pub or_else : {A : Type 0} → A → Front (Unit {0}) → Front A → Front A
or_else x (got u rest) other = got x rest
or_else x bad other = other

unfoldable pub read_operation : List ℕ → Front Operation
read_operation t =
    or_else Operation.Expand (read_key (name Operation.Expand) t)
    (or_else Operation.Adjoint (read_key (name Operation.Adjoint) t)
    (or_else Operation.Decompose (read_key (name Operation.Decompose) t)
    (or_else Operation.Moments (read_key (name Operation.Moments) t)
    (or_else Operation.Norms (read_key (name Operation.Norms) t) bad))))

-- what was read, with the byte 10 that ends its line
unfoldable pub ended : {A : Type 0} → Front A → Front A
ended content = then content (λ x t. then (read_key (newline ∷ []) t) (λ u rest. got x rest))

unfoldable pub read_line : {A : Type 0} → List ℕ → (List ℕ → Front A) → List ℕ → Front A
read_line key content t = then (read_key key t) (λ u rest. ended (content rest))

-- nothing may follow
abbrev pub whole : Front WrittenJob → Read
whole (got w []) = found w
whole (got w (b ∷ t)) = malformed
whole bad = malformed

unfoldable pub read_lines : List ℕ → Front WrittenJob
read_lines t =
    then (read_line modulus_key read_number t) (λ m t₁.
    then (read_line a_key read_numbers t₁) (λ a t₂.
    then (read_line b_key read_numbers t₂) (λ b t₃.
    then (read_line c_key read_numbers t₃) (λ c t₄.
    then (read_line operation_key read_operation t₄) (λ operation t₅.
    then (read_line curve_key read_numbers t₅) (λ curve t₆.
    got (record { modulus = m; a = a; b = b; c = c; operation = operation; curve = curve }) t₆))))))

unfoldable pub read_job : List ℕ → Read
read_job t = whole (read_lines t)
