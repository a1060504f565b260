-- Keys, keyed lines and the names of the operations, written and read.
--   NumberLine t key x rest     t begins with a line of that key and the 32-bit number x
--   NumbersLine t key xs rest   t begins with a line of that key and the 32-bit numbers xs
-- Proved of each layer: what is written is read back (read-), and what is read stood there so written (-read); what follows a line
-- is put after it (line-then), or after it and other lines (lines_then).
-- Assumes nothing.
use Rattle.std.specs.Prelude.{◌≡◌, Bool, true, false, List, [], ◌∷◌, ◌++◌, ℕ, ◌≤◌, eqb}
use Rattle.std.proofs.Math.Path.{refl, ap}
use Rattle.std.proofs.Common.{◌∙◌, append_assoc, eq-eqb, eqb-true}
use Rattle.definitions.specs.Text.{greatest_number, newline, decimal, numbers, line, operation_key, name, AllWritable}
use Rattle.definitions.specs.Reading.{Front, got, bad, pick, then, read_key, read_number, read_numbers, or_else, read_operation, ended}
use Rattle.definitions.specs.Reading.{read_line}
use Rattle.definitions.specs.declared.Operation.{Operation}
use Rattle.texts.specs.DecimalReading.{got-not-bad, read-decimal, decimal-read}
use Rattle.texts.specs.NumbersReading.{then-got, newline-no-digit, read-numbers, numbers-read}

pub read-key : (key t : List ℕ) → read_key key (key ++ t) ≡ got tt t
unfolding read_key
read-key [] t = refl
read-key (k ∷ key) t = rw (eq-eqb k k refl) (read-key key t)

pub key-read : (key t : List ℕ) (u : Unit {0}) (rest : List ℕ) → read_key key t ≡ got u rest → t ≡ key ++ rest
unfolding read_key
key-read [] t u rest e = cc
key-read (k ∷ key) [] u rest e = absurd (got-not-bad e)
key-read (k ∷ key) (b ∷ t) u rest e = split (eqb b k) refl (key-read key t u rest) e
  where
    split : (s : Bool) → eqb b k ≡ s → (read_key key t ≡ got u rest → t ≡ key ++ rest)
        → pick s (read_key key t) bad ≡ got u rest → b ∷ t ≡ k ∷ (key ++ rest)
    split true s next e =
        let same : b ≡ k = eqb-true b k s in
        let text = next e in
        cc
    split false s next e = absurd (got-not-bad e)

-- ---- a line, whatever its content
pub lines_then : (key content lines rest : List ℕ) → line key content lines ++ rest ≡ line key content (lines ++ rest)
unfolding line
lines_then key content lines rest =
    append_assoc key (content ++ newline ∷ lines) rest ∙ ap (λ q. key ++ q) (append_assoc content (newline ∷ lines) rest)

pub line-then : (key content rest : List ℕ) → line key content [] ++ rest ≡ line key content rest
line-then key content rest = lines_then key content [] rest

ended-got : {A : Type 0} (r : Front A) (x : A) (rest : List ℕ) → ended r ≡ got x rest → r ≡ got x (newline ∷ rest)
unfolding ended
ended-got r x rest e =
    let g = then-got r (λ y t. then (read_key (newline ∷ []) t) (λ u q. got y q)) x rest e in
    let h = then-got (read_key (newline ∷ []) g.1) (λ u q. got g.0 q) x rest g.3 in
    let text : g.1 ≡ newline ∷ h.1 = key-read (newline ∷ []) g.1 h.0 h.1 h.2 in
    g.2 ∙ ap (got g.0) text ∙ same h.3
  where
    same : {A : Type 0} {x y : A} {p q : List ℕ} → got x p ≡ got y q → got x (newline ∷ p) ≡ got y (newline ∷ q)
    same e = cc

module _ {A : Type 0} (key : List ℕ) (content : List ℕ → Front A) (x : A) where
  read-line : (written rest : List ℕ) → content (written ++ newline ∷ rest) ≡ got x (newline ∷ rest)
      → read_line key content (line key written rest) ≡ got x rest
  unfolding read_line ended line
  read-line written rest e = rw (read-key key (written ++ newline ∷ rest), e, read-key (newline ∷ []) rest)

  line-parts : (t rest : List ℕ) → read_line key content t ≡ got x rest
      → (q : List ℕ) × (t ≡ key ++ q) × (content q ≡ got x (newline ∷ rest))
  unfolding read_line
  line-parts t rest e =
      let g = then-got (read_key key t) (λ u q. ended (content q)) x rest e in
      (g.1, key-read key t g.0 g.1 g.2, ended-got (content g.1) x rest g.3)

-- ---- the three kinds of line
pub record NumberLine (t key : List ℕ) (x : ℕ) (rest : List ℕ) : Type 0 where
  pub text : t ≡ line key (decimal x) rest
  pub writable : x ≤ greatest_number

pub record NumbersLine (t key xs rest : List ℕ) : Type 0 where
  pub text : t ≡ line key (numbers xs) rest
  pub writable : AllWritable xs

module _ (key : List ℕ) where
  pub read-number-line : (x : ℕ) (rest : List ℕ) → x ≤ greatest_number → read_line key read_number (line key (decimal x) rest) ≡ got x rest
  read-number-line x rest h = read-line key read_number x (decimal x) rest (read-decimal x newline rest h newline-no-digit)

  pub number-line-read : (t : List ℕ) (x : ℕ) (rest : List ℕ) → read_line key read_number t ≡ got x rest → NumberLine t key x rest
  unfolding line
  number-line-read t x rest e =
      let g = line-parts key read_number x t rest e in
      let front = decimal-read g.0 x (newline ∷ rest) g.2 in
      record { text = g.1 ∙ ap (λ q. key ++ q) front.text; writable = front.writable }

  pub read-numbers-line : (xs rest : List ℕ) → AllWritable xs → read_line key read_numbers (line key (numbers xs) rest) ≡ got xs rest
  read-numbers-line xs rest h = read-line key read_numbers xs (numbers xs) rest (read-numbers xs rest h)

  pub numbers-line-read : (t xs rest : List ℕ) → read_line key read_numbers t ≡ got xs rest → NumbersLine t key xs rest
  unfolding line
  numbers-line-read t xs rest e =
      let g = line-parts key read_numbers xs t rest e in
      let front = numbers-read g.0 xs (newline ∷ rest) g.2 in
      record { text = g.1 ∙ ap (λ q. key ++ q) front.text; writable = front.writable }

read_name : (operation : Operation) (t : List ℕ) → read_operation (name operation ++ t) ≡ got operation t
unfolding read_operation name read_key
read_name Operation.Expand t = refl
read_name Operation.Adjoint t = refl
read_name Operation.Decompose t = refl
read_name Operation.Moments t = refl
read_name Operation.Norms t = refl

module _ (t : List ℕ) (operation : Operation) (rest : List ℕ) where
  name-or : (o : Operation) (r : Front (Unit {0})) (other : Front Operation) → read_key (name o) t ≡ r
      → (other ≡ got operation rest → t ≡ name operation ++ rest)
      → or_else o r other ≡ got operation rest → t ≡ name operation ++ rest
  name-or o (got u q) other h next e =
      let a : o ≡ operation = cc in
      let b : q ≡ rest = cc in
      key-read (name o) t u q h ∙ ap (λ s. name o ++ s) b ∙ ap (λ p. name p ++ rest) a
  name-or o bad other h next e = next e

  name-read : read_operation t ≡ got operation rest → t ≡ name operation ++ rest
  unfolding read_operation
  name-read e =
      name-or Operation.Expand _ _ refl
      (name-or Operation.Adjoint _ _ refl
      (name-or Operation.Decompose _ _ refl
      (name-or Operation.Moments _ _ refl
      (name-or Operation.Norms _ _ refl (λ e. absurd (got-not-bad e))))))
      e

pub read-operation-line : (operation : Operation) (rest : List ℕ)
    → read_line operation_key read_operation (line operation_key (name operation) rest) ≡ got operation rest
read-operation-line operation rest = read-line operation_key read_operation operation (name operation) rest (read_name operation (newline ∷ rest))

pub operation-line-read : (t : List ℕ) (operation : Operation) (rest : List ℕ) → read_line operation_key read_operation t ≡ got operation rest
    → t ≡ line operation_key (name operation) rest
unfolding line
operation-line-read t operation rest e =
    let g = line-parts operation_key read_operation operation t rest e in
    g.1 ∙ ap (λ q. operation_key ++ q) (name-read g.0 operation (newline ∷ rest) g.2)
