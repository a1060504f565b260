-- The lines of a family.
--   RowLists, read_rows t       the three lists of its rows, read off the front of t
--   FamilyLists, read_family t  its modulus and these, read off the front of t
--   RowsStored                  the three lists by their counts, each at the front of a lent one
--   RowsAt, RowsRead            what row_lines answers: three counts and the place after the lines, or that a line is missing
--   FamilyAt, FamilyRead        what family_lines answers: the modulus besides
-- Proved: where the reading stops if a line is missing, and the lists if none is; reading by parts is reading on line by line (then-then).
-- Assumes nothing.
use Rattle.std.specs.Prelude.{◌≡◌, refl, List, ℕ, ◌≤◌, length, drop, Option, Some, None}
use Rattle.definitions.specs.Text.{modulus_key, a_key, b_key, c_key}
use Rattle.definitions.specs.Reading.{Front, got, bad, then, read_number, read_numbers, read_line}
use Rattle.reader.specs.Storing.{Stored, ListAt}
use Rattle.reader.specs.Lines.{ReadAt}
use Rattle.reader.specs.declared.Read.{Read}
use Rattle.form.specs.declared.RowLines.{RowLines}
use Rattle.form.specs.declared.FamilyLines.{FamilyLines}

pub record RowLists : Type 0 where
  pub a : List ℕ
  pub b : List ℕ
  pub c : List ℕ

unfoldable pub read_rows : List ℕ → Front RowLists
read_rows t =
    then (read_line a_key read_numbers t) (λ a t₁.
    then (read_line b_key read_numbers t₁) (λ b t₂.
    then (read_line c_key read_numbers t₂) (λ c t₃.
    got (record { a = a; b = b; c = c }) t₃)))

pub record FamilyLists : Type 0 where
  pub modulus : ℕ
  pub rows : RowLists

unfoldable pub read_family : List ℕ → Front FamilyLists
read_family t =
    then (read_line modulus_key read_number t) (λ m t₁.
    then (read_rows t₁) (λ rows t₂.
    got (record { modulus = m; rows = rows }) t₂))

-- na, nb, nc: the counts; a and a', b and b', c and c': the lent lists before and after
pub record RowsStored (rows : RowLists) (na nb nc : ℕ) (a a' b b' c c' : List ℕ) : Type 0 where
  pub in_a : Stored rows.a na a a'
  pub in_b : Stored rows.b nb b b'
  pub in_c : Stored rows.c nc c c'

-- t: the text; f: what is read
module _ (t : List ℕ) where
  pub record RowsAt (f : Front RowLists) (na nb nc next : ℕ) (a a' b b' c c' : List ℕ) : Type 0 where
    pub rows : RowLists
    pub read : f ≡ got rows (drop next t)
    pub inside : next ≤ length t
    pub stored : RowsStored rows na nb nc a a' b b' c c'

  pub record FamilyAt (f : Front FamilyLists) (modulus na nb nc next : ℕ) (a a' b b' c c' : List ℕ) : Type 0 where
    pub rows : RowLists
    pub read : f ≡ got (record { modulus = modulus; rows = rows }) (drop next t)
    pub inside : next ≤ length t
    pub stored : RowsStored rows na nb nc a a' b b' c c'

  abbrev pub RowsRead : Front RowLists → List ℕ → List ℕ → List ℕ → List ℕ → List ℕ → List ℕ → Option (Read RowLines) → Type 0
  RowsRead f a a' b b' c c' (Some r) = RowsAt f r.value.a r.value.b r.value.c r.next a a' b b' c c'
  RowsRead f a a' b b' c c' None = f ≡ bad

  abbrev pub FamilyRead : Front FamilyLists → List ℕ → List ℕ → List ℕ → List ℕ → List ℕ → List ℕ → Option (Read FamilyLines) → Type 0
  FamilyRead f a a' b b' c c' (Some r) =
      FamilyAt f r.value.modulus r.value.rows.a r.value.rows.b r.value.rows.c r.next a a' b b' c c'
  FamilyRead f a a' b b' c c' None = f ≡ bad

-- ---- line by line, q being what is left
module _ (q : List ℕ) where
  pub no-a : read_line a_key read_numbers q ≡ bad → read_rows q ≡ bad
  unfolding read_rows
  no-a e = rw e

  module _ (t : List ℕ) (na i : ℕ) (a a' : List ℕ) (la : ListAt t (read_line a_key read_numbers q) na i a a') where
    pub no-b : read_line b_key read_numbers (drop i t) ≡ bad → read_rows q ≡ bad
    unfolding read_rows
    no-b e = rw (la.read, e)

    module _ (nb j : ℕ) (b b' : List ℕ) (lb : ListAt t (read_line b_key read_numbers (drop i t)) nb j b b') where
      pub no-c : read_line c_key read_numbers (drop j t) ≡ bad → read_rows q ≡ bad
      unfolding read_rows
      no-c e = rw (la.read, lb.read, e)

      pub rows_at : (nc k : ℕ) (c c' : List ℕ) → ListAt t (read_line c_key read_numbers (drop j t)) nc k c c'
          → RowsAt t (read_rows q) na nb nc k a a' b b' c c'
      unfolding read_rows
      rows_at nc k c c' lc = record {
        rows = record { a = la.xs; b = lb.xs; c = lc.xs };
        read = rw (la.read, lb.read, lc.read);
        inside = lc.inside;
        stored = record { in_a = la.stored; in_b = lb.stored; in_c = lc.stored };
      }

  pub no-modulus : read_line modulus_key read_number q ≡ bad → read_family q ≡ bad
  unfolding read_family
  no-modulus e = rw e

  module _ (t : List ℕ) (m i : ℕ) (lm : ReadAt t (read_line modulus_key read_number q) m i) where
    pub no_rows : read_rows (drop i t) ≡ bad → read_family q ≡ bad
    unfolding read_family
    no_rows e = rw (lm.read, e)

    pub family-at : (na nb nc j : ℕ) (a a' b b' c c' : List ℕ) → RowsAt t (read_rows (drop i t)) na nb nc j a a' b b' c c'
        → FamilyAt t (read_family q) m na nb nc j a a' b b' c c'
    unfolding read_family
    family-at na nb nc j a a' b b' c c' l =
        record { rows = l.rows; read = rw (lm.read, l.read); inside = l.inside; stored = l.stored }

-- ---- reading by parts
pub then-then : {A B C : Type 0} (f : Front A) (g : A → List ℕ → Front B) (h : B → List ℕ → Front C) (k : A → List ℕ → Front C)
    → ((x : A) (t : List ℕ) → k x t ≡ then (g x t) h) → then f k ≡ then (then f g) h
then-then (got x t) g h k e = e x t
then-then bad g h k e = refl
