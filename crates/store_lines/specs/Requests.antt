-- What a line asks for, as the code finds it.
--   Counted l key out' r   r: how many numbers the line l with that key has, which are at the front of out' if they fit; or that l is no such line
--   Requested l out' r     r: the direction that l asks for, and how many numbers it has, which are at the front of out' if they fit; or that
--                          l is malformed
-- Proved: how the one follows from the reader's answer, and the other from two of these. Assumes nothing.
use Rattle.std.specs.Prelude.{List, [], ◌∷◌, ◌≡◌, refl, ℕ, ◌<◌, ◌≤◌, length, take, drop, Option, Some, None}
use Rattle.std.proofs.Common.{sym, ◌∙◌, ap, arith, drop_of_length-le, drop-cons}
use Rattle.definitions.specs.Reading.{Front, got, bad, read_numbers, read_line}
use Rattle.reader.specs.Storing.{ListAt, kept-front}
use Rattle.storing.specs.Printing.{Asked, asked, malformed, key, or_asked, read_store}
use Rattle.storing.specs.declared.Direction.{Direction}
use Rattle.texts.specs.DecimalReading.{got-not-bad}
use Rattle.store_lines.specs.declared.Request.{Request}

-- xs are n numbers, and at the front of a list if they fit
pub record Fronted (xs : List ℕ) (n : ℕ) (out : List ℕ) : Type 0 where
  pub count : length xs ≡ n
  pub front : n ≤ length out → take n out ≡ xs

pub record NumbersIn (l key : List ℕ) (n : ℕ) (out' : List ℕ) : Type 0 where
  pub xs : List ℕ
  pub read : read_line key read_numbers l ≡ got xs []
  pub fronted : Fronted xs n out'

abbrev pub Counted : List ℕ → List ℕ → List ℕ → Option ℕ → Type 0
Counted l key out' (Some n) = NumbersIn l key n out'
Counted l key out' None = (xs : List ℕ) → read_line key read_numbers l ≡ got xs [] → ⊥

pub record AskedIn (l : List ℕ) (d : Direction) (n : ℕ) (out' : List ℕ) : Type 0 where
  pub xs : List ℕ
  pub read : read_store l ≡ asked d xs
  pub fronted : Fronted xs n out'

abbrev pub Requested : List ℕ → List ℕ → Option Request → Type 0
Requested l out' (Some r) = AskedIn l r.direction r.count out'
Requested l out' None = read_store l ≡ malformed

-- ---- from the reader's answer
module _ (l key : List ℕ) where
  pub not-counted : read_line key read_numbers l ≡ bad → Counted l key [] None
  not-counted e xs f = got-not-bad (sym e ∙ f)

  module _ (n end : ℕ) (v v' : List ℕ) (at : ListAt l (read_line key read_numbers l) n end v v') where
    pub counted-more : (end ≡ length l → ⊥) → Counted l key [] None
    counted-more ne xs f =
        let inside : end < length l = omega (arith, at.inside) in
        let rest : drop end l ≡ [] = got_same (sym at.read ∙ f) in
        not-empty (sym (drop-cons l end 0 inside) ∙ rest)
      where
        got_same : {x y p q : List ℕ} → got x p ≡ got y q → p ≡ q
        got_same e = cc

        not-empty : {b : ℕ} {p : List ℕ} → ◌≡◌ {A = List ℕ} (b ∷ p) [] → ⊥
        not-empty e = let z : ◌≡◌ {A = ℕ} 0 1 = cc in omega arith

    pub counted-whole : end ≡ length l → length v' ≡ length v → NumbersIn l key n v'
    counted-whole e same =
        let past : length l ≤ end = omega arith in
        record {
          xs = at.xs;
          read = at.read ∙ ap (got at.xs) (drop_of_length-le l past);
          fronted = record { count = at.stored.count; front = λ h. kept-front at.xs n v v' at.stored (omega arith) };
        }

-- ---- from the counts by either key
or-other : (d : Direction) (f : Front (List ℕ)) (other : Asked) → ((xs : List ℕ) → f ≡ got xs [] → ⊥) → or_asked d f other ≡ other
or-other d (got xs []) other none = absurd (none xs refl)
or-other d (got xs (b ∷ rest)) other none = refl
or-other d bad other none = refl

module _ (l : List ℕ) where
  pub asked-first : (n : ℕ) (out' : List ℕ) → NumbersIn l (key Direction.EvenFirst) n out' → AskedIn l Direction.EvenFirst n out'
  unfolding read_store
  asked-first n out' p = record { xs = p.xs; read = rw p.read; fronted = p.fronted }

  module _ (none : Counted l (key Direction.EvenFirst) [] None) where
    other_key : read_store l ≡ or_asked Direction.EvenBack (read_line (key Direction.EvenBack) read_numbers l) malformed
    unfolding read_store
    other_key = or-other Direction.EvenFirst (read_line (key Direction.EvenFirst) read_numbers l)
        (or_asked Direction.EvenBack (read_line (key Direction.EvenBack) read_numbers l) malformed) none

    pub asked-back : (n : ℕ) (out' : List ℕ) → NumbersIn l (key Direction.EvenBack) n out' → AskedIn l Direction.EvenBack n out'
    asked-back n out' p = record {
      xs = p.xs;
      read = other_key ∙ ap (λ f. or_asked Direction.EvenBack f malformed) p.read;
      fronted = p.fronted;
    }

    pub asked-nothing : Counted l (key Direction.EvenBack) [] None → read_store l ≡ malformed
    asked-nothing none' = other_key ∙ or-other Direction.EvenBack (read_line (key Direction.EvenBack) read_numbers l) malformed none'
