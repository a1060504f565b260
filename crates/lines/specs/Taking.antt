-- What the code that takes a line says of itself, and the laws of its loop. A lent list has room for as many bytes of a line as it is long,
-- and what is kept of the line are the first so many of it.
--   Kept line n b line' n'     b comes after what is kept, and n' is how many are kept then
--   Going h t h' t'            going on with t', where h' is kept, gives what going on with t gives, where h is kept
--   Taken h t e l rest         e: a line ends in t, of which l is kept, and rest follows it; not e: none does, and l is kept
--   LineTaken ..               Taken of a piece from a place on, with the lists as take_line leaves them
--   TakenLine .. r             the same by what take_line answers
--   Taking ..                  the state of its loop
-- Assumes nothing.
use Rattle.std.specs.Prelude.{Bool, true, false, List, [], ◌∷◌, ◌++◌, ◌≡◌, refl, ℕ, ◌+◌, ◌-◌, ◌<◌, ◌≤◌, eqb, length, get_or, take, drop, set}
use Rattle.std.proofs.Common.{true≢false, subst, sym, ◌∙◌, ap, add-one, arith, length-append, length-take, length-take-le, length-set}
use Rattle.std.proofs.Common.{take_all, take-take, take-suc-set, drop_of_length-le, drop-cons}
use Rattle.std.proofs.lemmas.List.{take-append-le}
use Rattle.definitions.specs.Reading.{pick}
use Rattle.definitions.specs.Text.{newline}
use Rattle.lines.specs.declared.Taken as answer
use Rattle.lines.specs.Pieces.{kept, ended, unended, ended-none, unended-none, ended-break, ended-on, unended-break, unended-on}

pub record Kept (line : List ℕ) (n b : ℕ) (line' : List ℕ) (n' : ℕ) : Type 0 where
  pub within : n' ≤ length line'
  pub grown : n' ≤ n + 1
  pub some : 0 < length line → 0 < n'
  pub bytes : take n' line' ≡ kept (length line) (take n line ++ b ∷ [])

module _ (line : List ℕ) (n b : ℕ) where
  pub kept-room : n < length line → Kept line n b (set line n b) (n + 1)
  kept-room h = record {
    within = omega (arith, length-set line n b);
    grown = omega arith;
    some = λ r. omega arith;
    bytes = ap (λ k. take k (set line n b)) (add-one n) ∙ take-suc-set line n b h ∙ sym (take_all (length line) (take n line ++ b ∷ []) short);
  }
    where
      short : length (take n line ++ b ∷ []) ≤ length line
      short = simp (length-append, length-take) (omega arith)

  pub kept_full : length line ≤ n → n ≤ length line → Kept line n b line n
  kept_full h k = record {
    within = k;
    grown = omega arith;
    some = λ r. omega arith;
    bytes =
        let full : n ≡ length line = omega arith in
        sym (take-append-le (length line) (take n line) (b ∷ []) (omega (arith, length-take-le n line k))
        ∙ take-take (length line) n line h ∙ ap (λ j. take j line) (sym full));
  }

pub record Going (room : ℕ) (h t h' t' : List ℕ) : Type 0 where
  pub lines : ended room h t ≡ ended room h' t'
  pub left : unended room h t ≡ unended room h' t'

pub record Taken (room : ℕ) (h t : List ℕ) (e : Bool) (l rest : List ℕ) : Type 0 where
  pub lines : ended room h t ≡ pick e (l ∷ ended room [] rest) []
  pub left : unended room h t ≡ pick e (unended room [] rest) l

module _ (room : ℕ) (h t l rest : List ℕ) (g : Going room h t l rest) where
  going-past : rest ≡ [] → Taken room h t false l rest
  going-past none = record {
    lines = g.lines ∙ ap (ended room l) none ∙ ended-none room l;
    left = g.left ∙ ap (unended room l) none ∙ unended-none room l;
  }

  module _ (b : ℕ) (rest' : List ℕ) (next : rest ≡ b ∷ rest') (l' : List ℕ) (is : l' ≡ kept room (l ++ b ∷ [])) where
    going-break : eqb b newline ≡ true → Taken room h t true l' rest'
    going-break e = record {
      lines = g.lines ∙ ap (ended room l) next ∙ ended-break room l b rest' e ∙ ap (λ k. k ∷ ended room [] rest') (sym is);
      left = g.left ∙ ap (unended room l) next ∙ unended-break room l b rest' e;
    }

    going_on : eqb b newline ≡ false → Going room h t l' rest'
    going_on e = record {
      lines = g.lines ∙ ap (ended room l) next ∙ ended-on room l b rest' e ∙ ap (λ k. ended room k rest') (sym is);
      left = g.left ∙ ap (unended room l) next ∙ unended-on room l b rest' e ∙ ap (λ k. unended room k rest') (sym is);
    }

-- ---- the same over lent lists and places in them
pub record LineTaken (piece : List ℕ) (from : ℕ) (line : List ℕ) (count : ℕ) (line' : List ℕ) (e : Bool) (count' next : ℕ) : Type 0 where
  pub taken : Taken (length line) (take count line) (drop from piece) e (take count' line') (drop next piece)
  pub within : count' ≤ length line'
  pub grown : count' ≤ count + (next - from)
  pub inside : next ≤ length piece
  pub onward : from < length piece → from < next
  pub whole : e ≡ false → next ≡ length piece
  pub some : e ≡ true → 0 < length line → 0 < count'

abbrev pub TakenLine : List ℕ → ℕ → List ℕ → ℕ → List ℕ → answer.Taken → Type 0
TakenLine piece from line count line' (answer.Taken.Ended n next) = LineTaken piece from line count line' true n next
TakenLine piece from line count line' (answer.Taken.Open n) = LineTaken piece from line count line' false n (length piece)

pub record Taking (piece : List ℕ) (from : ℕ) (line : List ℕ) (count : ℕ) (line' : List ℕ) (n i : ℕ) : Type 0 where
  pub going : Going (length line) (take count line) (drop from piece) (take n line') (drop i piece)
  pub size : length line' ≡ length line
  pub within : n ≤ length line'
  pub grown : n ≤ count + (i - from)
  pub after : from ≤ i
  pub inside : i ≤ length piece

module _ (piece : List ℕ) (from : ℕ) (line : List ℕ) (count : ℕ) where
  pub taking-starts : count ≤ length line → from ≤ length piece → Taking piece from line count line count from
  taking-starts h k = record {
    going = record { lines = refl; left = refl };
    size = refl;
    within = h;
    grown = omega arith;
    after = omega arith;
    inside = k;
  }

  module _ (line' : List ℕ) (n i : ℕ) (s : Taking piece from line count line' n i) where
    abbrev h : List ℕ
    h = take count line

    abbrev t : List ℕ
    t = drop from piece

    pub taking-past : length piece ≤ i → LineTaken piece from line count line' false n i
    taking-past l = record {
      taken = going-past (length line) h t (take n line') (drop i piece) s.going (drop_of_length-le piece l);
      within = s.within;
      grown = s.grown;
      inside = s.inside;
      onward = λ k. omega (arith, s.inside);
      whole = λ e. omega (arith, s.inside);
      some = λ e. absurd (true≢false (sym e));
    }

    pub taking-open : length piece ≤ i → LineTaken piece from line count line' false n (length piece)
    taking-open l =
        let end : i ≡ length piece = omega (arith, s.inside) in
        subst (λ next. LineTaken piece from line count line' false n next) end (taking-past l)

    module _ (l : i < length piece) (line'' : List ℕ) (n' : ℕ) (p : Kept line' n (get_or piece i 0) line'' n') where
      next : drop i piece ≡ get_or piece i 0 ∷ drop (i + 1) piece
      next = drop-cons piece i 0 l ∙ ap (λ k. get_or piece i 0 ∷ drop k piece) (sym (add-one i))

      bytes : take n' line'' ≡ kept (length line) (take n line' ++ get_or piece i 0 ∷ [])
      bytes = p.bytes ∙ ap (λ k. kept k (take n line' ++ get_or piece i 0 ∷ [])) s.size

      pub taking-ends : eqb (get_or piece i 0) newline ≡ true → LineTaken piece from line count line'' true n' (i + 1)
      taking-ends e = record {
        taken = going-break (length line) h t (take n line') (drop i piece) s.going (get_or piece i 0) (drop (i + 1) piece) next
            (take n' line'') bytes e;
        within = p.within;
        grown = omega (arith, p.grown, s.grown, s.after);
        inside = omega arith;
        onward = λ k. omega (arith, s.after);
        whole = λ f. absurd (true≢false f);
        some = λ f r. p.some (omega (arith, s.size));
      }

      pub taking-on : eqb (get_or piece i 0) newline ≡ false → length line'' ≡ length line' → Taking piece from line count line'' n' (i + 1)
      taking-on e same = record {
        going = going_on (length line) h t (take n line') (drop i piece) s.going (get_or piece i 0) (drop (i + 1) piece) next
            (take n' line'') bytes e;
        size = same ∙ s.size;
        within = p.within;
        grown = omega (arith, p.grown, s.grown, s.after);
        after = omega (arith, s.after);
        inside = omega arith;
      }
