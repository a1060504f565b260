-- What is printed for the lines that end in a piece, and the laws of the loop over them.
--   printed_lines ls     what is printed for lines, or for what is kept of them, in turn
--   PieceAnswered ..     what is printed for the lines that end in a piece stands after what was printed before it, and what is kept of the line
--                        that the piece leaves open at the front of a list
--   Printing ..          the state of the loop
-- Proved: how the loop begins, goes on and ends. An answer has at most eleven times the bytes of its line, so the output has room. Assumes nothing.
use Rattle.std.specs.Prelude.{Bool, true, false, List, [], ◌∷◌, ◌++◌, map, ◌≡◌, refl, ℕ, ◌+◌, ◌*◌, ◌<◌, ◌≤◌, length, take, drop}
use Rattle.std.proofs.Common.{append_assoc, append-nil, ◌∙◌, ap, ap₂, arith, length-append, take_at, length-take-le}
use Rattle.std.proofs.Math.Path.{sym}
use Rattle.lines.specs.Lines.{joined}
use Rattle.lines.specs.Pieces.{ended, unended}
use Rattle.lines.specs.Taking.{LineTaken}
use Rattle.lines.specs.Walking.{Open, Walking, walking-starts, walking-past, walking-open, walking_line, walking_on}
use Rattle.storing.specs.Printing.{printed_line}
use Rattle.texts.specs.Overwriting.{over}
use Rattle.writer.specs.Putting.{Put, put-length}
use Rattle.store_lines.specs.Form.{printed-short}
use Rattle.store_lines.specs.Printed.{printed_room}

abbrev pub printed_lines : List (List ℕ) → List ℕ
printed_lines ls = joined (map printed_line ls)

pub printed-append : (s t : List (List ℕ)) → printed_lines (s ++ t) ≡ printed_lines s ++ printed_lines t
unfolding joined
printed-append [] t = refl
printed-append (l ∷ s) t = ap (λ bs. printed_line l ++ bs) (printed-append s t) ∙ sym (append_assoc (printed_line l) (printed_lines s) (printed_lines t))

printed-one : (l : List ℕ) → printed_lines (l ∷ []) ≡ printed_line l
unfolding joined
printed-one l = append-nil (printed_line l)

pub printed-snoc : (s : List (List ℕ)) (l : List ℕ) → printed_lines (s ++ l ∷ []) ≡ printed_lines s ++ printed_line l
printed-snoc s l = printed-append s (l ∷ []) ∙ ap (λ bs. printed_lines s ++ bs) (printed-one l)

-- what was put comes after what stood before it
pub put-after : (old : List ℕ) (n : ℕ) (text : List ℕ) (most : ℕ) (new : List ℕ) (next : ℕ) → Put old n text most new next → n + most ≤ length old
    → take next new ≡ take n old ++ text
unfolding over
put-after old n text most new next p h =
    ap (take next) (p.stored ∙ sym (append_assoc (take n old) text (drop (n + length text) old)))
    ∙ take_at (take n old ++ text) (drop (n + length text) old) next
    (length-append (take n old) text ∙ omega (arith, p.place, length-take-le n old (omega arith)))

-- ---- the lines of a piece
-- line and line', out and out': before and after; n: how many bytes of out' are printed then
pub record PieceAnswered (piece line : List ℕ) (count : ℕ) (out : List ℕ) (from : ℕ) (line' : List ℕ) (kept' : ℕ) (out' : List ℕ)
    (n : ℕ) : Type 0 where
  pub bytes : take n out' ≡ take from out ++ printed_lines (ended (length line) (take count line) piece)
  pub left : Open (length line) (take count line) piece line' kept'
  pub few : n + 11 * kept' ≤ from + 11 * (count + length piece)

pub record Printing (piece line : List ℕ) (count : ℕ) (out : List ℕ) (from : ℕ) (line' : List ℕ) (kept' at : ℕ) (out' : List ℕ) (n : ℕ) : Type 0 where
  pub said : List (List ℕ)
  pub walking : Walking piece line count said line' kept' at
  pub bytes : take n out' ≡ take from out ++ printed_lines said
  pub few : n + 11 * kept' ≤ from + 11 * (count + at)
  pub same : length out' ≡ length out

module _ (piece line : List ℕ) (count : ℕ) (out : List ℕ) (from : ℕ) (size : 0 < length line) where
  pub printing-starts : count ≤ length line → Printing piece line count out from line count 0 out from
  unfolding joined
  printing-starts h = record {
    said = [];
    walking = walking-starts piece line count h;
    bytes = sym (append-nil (take from out));
    few = omega arith;
    same = refl;
  }

  module _ (line' : List ℕ) (kept' at : ℕ) (out' : List ℕ) (n : ℕ) (s : Printing piece line count out from line' kept' at out' n) where
    pub printing-past : length piece ≤ at → PieceAnswered piece line count out from line' kept' out' n
    printing-past l = record {
      bytes = s.bytes ∙ ap (λ ls. take from out ++ printed_lines ls) (sym (walking-past piece line count s.said line' kept' at s.walking l));
      left = walking-open piece line count s.said line' kept' at s.walking l;
      few = omega (arith, s.few, s.walking.inside);
    }

    -- for the answer of one more line
    pub printing-room : from + 11 * (count + length piece) + printed_room ≤ length out → n + printed_room ≤ length out'
    printing-room room = omega (arith, s.few, s.same, s.walking.inside)

    module _ (line'' : List ℕ) (e : Bool) (kept'' next : ℕ) (p : LineTaken piece at line' kept' line'' e kept'' next)
        (same : length line'' ≡ length line') (inside : at < length piece) where
      pub printing-line : e ≡ true → from + 11 * (count + length piece) + printed_room ≤ length out → (out'' : List ℕ) (n' : ℕ)
          → Put out' n (printed_line (take kept'' line'')) printed_room out'' n' → Printing piece line count out from line'' 0 next out'' n'
      printing-line is room out'' n' put =
          let fits = printing-room room in
          let short : length (printed_line (take kept'' line'')) ≤ 11 * kept'' = answer-short is in
          record {
            said = s.said ++ take kept'' line'' ∷ [];
            walking = walking_line piece line count s.said line' kept' at s.walking line'' e kept'' next p same is;
            bytes = put-after out' n (printed_line (take kept'' line'')) printed_room out'' n' put fits
                ∙ ap (λ bs. bs ++ printed_line (take kept'' line'')) s.bytes
                ∙ append_assoc (take from out) (printed_lines s.said) (printed_line (take kept'' line''))
                ∙ ap (λ bs. take from out ++ bs) (sym (printed-snoc s.said (take kept'' line'')));
            few = omega (arith, s.few, put.place, short, p.grown, p.onward inside);
            same = put-length out' n (printed_line (take kept'' line'')) printed_room out'' n' put fits ∙ s.same;
          }
        where
          answer-short : e ≡ true → length (printed_line (take kept'' line'')) ≤ 11 * kept''
          answer-short is =
              let long = length-take-le kept'' line'' p.within in
              omega (arith, long, printed-short (take kept'' line'') (omega (arith, long, p.some is (omega (arith, s.walking.size)))))

      pub printing-on : e ≡ false → Printing piece line count out from line'' kept'' next out' n
      printing-on is = record {
        said = s.said;
        walking = walking_on piece line count s.said line' kept' at s.walking line'' e kept'' next p same is;
        bytes = s.bytes;
        few = omega (arith, s.few, p.grown, p.onward inside);
        same = s.same;
      }

-- ---- the open line in a list of its own: line₁ begins as `before` does
pub piece-answered : (piece before : List ℕ) (count : ℕ) (out : List ℕ) (from : ℕ) (line₁ line' : List ℕ) (kept' : ℕ) (out' : List ℕ) (n : ℕ)
    → take count line₁ ≡ take count before → length line₁ ≡ length before → PieceAnswered piece line₁ count out from line' kept' out' n
    → PieceAnswered piece before count out from line' kept' out' n
piece-answered piece before count out from line₁ line' kept' out' n same long p = record {
  bytes = p.bytes ∙ ap₂ (λ room h. take from out ++ printed_lines (ended room h piece)) long same;
  left = record { bytes = p.left.bytes ∙ ap₂ (λ room h. unended room h piece) long same; within = p.left.within };
  few = p.few;
}

-- the front of `from` in the place of that of `to`
pub front-copied : (from to : List ℕ) (count : ℕ) → count ≤ length from → take count (take count from ++ drop count to) ≡ take count from
front-copied from to count h = take_at (take count from) (drop count to) count (length-take-le count from h)
