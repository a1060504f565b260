-- What is printed for a text that comes in pieces, and the laws of the loop over them.
--   Answering ..   the state of the loop: what is printed for the lines that end in the front of the text is printed, and what is kept of the
--                  line that the front leaves open stands at the front of a list;  Stage  the same after k pieces
-- Proved: what is printed for what is kept of the lines is what is printed for them, so that pieces hand over what is printed for the text
-- (any-cut); how the loop begins, goes on and ends. Assumes nothing.
use Rattle.std.specs.Prelude.{List, [], ◌∷◌, ◌++◌, map, ◌≡◌, refl, ℕ, ◌+◌, ◌*◌, ◌-◌, ◌<◌, ◌≤◌, length, take, drop}
use Rattle.std.proofs.Common.{append-nil, ◌∙◌, ap₂, length-drop, take_all, take-add, length-take-le}
use Rattle.std.proofs.Math.Path.{sym, ap}
use native.Mathlib.Omega.{arith}
use Rattle.lines.specs.Determining.{alone}
use Rattle.lines.specs.Lines.{lines_of, joined}
use Rattle.lines.specs.Pieces.{kept, ended, unended, handed, ended-append, unended-append}
use Rattle.lines.proofs.Pieces.{ended-text, handed-lines}
use Rattle.lines.specs.Walking.{Open}
use Rattle.storing.specs.Printing.{printed_line, printed_input}
use Rattle.store_lines.specs.Answering.{printed_lines, printed-append, printed-snoc, put-after, PieceAnswered}
use Rattle.store_lines.specs.Printed.{printed_room, printed-kept}
use Rattle.writer.specs.Putting.{Put}

all-kept : (ls : List (List ℕ)) → printed_lines (map (kept 8193) ls) ≡ printed_lines ls
unfolding joined
all-kept [] = refl
all-kept (l ∷ ls) = ap₂ (λ x y. x ++ y) (printed-kept l) (all-kept ls)

-- in the words of the program's writes: what is printed for the lines that the pieces hand over, each with what the one before left open, and for
-- the line that the last leaves open
pub any-cut : (ps : List (List ℕ)) → printed_lines (handed 8193 [] ps) ≡ printed_input (joined ps)
unfolding printed_input
any-cut ps = ap printed_lines (handed-lines 8193 (omega arith) ps) ∙ all-kept (lines_of (joined ps))

pub record Answering (text before : List ℕ) (kept' : ℕ) (out : List ℕ) (n at : ℕ) : Type 0 where
  pub bytes : take n out ≡ printed_lines (ended 8193 [] (take at text))
  pub left : Open 8193 [] (take at text) before kept'
  pub few : n + 11 * kept' ≤ 11 * at
  pub inside : at ≤ length text
  pub size : length before ≡ 8193
  pub room : 11 * length text + printed_room ≤ length out

-- k pieces of a text that is cut by `sizes` sizes are answered: after the last, all of it
pub record Stage (text : List ℕ) (sizes : ℕ) (before : List ℕ) (kept' : ℕ) (out : List ℕ) (n at k : ℕ) : Type 0 where
  pub answering : Answering text before kept' out n at
  pub done : sizes < k → at ≡ length text

module _ (text : List ℕ) where
  pub answering-starts : (before out : List ℕ) → length before ≡ 8193 → 11 * length text + printed_room ≤ length out → Answering text before 0 out 0 0
  unfolding joined ended unended
  answering-starts before out size room = record {
    bytes = refl;
    left = record { bytes = refl; within = omega arith };
    few = omega arith;
    inside = omega arith;
    size = size;
    room = room;
  }

  module _ (before : List ℕ) (kept' : ℕ) (out : List ℕ) (n at : ℕ) (s : Answering text before kept' out n at) where
    module _ (end : ℕ) (first : at ≤ end) (within : end ≤ length text) where
      abbrev piece : List ℕ
      piece = take (end - at) (drop at text)

      front : take end text ≡ take at text ++ piece
      front =
          let sum : end ≡ at + (end - at) = omega arith in
          ap (λ k. take k text) sum ∙ take-add at (end - at) text

      piece-long : length piece ≡ end - at
      piece-long = length-take-le (end - at) (drop at text) (omega (arith, length-drop at text))

      pub answering-room : n + 11 * (kept' + length piece) + printed_room ≤ length out
      answering-room = omega (arith, s.few, s.room, piece-long)

      -- what is kept of the open line is copied to the front of before'
      pub answering-next : (line' : List ℕ) (kept'' : ℕ) (out' : List ℕ) (n' : ℕ) → PieceAnswered piece before kept' out n line' kept'' out' n'
          → length out' ≡ length out → (before' : List ℕ) → take kept'' before' ≡ take kept'' line' → length before' ≡ 8193 → kept'' ≤ 8193
          → Answering text before' kept'' out' n' end
      answering-next line' kept'' out' n' p same_out before' copied size most = record {
        bytes = p.bytes
            ∙ ap₂ (λ x y. x ++ printed_lines y) s.bytes (ap₂ (λ k h. ended k h piece) s.size s.left.bytes)
            ∙ sym (printed-append (ended 8193 [] (take at text)) (ended 8193 (unended 8193 [] (take at text)) piece))
            ∙ ap printed_lines (sym (ended-append 8193 [] (take at text) piece) ∙ ap (ended 8193 []) (sym front));
        left = record {
          bytes = copied ∙ p.left.bytes ∙ ap₂ (λ k h. unended k h piece) s.size s.left.bytes
              ∙ sym (unended-append 8193 [] (take at text) piece) ∙ ap (unended 8193 []) (sym front);
          within = omega arith;
        };
        few = omega (arith, p.few, s.few, piece-long);
        inside = within;
        size = size;
        room = omega (arith, s.room);
      }

    -- ---- the end of the text: no line is open, or one is
    total : printed_input text ≡ printed_lines (ended 8193 [] text ++ alone (unended 8193 [] text))
    unfolding printed_input
    total = sym (all-kept (lines_of text)) ∙ ap printed_lines (sym (ended-text 8193 (omega arith) text))

    module _ (past : length text ≤ at) where
      whole : take at text ≡ text
      whole = take_all at text past

      so_far : take n out ≡ printed_lines (ended 8193 [] text)
      so_far = s.bytes ∙ ap (λ t. printed_lines (ended 8193 [] t)) whole

      still : take kept' before ≡ unended 8193 [] text
      still = s.left.bytes ∙ ap (unended 8193 []) whole

      pub answering-done : kept' ≡ 0 → take n out ≡ printed_input text
      answering-done e =
          so_far ∙ ap printed_lines (sym (append-nil (ended 8193 [] text)))
          ∙ ap (λ l. printed_lines (ended 8193 [] text ++ alone l)) (ap (λ k. take k before) (sym e) ∙ still) ∙ sym total

      pub answering-last : (kept' ≡ 0 → ⊥) → (out' : List ℕ) (n' : ℕ) → Put out n (printed_line (take kept' before)) printed_room out' n'
          → take n' out' ≡ printed_input text
      answering-last some out' n' put =
          put-after out n (printed_line (take kept' before)) printed_room out' n' put (omega (arith, s.few, s.room, s.inside))
          ∙ ap (λ bs. bs ++ printed_line (take kept' before)) so_far ∙ sym (printed-snoc (ended 8193 [] text) (take kept' before))
          ∙ ap (λ ls. printed_lines (ended 8193 [] text ++ ls))
          (sym (one_line (take kept' before) (omega (arith, length-take-le kept' before s.left.within))))
          ∙ ap (λ l. printed_lines (ended 8193 [] text ++ alone l)) still ∙ sym total
        where
          one_line : (l : List ℕ) → 0 < length l → alone l ≡ l ∷ []
          one_line [] h = absurd (omega arith)
          one_line (b ∷ l) h = refl
