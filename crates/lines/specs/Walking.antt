-- The lines of a piece, taken one after the other.
--   Open room h piece line k   the first k of line are what is kept of the line that the piece leaves open; h is kept of the line that it
--                              goes on with
--   Walking .. said ..         the state of a loop that takes them: of the lines `said`, and then of those that end from here on, the same is
--                              kept as of those that end in the piece, and from here on the same is left open
-- Assumes nothing.
use Rattle.std.specs.Prelude.{Bool, true, false, List, [], ◌∷◌, ◌++◌, ◌≡◌, refl, ℕ, ◌≤◌, length, take, drop}
use Rattle.std.proofs.Common.{append_assoc, append-nil, sym, ◌∙◌, ap, arith, drop_of_length-le}
use Rattle.lines.specs.Pieces.{ended, unended, ended-none, unended-none}
use Rattle.lines.specs.Taking.{LineTaken}

pub record Open (room : ℕ) (h piece line : List ℕ) (k : ℕ) : Type 0 where
  pub bytes : take k line ≡ unended room h piece
  pub within : k ≤ length line

pub record Walking (piece line : List ℕ) (count : ℕ) (said : List (List ℕ)) (line' : List ℕ) (kept at : ℕ) : Type 0 where
  pub lines : ended (length line) (take count line) piece ≡ said ++ ended (length line) (take kept line') (drop at piece)
  pub left : unended (length line) (take count line) piece ≡ unended (length line) (take kept line') (drop at piece)
  pub size : length line' ≡ length line
  pub within : kept ≤ length line'
  pub inside : at ≤ length piece

module _ (piece line : List ℕ) (count : ℕ) where
  pub walking-starts : count ≤ length line → Walking piece line count [] line count 0
  walking-starts h = record { lines = refl; left = refl; size = refl; within = h; inside = omega arith }

  module _ (said : List (List ℕ)) (line' : List ℕ) (kept at : ℕ) (s : Walking piece line count said line' kept at) where
    pub walking-past : length piece ≤ at → ended (length line) (take count line) piece ≡ said
    walking-past l =
        s.lines ∙ ap (λ t. said ++ ended (length line) (take kept line') t) (drop_of_length-le piece l)
        ∙ ap (λ ls. said ++ ls) (ended-none (length line) (take kept line')) ∙ append-nil said

    pub walking-open : length piece ≤ at → Open (length line) (take count line) piece line' kept
    walking-open l = record {
      bytes = sym (s.left ∙ ap (unended (length line) (take kept line')) (drop_of_length-le piece l) ∙ unended-none (length line) (take kept line'));
      within = s.within;
    }

    module _ (line'' : List ℕ) (e : Bool) (kept' next : ℕ) (p : LineTaken piece at line' kept line'' e kept' next)
        (same : length line'' ≡ length line') where
      lines-here : ended (length line) (take kept line') (drop at piece) ≡ ended (length line') (take kept line') (drop at piece)
      lines-here = ap (λ k. ended k (take kept line') (drop at piece)) (sym s.size)

      left_here : unended (length line) (take kept line') (drop at piece) ≡ unended (length line') (take kept line') (drop at piece)
      left_here = ap (λ k. unended k (take kept line') (drop at piece)) (sym s.size)

      -- the line has ended, or the piece has
      pub walking_line : e ≡ true → Walking piece line count (said ++ take kept' line'' ∷ []) line'' 0 next
      walking_line is = record {
        lines = s.lines ∙ ap (λ ls. said ++ ls) (lines-here ∙ rw is at p.taken.lines
            ∙ ap (λ k. take kept' line'' ∷ ended k [] (drop next piece)) s.size)
            ∙ sym (append_assoc said (take kept' line'' ∷ []) (ended (length line) [] (drop next piece)));
        left = s.left ∙ left_here ∙ rw is at p.taken.left ∙ ap (λ k. unended k [] (drop next piece)) s.size;
        size = same ∙ s.size;
        within = omega arith;
        inside = p.inside;
      }

      pub walking_on : e ≡ false → Walking piece line count said line'' kept' next
      walking_on is =
          let past : length piece ≤ next = omega (arith, p.whole is) in
          record {
            lines = s.lines ∙ ap (λ ls. said ++ ls) (lines-here ∙ rw is at p.taken.lines
                ∙ sym (ap (ended (length line) (take kept' line'')) (drop_of_length-le piece past) ∙ ended-none (length line) (take kept' line'')));
            left = s.left ∙ left_here ∙ rw is at p.taken.left
                ∙ sym (ap (unended (length line) (take kept' line'')) (drop_of_length-le piece past) ∙ unended-none (length line) (take kept' line''));
            size = same ∙ s.size;
            within = p.within;
            inside = p.inside;
          }
