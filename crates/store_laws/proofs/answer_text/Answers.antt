-- `answer_text` prints what is printed for a text: the laws of `Stage` at the loop. Assumes nothing.
use native.Mathlib.Omega.{arith}
use Rattle.store_laws.specs.Printing.{answering-starts, answering-next, answering-done, answering-last}
use Rattle.store_laws.proofs.answer_text.Goals as goal

pub loop-k-init : goal.loop-k-init
loop-k-init c = (
  record { answering = answering-starts _ _ _ c.requires.0 c.requires.2; done = λ h. absurd (omega arith) },
  omega arith,
  omega arith,
  omega arith,
  omega arith,
)

pub loop-k-preserved : goal.loop-k-preserved
loop-k-preserved c = (
  record {
    answering = answering-next _ _ _ _ _ _ c.loop-k.invariant.0.answering _ c.piece_end-end.ensures.0 c.piece_end-end.ensures.1 _ _ _ _
        c.answer_piece-progress.ensures (omega arith) _ c.copy_bytes.ensures (omega (arith, c.loop-k.invariant.0.answering.size))
        (omega (arith, c.answer_piece-progress.ensures.left.within, c.loop-k.invariant.3));
    done = λ h. omega (arith, c.piece_end-end.ensures.2 (omega arith));
  },
  omega arith,
  omega (arith, c.loop-k.invariant.2),
  omega (arith, c.loop-k.invariant.3),
  omega (arith, c.loop-k.invariant.4),
)

pub returns-then-none_is_open : goal.returns-then-none_is_open
returns-then-none_is_open c =
    answering-done _ _ _ _ _ _ c.loop-k.invariant.0.answering (omega (arith, c.loop-k.invariant.0.done (omega arith))) c.if-none_is_open.true

pub returns : goal.returns
returns c =
    answering-last _ _ _ _ _ _ c.loop-k.invariant.0.answering (omega (arith, c.loop-k.invariant.0.done (omega arith))) c.if-none_is_open.false
    _ _ c.put_printed.ensures
