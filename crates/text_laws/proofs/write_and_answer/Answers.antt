-- `write_and_answer` meets its promise: the text call is made on the bytes that the call before it wrote. Assumes nothing.
use mathlib.Core.Path.{sym, ◌∙◌}
use mathlib.Core.List.{[]}
use lib.Seq.{length-take-le}
use Rattle.acceptance.proofs.HandedOn.{handed-on}
use Rattle.text_laws.proofs.Answered.{write-refused, text-inside, write-answered}
use Rattle.text_laws.proofs.write_and_answer.Goals as goal

pub returns-in_err-end : goal.returns-in_err-end
returns-in_err-end c =
    write-refused _ _ _ _ _ _ c.write_job.ensures _ c.in_err-end.was _
    (handed-on _ _ c.from_residual.ensures.1 ∙ sym c.in_err-end.was)

pub slice_bounds-convert_text-end : goal.slice_bounds-convert_text-end
slice_bounds-convert_text-end c =
    text-inside _ _ [] [] _ _ c.write_job.ensures _ c.in_ok-end.was

pub slice_bounds-convert_text-end-2 : goal.slice_bounds-convert_text-end-2
slice_bounds-convert_text-end-2 c =
    sym (length-take-le _ _ (text-inside _ _ [] [] _ _ c.write_job.ensures _ c.in_ok-end.was))

pub returns : goal.returns
returns c =
    write-answered _ _ _ _ _ _ c.write_job.ensures _ c.in_ok-end.was _ _ _ c.convert_text.ensures
