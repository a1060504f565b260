-- `answer` meets its promise: what the conversion and the writer leave is the answer text. Assumes that the sizes are in order.
use native.Mathlib.Omega.{arith}
use Rattle.acceptance.proofs.HandedOn.{handed-on}
use Rattle.job.specs.Replies.{few-rows, parts, values-refused, count_fits, room, replied}
use Rattle.job.proofs.answer.Goals as goal

pub result_count-count-requires : goal.result_count-count-requires
result_count-count-requires c =
    few-rows _ _ _ _ _ _ _ _ _ _ c.requires

pub convert_parts-requires : goal.convert_parts-requires
convert_parts-requires c =
    parts _ _ _ _ _ _ _ _ _ _ c.requires _ c.result_count-count.ensures _ (omega arith)

pub returns-in_err-convert_parts : goal.returns-in_err-convert_parts
returns-in_err-convert_parts c =
    values-refused _ _ _ _ _ _ _ _ _ _ c.requires _ c.result_count-count.ensures
    _ _ _ _ c.convert_parts.ensures _ c.in_err-convert_parts.was _ (handed-on _ _ c.from_residual.ensures.1)

pub slice_bounds-write_answer-end : goal.slice_bounds-write_answer-end
slice_bounds-write_answer-end c =
    count_fits _ _ _ _ _ _ _ _ _ _ c.requires _ c.result_count-count.ensures
    _ _ _ _ c.convert_parts.ensures c.in_ok-convert_parts.was

pub write_answer-requires : goal.write_answer-requires
write_answer-requires c =
    room _ _ _ _ _ _ _ _ _ _ c.requires _ c.result_count-count.ensures _

pub returns : goal.returns
returns c =
    replied _ _ _ _ _ _ _ _ _ _ c.requires _ c.result_count-count.ensures
    _ _ _ _ c.convert_parts.ensures c.in_ok-convert_parts.was _ _ c.write_answer.ensures
