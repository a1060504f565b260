-- `plain_decompose` meets its promise: it answers the verdict of its tests, and its core, lent the stored inverses of the a, writes
-- the definition's list. Assumes nothing.
use Rattle.plain.proofs.Taken.{written-decomposed}
use Rattle.plain.specs.Input.{convert-lent, convert-asked}
use Rattle.prepared_plain.specs.RecordCore.{record-few, decompose-core, lent-rows, decompose-made}
use Rattle.prepared_plain.proofs.plain_decompose.Goals as goal

pub shared_ref_as_front-inverted : goal.shared_ref_as_front-inverted
shared_ref_as_front-inverted c = record-few _ _ _ c.plain_verdict.ensures c.in_ok-plain_verdict.was

pub invariant_of-inverted : goal.invariant_of-inverted
invariant_of-inverted c =
    convert-lent (decompose-core _ _ _ c.plain_verdict.ensures c.in_ok-plain_verdict.was)
    (lent-rows _ _ _ _ _)

pub decompose-requires : goal.decompose-requires
decompose-requires c =
    convert-asked (decompose-core _ _ _ c.plain_verdict.ensures c.in_ok-plain_verdict.was)
    (lent-rows _ _ _ _ _)

pub returns : goal.returns
returns c =
    decompose-made _ _ _ c.plain_verdict.ensures c.in_ok-plain_verdict.was
    (written-decomposed (decompose-core _ _ _ c.plain_verdict.ensures c.in_ok-plain_verdict.was)
    (lent-rows _ _ _ _ _) c.decompose.ensures)
