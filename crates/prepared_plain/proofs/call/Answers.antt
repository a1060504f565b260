-- `call` keeps the promise of a conversion on a record: its core, lent the rows, writes the definition's list. Assumes nothing.
use Rattle.plain.proofs.Taken.{written}
use Rattle.plain.specs.Input.{convert-lent, convert-asked}
use Rattle.prepared_plain.specs.RecordCore.{record-few, plain-core, lent-rows, plain-made}
use Rattle.prepared_plain.proofs.call.Goals as goal

pub shared_ref_as_front-lent : goal.shared_ref_as_front-lent
shared_ref_as_front-lent g c = record-few _ _ _ c.plain_verdict.ensures c.in_ok-plain_verdict.was

pub invariant_of-lent : goal.invariant_of-lent
invariant_of-lent g c =
    convert-lent (plain-core _ _ _ c.plain_verdict.ensures c.in_ok-plain_verdict.was)
    (lent-rows _ _ _ _ _)

pub convert_front-requires : goal.convert_front-requires
convert_front-requires g c =
    convert-asked (plain-core _ _ _ c.plain_verdict.ensures c.in_ok-plain_verdict.was)
    (lent-rows _ _ _ _ _)

pub returns : goal.returns
returns g c =
    plain-made _ _ _ c.plain_verdict.ensures c.in_ok-plain_verdict.was g.C.Conversion.converted
    (written (plain-core _ _ _ c.plain_verdict.ensures c.in_ok-plain_verdict.was)
    (lent-rows _ _ _ _ _) g.C.Conversion.converted c.convert_front.ensures)
