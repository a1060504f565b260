-- `moments_by_record` keeps its promise: where an append refuses nothing is touched; else the record is that of the family, and the operation on it
-- keeps the promise of the call on the lists. Assumes nothing.
use mathlib.Core.Path.{refl, sym, ◌∙◌}
use Rattle.acceptance.proofs.HandedOn.{handed-on}
use Rattle.prepared_laws.proofs.Settled.{rows-refused, moments-settled}
use Rattle.prepared_laws.proofs.moments_by_record.Goals as goal

pub returns-in_err-made : goal.returns-in_err-made
returns-in_err-made c =
    rw (handed-on _ _ c.from_residual.ensures.1 ∙ sym c.in_err-made.was)
    (rows-refused _ _ _ _ _ _ c.by_appends-made.ensures _ _ _ c.in_err-made.was (refl, refl))

pub returns : goal.returns
returns c =
    moments-settled _ _ _ _ _ _ c.by_appends-made.ensures c.in_ok-made.was _ _ _ _ _ _ c.moments.ensures
