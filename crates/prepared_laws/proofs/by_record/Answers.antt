-- `by_record` keeps its promise: where an append refuses nothing is touched; else the record is that of the family, and the operation on it
-- keeps the promise of the call on the lists, by each way. Assumes nothing.
use mathlib.Core.Path.{refl, sym, ◌∙◌}
use Rattle.acceptance.proofs.HandedOn.{handed-on}
use Rattle.prepared_laws.proofs.Settled.{rows-refused, plain-settled, tree-settled}
use Rattle.prepared_laws.proofs.by_record.Goals as goal

pub returns-in_err-made : goal.returns-in_err-made
returns-in_err-made g c =
    rw (handed-on _ _ c.from_residual.ensures.1 ∙ sym c.in_err-made.was)
    (rows-refused _ _ _ _ _ _ c.by_appends-made.ensures _ _ _ c.in_err-made.was (refl, refl))

pub returns-in-Plain : goal.returns-in-Plain
returns-in-Plain g c =
    rw c.in-Plain.is (plain-settled _ _ _ _ _ _ c.by_appends-made.ensures c.in_ok-made.was
    _ _ _ _ _ _ _ c.plain.ensures)

pub returns-in-Tree : goal.returns-in-Tree
returns-in-Tree g c =
    rw c.in-Tree.is (tree-settled _ _ _ _ _ _ c.by_appends-made.ensures c.in_ok-made.was
    _ _ _ _ _ _ _ _ c.tree.ensures)
