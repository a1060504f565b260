-- `products::used_length` meets its contract: it ends at a number that is not zero, or with nothing. Assumes nothing.
use Rattle.std.proofs.Common.{sym, ◌∙◌}
use Rattle.products.specs.Places.{used-less}
use Rattle.products.proofs.used_length.Goals as goal

pub loop-last-preserved : goal.loop-last-preserved
loop-last-preserved c = used-less _ _ _ _ _ c.loop-last-test.true
    c.loop-last.invariant
    (sym c.entry.ensures ∙ c.if-entry-ne0.false)
    (sym c.entry-in-loop-last.ensures ∙ c.if-entry-ne0-2.false)
