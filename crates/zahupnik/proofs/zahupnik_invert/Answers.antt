-- `zahupnik_invert` writes the inverse and the factor and returns 0, or writes the factor alone and returns 13, or writes nothing and returns the
-- number of another refusal. Assumes nothing.
use mathlib.Core.Path.{◌∙◌, ap}
use Rattle.std.specs.Prelude.{Err}
use Rattle.zahupnik.proofs.Returning.{found-returned, without-returned, early-returned}
use Rattle.zahupnik.proofs.zahupnik_invert.Goals as goal

pub returns-in-Ok : goal.returns-in-Ok
returns-in-Ok c = found-returned _ _ _ _ _ c.invert.ensures _ c.in-Ok.is

pub returns-in-Err-Shares : goal.returns-in-Err-Shares
returns-in-Err-Shares c = without-returned _ _ _ _ _ c.invert.ensures _ (c.in-Err-Shares.is ∙ ap Err c.in-Err-Shares.field-0-is)

pub returns-in-Err-Refused : goal.returns-in-Err-Refused
returns-in-Err-Refused c = rw c.from.ensures (early-returned _ _ _ _ _ c.invert.ensures _ (c.in-Err-Refused.is ∙ ap Err c.in-Err-Refused.field-0-is))
