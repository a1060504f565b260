-- `inverse_or_zero` meets its contract: what `invert` answers is the definition's inverse, or says that there is none. Assumes nothing.
use Rattle.std.proofs.Common.{◌∙◌}
use Rattle.std.specs.Prelude.{◌≡◌, ℕ, Result, Ok, Err}
use Rattle.std.specs.Result.{result_unwrap_or}
use Rattle.definitions.specs.Number.{inverse}
use Rattle.residue.specs.declared.SharedFactor.{SharedFactor}
use Rattle.residue.specs.Inversion.{InversionAnswer}
use Rattle.inverses.specs.OneByOne.{absent-zero}
use Rattle.inverses.proofs.inverse_or_zero.Goals as goal

or-zero : (m x : ℕ) (r : Result ℕ SharedFactor) → InversionAnswer m x r → result_unwrap_or r 0 ≡ inverse m x
or-zero m x (Ok y) found = found.value
or-zero m x (Err e) absent = absent-zero m x e.factor absent

pub returns : goal.returns
returns c = c.unwrap_or.ensures ∙ or-zero _ _ _ c.invert.ensures
