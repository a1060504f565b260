-- `all_inverses` meets its contract: one by one, or from one inverse if the product of all has one. Assumes nothing.
use mathlib.Core.Path.{◌∙◌}
use native.Mathlib.Omega.{arith}
use Rattle.residue.specs.Inversion.{inverted-found}
use Rattle.inverses.specs.Sharing.{filled-again, sharable}
use Rattle.inverses.proofs.all_inverses.Goals as goal

pub returns-in_default : goal.returns-in_default
returns-in_default c =
    c.one_by_one-in_default.ensures ∙ filled-again _ _ _ _ _ c.running_products.ensures.1

pub share_inverse-requires : goal.share_inverse-requires
share_inverse-requires c =
    sharable _ _ _ _ _ (omega arith) c.requires.0 c.requires.1 c.running_products.ensures.1 _ _
    c.running_products.ensures.0 (inverted-found _ _ c.invert-whole.ensures c.in-Ok.is)

pub returns : goal.returns
returns c =
    c.share_inverse.ensures ∙ filled-again _ _ _ _ _ c.running_products.ensures.1
