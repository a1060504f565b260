-- `convert_front`, as the trait gives it, meets its contract: what `convert` writes stands at the front. The check finds this by itself; it stands
-- here so that a wrong body is refused by it, and not at a limit of the search. Assumes nothing.
use Rattle.std.proofs.Common.{◌∙◌, ap, add-one}
use Rattle.definitions.specs.Family.{size}
use Rattle.tree.proofs.Taken.{front-output}
use Rattle.tree.proofs.Conversion.convert_front.Goals as goal

pub returns : goal.returns
returns g c =
    front-output g.Self.Conversion.converted _ (add-one _ ∙ ap size c.family.view_is) c.convert.ensures.written c.convert.ensures.wiped
