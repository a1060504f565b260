-- `has_key` says whether a key stands at a place. Assumes nothing.
use Rattle.std.proofs.Common.{◌≡◌, subst}
use Rattle.std.proofs.lemmas.Bool.Decides.{Decides-eqb}
use Rattle.std.proofs.lemmas.Slice.Eq.{starts_is}
use Rattle.definitions.specs.Reading.{read_key}
use Rattle.reader.specs.Places.{opens}
use Rattle.reader.proofs.Keys.{key_starts, rest-whole}
use Rattle.reader.proofs.has_key.Goals as goal

pub returns : goal.returns
returns c =
    subst (λ s. c.starts_with.result ≡ opens (read_key c.args.key.now s)) (rest-whole c.args.text.now c.args.at)
    (key_starts _ _ _ (starts_is Decides-eqb _ _ _ c.starts_with.ensures.value))
