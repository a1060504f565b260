-- A call without a working list: where its tests pass, its input is accepted. Assumes nothing.
use Rattle.std.specs.Prelude.{◌≡◌, List, [], ℕ, Ok}
use Rattle.definitions.specs.Answers.{Answer, answered}
use Rattle.definitions.specs.Family.{Family}
use Rattle.definitions.specs.Refusals.{verdict, plain_tests, norms_tests}
use Rattle.acceptance.specs.Acceptance.{PlainInput, NormsInput, plain_passes, norms-passes}
use Rattle.acceptance.specs.Stages.{stage-none}

module _ {f : Family} where
  pub plain-input : {u : List ℕ} {output : ℕ} (r : Answer) → answered r ≡ verdict (plain_tests f u output) [] → r ≡ Ok tt
      → PlainInput f u output
  plain-input {u} {output} r is q = (plain_passes f u output).0 (stage-none (plain_tests f u output) r is q)

  pub norms-input : {output : ℕ} (r : Answer) → answered r ≡ verdict (norms_tests f output) [] → r ≡ Ok tt → NormsInput f output
  norms-input {output} r is q = (norms-passes f output).0 (stage-none (norms_tests f output) r is q)
