-- An operation on a record by the plain way, and Norms, from the verdict of its tests.
-- Proved: where they pass, the core is handed what it asks for, and with what it writes the promise is kept: for Expand, Adjoint and
-- Decompose, which is lent the stored inverses, and for Norms, which are copied. Assumes nothing.
use Rattle.std.specs.Prelude.{◌≡◌, List, [], ◌++◌, ℕ, ◌+◌, ◌-◌, ◌≤◌, length, get_or, take, drop, Ok}
use Rattle.std.proofs.Math.Path.{sym}
use Rattle.std.proofs.Common.{◌∙◌, ap, arith}
use Rattle.definitions.specs.Answers.{Answer, answered}
use Rattle.definitions.specs.Conversion.{decompose}
use Rattle.definitions.specs.Family.{Family, ones}
use Rattle.definitions.specs.Prepared.{Prepared, Right, own_rows}
use Rattle.definitions.specs.PreparedCalls.{prepared_plain_tests, prepared_norms_tests, PreparedPlainCall, PreparedNormsCall}
use Rattle.definitions.specs.Refusals.{verdict}
use Rattle.numbers.specs.Lists.{filled}
use Rattle.acceptance.specs.Acceptance.{PlainInput, NormsInput}
use Rattle.acceptance.specs.Promises.{tests-finish}
use Rattle.acceptance.specs.Stages.{stage-none}
use Rattle.lists.specs.Held.{Holds}
use Rattle.lists.specs.Inverses.{Inverts}
use Rattle.lists.specs.Lent.{lent, accepted-rows}
use Rattle.lists.specs.Whole.{written-whole}
use Rattle.plain.specs.Input.{ConvertInput, accepted-convert}
use Rattle.prepared_model.specs.Accepting.{prepared-plain-passes, prepared-norms-passes}
use Rattle.prepared_model.specs.Lending.{right-size, right-curve, right-converts, right-inverts-a, right-stored-norms}
use Rattle.prepared_model.specs.Rightness.{right-few, right-long, right-sized, right-a-inverses}

-- ---- the conversions
-- the family that a core is lent
pub lent-rows : (m r : ℕ) (a b c : List ℕ) → lent m (r + 1 - 1) a b c ones ≡ lent m r a b c ones
lent-rows m r a b c = let rows_are : r + 1 - 1 ≡ r = omega arith in ap (λ k. lent m k a b c ones) rows_are

module _ (p : Prepared) (u output : List ℕ) {r : Answer} (is : answered r ≡ verdict (prepared_plain_tests p u (length output)) [])
    (q : r ≡ Ok tt) where
  accepted : Right p × PlainInput (own_rows p) u (length output)
  accepted = (prepared-plain-passes p u (length output)).0 (stage-none (prepared_plain_tests p u (length output)) r is q)

  right : Right p
  right = accepted.0

  pub record-few : p.rows ≤ 127
  record-few = right-few right

  -- v stands in the place of the a
  core-input : {v : List ℕ} → Holds p.modulus p.rows v → ConvertInput p.modulus v p.b p.c u (p.rows + 1) output
  core-input holds =
      accepted-convert (right-long right) right.accepted holds (right-curve right accepted.1.curve)
      (omega (arith, right-size right, accepted.1.output_length))

  pub plain-core : ConvertInput p.modulus p.a p.b p.c u (p.rows + 1) output
  plain-core = core-input (accepted-rows p.modulus p.rows p.a p.b p.c ones (right-long right) right.accepted).a_holds

  pub decompose-core : ConvertInput p.modulus p.a_inverses p.b p.c u (p.rows + 1) output
  decompose-core = core-input (right-a-inverses right).holds

  pub plain-made : (convert : Family → List ℕ → List ℕ) {output' : List ℕ}
      → output' ≡ convert (lent p.modulus (p.rows + 1 - 1) p.a p.b p.c ones) (take (p.rows + 1) u) ++ drop (p.rows + 1) output
      → PreparedPlainCall convert p u (answered (Ok tt)) output output'
  plain-made convert e =
      tests-finish _ r is q (e ∙ written-whole _ output (p.rows + 1) (accepted.1.output_length ∙ sym (right-size right))
      ∙ right-converts right accepted.1.curve convert)

  pub decompose-made : {output' : List ℕ}
      → ((a : List ℕ) → Inverts p.modulus 0 (p.rows + 1 - 1) a p.a_inverses 1 1
      → output' ≡ decompose (lent p.modulus (p.rows + 1 - 1) a p.b p.c ones) (take (p.rows + 1) u) ++ drop (p.rows + 1) output)
      → PreparedPlainCall decompose p u (answered (Ok tt)) output output'
  decompose-made made = plain-made decompose (made p.a (right-inverts-a right))

-- ---- the norms, which are stored
module _ (p : Prepared) {r : Answer} (q : r ≡ Ok tt) where
  stored : (output : ℕ) → answered r ≡ verdict (prepared_norms_tests p output) [] → Right p × NormsInput (own_rows p) output
  stored output is = (prepared-norms-passes p output).0 (stage-none (prepared_norms_tests p output) r is q)

  pub norms-room : (output : ℕ) → answered r ≡ verdict (prepared_norms_tests p output) []
      → (p.rows + 1 ≤ length p.norms) × (p.rows + 1 ≤ output)
  norms-room output is =
      let right = (stored output is).0 in
      let output_length = (stored output is).1.output_length in
      (omega (arith, right-few right, (right-sized right).norms_length), omega (arith, right-size right, output_length))

  pub norms-made : (output : List ℕ) → answered r ≡ verdict (prepared_norms_tests p (length output)) [] → {output' : List ℕ}
      → output' ≡ filled (λ i. get_or p.norms i 0) (p.rows + 1) output → PreparedNormsCall p (answered (Ok tt)) output output'
  unfolding filled
  norms-made output is e =
      let right = (stored (length output) is).0 in
      tests-finish _ r is q (e ∙ written-whole _ output (p.rows + 1) ((stored (length output) is).1.output_length ∙ sym (right-size right))
      ∙ right-stored-norms right)
