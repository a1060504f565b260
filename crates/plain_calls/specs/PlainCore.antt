-- From what a plain call accepts, its lists lent whole, to what its core asks, and from what the core writes to the definition's list.
-- Proved: both, for Expand, Adjoint and Decompose and for Norms. Assumes nothing.
use Rattle.std.specs.Prelude.{◌≡◌, List, ◌++◌, ℕ, suc, ◌+◌, ◌-◌, length, take, drop}
use Rattle.std.proofs.Common.{◌∙◌, ap, ap₂, arith, take_all}
use Rattle.definitions.specs.Family.{Family, Accepted, family, ones}
use Rattle.definitions.specs.Orthogonality.{norms}
use Rattle.acceptance.specs.Acceptance.{PlainInput, NormsInput}
use Rattle.inverses.specs.InverseArray.{InverseArray}
use Rattle.lists.specs.Held.{Holds}
use Rattle.lists.specs.Lent.{Long, lent, accepted-rows}
use Rattle.plain.specs.Input.{ConvertInput, NormsCoreInput, accepted-convert, accepted-norms}
use Rattle.lists.specs.Whole.{accepted-long, accepted-lent, lent-family, curve-held, written-whole}

module _ {m : ℕ} {a b c u : List ℕ} (output : List ℕ) (input : PlainInput (family m a b c) u (length output)) where
  long : Long (length a) a b c
  long = accepted-long input.accepted

  lent-accepted : Accepted (lent m (length a) a b c ones)
  lent-accepted = accepted-lent input.accepted

  -- v stands in the place of the a
  core-input : {v : List ℕ} → Holds m (length a) v → ConvertInput m v b c u (length a + 1) output
  core-input holds =
      accepted-convert long lent-accepted holds (curve-held input.curve) (omega (arith, input.output_length))

  pub plain-core : ConvertInput m a b c u (length a + 1) output
  plain-core = core-input (accepted-rows m (length a) a b c ones long lent-accepted).a_holds

  pub decompose-core : {v : List ℕ} → InverseArray m 0 (length a) a v → ConvertInput m v b c u (length a + 1) output
  decompose-core array = core-input array.holds

  pub plain-written : (convert : Family → List ℕ → List ℕ)
      → convert (lent m (length a + 1 - 1) a b c ones) (take (length a + 1) u) ++ drop (length a + 1) output ≡ convert (family m a b c) u
  plain-written convert =
      let lu : length u ≡ suc (length a) = input.curve.long in
      written-whole _ output (length a + 1) (omega (arith, input.output_length))
      ∙ ap₂ convert (lent-family input.accepted) (take_all (length a + 1) u (omega arith))

-- the family that Decompose is lent, of the first rows with the inverses in the place of the a
pub by-inverses : {m : ℕ} {a b c : List ℕ} → Accepted (family m a b c) → (v : List ℕ)
    → lent m (length a + 1 - 1) v b c ones ≡ family m (take (length a) v) b c
by-inverses {m} {a} {b} {c} accepted v =
    let rows_are : length a + 1 - 1 ≡ length a = omega arith in
    ap (λ r. lent m r v b c ones) rows_are
    ∙ rw (take_all (length a) b (omega (arith, accepted.b_length)), take_all (length a) c (omega (arith, accepted.c_length)))

module _ {m : ℕ} {a b c : List ℕ} (output : List ℕ) (input : NormsInput (family m a b c) (length output)) where
  pub norms-core : {v : List ℕ} → InverseArray m 0 (length a) a v → NormsCoreInput m v c (length a + 1) output
  norms-core array =
      accepted-norms (accepted-long input.accepted) (accepted-lent input.accepted) array.holds.long
      (omega (arith, input.output_length))

  pub norms-written : norms (lent m (length a + 1 - 1) a b c ones) ++ drop (length a + 1) output ≡ norms (family m a b c)
  norms-written = written-whole _ output (length a + 1) (omega (arith, input.output_length)) ∙ ap norms (lent-family input.accepted)
