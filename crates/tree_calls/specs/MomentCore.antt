-- The cores of the moments and of Decompose by the tree way: lent the inverses of the a, and Decompose those of the c from row 2 on.
-- Proved: the record of what they are lent follows from an accepted input (moments-input, decompose-input), and from the record that the family can
-- be lent and what stands beside it; what the moments' core leaves is the definition's list (moments-left, moments-made). Assumes nothing.
use Rattle.std.specs.Prelude.{◌≡◌, List, [], ℕ, ◌+◌, ◌*◌, ◌-◌, length, Ok}
use Rattle.std.proofs.Common.{ap, subst, add-one, arith}
use Rattle.definitions.specs.Answers.{Answer, answered, MomentsCall}
use Rattle.definitions.specs.Family.{Family, Accepted, family, ones, rows, size}
use Rattle.definitions.specs.Orthogonality.{moments}
use Rattle.definitions.specs.Refusals.{verdict, moments_tests}
use Rattle.acceptance.specs.Acceptance.{MomentsInput, TreeInput, moments-passes}
use Rattle.acceptance.specs.Promises.{both-made}
use Rattle.acceptance.specs.Stages.{stage-none}
use Rattle.inverses.specs.InverseArray.{InverseArray, whole-inverts, whole-inverts-c}
use Rattle.lists.specs.Held.{Holds, Output}
use Rattle.lists.specs.Inverses.{Inverts}
use Rattle.lists.specs.Lending.{Lending}
use Rattle.lists.specs.Lent.{lent}
use Rattle.lists.specs.Whole.{accepted-long, accepted-lent, lent-family, curve-held, output-whole}
use Rattle.moment_way.specs.Input.{ClosedBy, MomentsCoreInput, DecomposeInput, accepted-moments, accepted-decompose}
use Rattle.moment_way.specs.Input.{closed-lending, moments-closed, decompose-closed, decompose-inverts}

pub moments-accepted : {f : Family} {output work : ℕ} {r : Answer} → answered r ≡ verdict (moments_tests f output work) []
    → r ≡ Ok tt → MomentsInput f output work
moments-accepted {f} {output} {work} {r} e q =
    (moments-passes f output work).0 (stage-none (moments_tests f output work) r e q)

module _ {m : ℕ} {a b c : List ℕ} (accepted : Accepted (family m a b c)) {v : List ℕ} (array : InverseArray m 0 (length a) a v) where
  pub moments-input : {output work : List ℕ} → MomentsInput (family m a b c) (length output) (length work)
      → MomentsCoreInput m a b c v ones 1 (length a + 1) output work
  moments-input input =
      accepted-moments (accepted-long accepted) (accepted-lent accepted) (whole-inverts accepted array)
      (omega (arith, input.output_length)) input.work_long

  pub decompose-input : {w : List ℕ} → InverseArray m 1 (length a) c w → {u output work : List ℕ}
      → TreeInput (family m a b c) u (length output) (length work)
      → DecomposeInput m a b c v w ones 1 1 u (length a + 1) output work
  decompose-input c_array input =
      accepted-decompose (accepted-long accepted) (accepted-lent accepted) (whole-inverts accepted array)
      (whole-inverts-c accepted c_array) (curve-held input.plain.curve) (omega (arith, input.plain.output_length)) input.work_long

-- ---- the inverses of the a, and of the c from row 2 on, of a family that is lent whole: its first rows are all
module _ {m : ℕ} {a b c : List ℕ} (accepted : Accepted (family m a b c)) {v output work : List ℕ} where
  pub moments-lending : MomentsCoreInput m a b c v ones 1 (length a + 1) output work → Lending (family m a b c)
  moments-lending core = subst Lending (lent-family accepted) (closed-lending core.closed)

  pub moments-beside : MomentsCoreInput m a b c v ones 1 (length a + 1) output work → Inverts m 0 (length a) a v 1 1
  moments-beside core = (subst (λ f. ClosedBy f ones v 1) (lent-family accepted) (moments-closed core)).a_inverts

  module _ {w u : List ℕ} (core : DecomposeInput m a b c v w ones 1 1 u (length a + 1) output work) where
    pub decompose-lending : Lending (family m a b c)
    decompose-lending = subst Lending (lent-family accepted) (closed-lending core.closed)

    pub decompose-beside : Inverts m 0 (length a) a v 1 1
    decompose-beside = (subst (λ f. ClosedBy f ones v 1) (lent-family accepted) (decompose-closed core)).a_inverts

    pub decompose-beside-c : Inverts m 1 (length a) c w 1 1
    decompose-beside-c = subst (λ f. Inverts m 1 (rows f) f.c w 1 1) (lent-family accepted) (decompose-inverts core)

    pub decompose-curve : Holds m (size (family m a b c)) u
    decompose-curve = let count : length a + 1 ≡ size (family m a b c) = omega arith in rw count at core.coefficients_hold

-- ---- the moments' list
pub moments-made : {m : ℕ} {a b c output work : List ℕ} → MomentsInput (family m a b c) (length output) (length work)
    → {r : Answer} {output' work' : List ℕ}
    → answered r ≡ verdict (moments_tests (family m a b c) (length output) (length work)) [] → r ≡ Ok tt
    → Output (moments (lent m (length a + 1 - 1) a b c ones)) (2 * (length a + 1) - 1) output output' work work'
    → MomentsCall (family m a b c) (answered (Ok tt)) output output' work work'
moments-made {a = a} input e q left =
    both-made e q (output-whole left (omega (arith, input.output_length)) (ap moments (lent-family input.accepted))) left.wiped

pub moments-left : {m : ℕ} {a b c output output' work work' : List ℕ} → Accepted (family m a b c)
    → Output (moments (family m a b c)) (2 * size (family m a b c) - 1) output output' work work'
    → Output (moments (lent m (length a + 1 - 1) a b c ones)) (2 * (length a + 1) - 1) output output' work work'
moments-left {a = a} accepted left = rw (lent-family accepted, add-one (length a)) left
