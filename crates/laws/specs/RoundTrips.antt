-- The round trips over the lists that the calls hand out, by either way each.
--   Undoes there back   on an accepted family, `there` hands out a curve, and `back` makes of it the curve that it came from
-- Proved: Expand and Decompose undo one another. That two calls, each with its own promise, come to ThereAndBack stands in RoundTrips of
-- proofs/. Assumes nothing.
use Rattle.std.specs.Prelude.{◌≡◌, List, ℕ, ◌<◌, ◌≤◌}
use Rattle.std.proofs.Common.{arith}
use Rattle.definitions.specs.Conversion.{expand, decompose}
use Rattle.definitions.specs.Family.{Family, Accepted, Curve}
use Rattle.acceptance.specs.Acceptance.{accepted-convertible}
use Rattle.theory.specs.Bridge.{expand-curve}
use Rattle.theory.specs.RoundTrip.{Decomposable, convertible-decomposable, decompose-curve, expand-decompose, decompose-expand}

-- ---- what undoes what
pub record Undoes (there back : Family → List ℕ → List ℕ) : Type 0 where
  pub curve : (f : Family) → Accepted f → (u : List ℕ) → Curve f (there f u)
  pub undone : (f : Family) → Accepted f → (u : List ℕ) → Curve f u → back f (there f u) ≡ u

positive : (f : Family) → Accepted f → 0 < f.m
positive f acc = let two : 2 ≤ f.m = acc.modulus.least in omega arith

decomposable : (f : Family) → Accepted f → Decomposable f
decomposable f acc = convertible-decomposable f (accepted-convertible f acc)

pub decompose-undoes-expand : Undoes expand decompose
decompose-undoes-expand =
    record { curve = λ f acc. expand-curve f (positive f acc); undone = λ f acc. decompose-expand f (decomposable f acc) }

pub expand-undoes-decompose : Undoes decompose expand
expand-undoes-decompose =
    record { curve = λ f acc. decompose-curve f (positive f acc); undone = λ f acc. expand-decompose f (decomposable f acc) }
