-- `invert` meets its contract: the laws of `Turning` at the loop. Assumes nothing.
use Prim.Native.Nat.{ℕ, ◌+◌, ◌*◌, ◌<◌, ◌≤◌}
use native.Mathlib.Nat.{mod-one}
use native.Mathlib.Omega.{arith}
use Rattle.numbers.specs.Euclid.{greatest-factor-one}
use Rattle.residue.specs.Inversion.{SharesFactor}
use Rattle.residue.specs.UnsignedEuclid.{turned, turned-again, first_fits, second_fits}
use Rattle.residue.specs.UnsignedEuclid.{found-middle, absent-middle, found-end, absent-end}
use Rattle.residue.proofs.invert.Goals as goal

shares-one : (x : ℕ) → SharesFactor 1 x 1
shares-one x = record { none = λ y h e. omega (arith, mod-one (x * y)); factor = greatest-factor-one x }

-- what is at most a word's number fits the word
within : {x m : ℕ} → x ≤ m → m < 4294967296 → x < 4294967296
within p q = omega arith

behind : (x y m : ℕ) → x + y ≤ m → m < 4294967296 → y < 4294967296
behind x y m p q = omega arith

pub returns-then-m-eq1 : goal.returns-then-m-eq1
returns-then-m-eq1 c = rw c.if-m-eq1.true (shares-one _)

pub overflow_add-t : goal.overflow_add-t
overflow_add-t c =
    let amounts = first_fits _ _ (omega arith) _ _ _ _ c.loop-s.invariant c.loop-s-test.true in
    record { fits = within amounts c.ranges.m.fits }

pub returns-then-has_inverse : goal.returns-then-has_inverse
returns-then-has_inverse c =
    found-middle _ _ (omega arith) _ _ _ _
    (turned _ _ (omega arith) _ _ _ _ c.loop-s.invariant c.loop-s-test.true)
    c.if-r-eq0.true c.if-has_inverse.true

pub returns-then-r-eq0 : goal.returns-then-r-eq0
returns-then-r-eq0 c =
    absent-middle _ _ (omega arith) _ _ _ _
    (turned _ _ (omega arith) _ _ _ _ c.loop-s.invariant c.loop-s-test.true)
    c.if-r-eq0.true c.if-has_inverse.false

pub overflow_mul-u : goal.overflow_mul-u
overflow_mul-u c =
    let turn = turned _ _ (omega arith) _ _ _ _ c.loop-s.invariant c.loop-s-test.true in
    let amounts = second_fits _ _ (omega arith) _ _ _ _ turn (omega arith) in
    record { fits = behind _ _ _ amounts c.ranges.m.fits }

pub overflow_add-u : goal.overflow_add-u
overflow_add-u c =
    let turn = turned _ _ (omega arith) _ _ _ _ c.loop-s.invariant c.loop-s-test.true in
    let amounts = second_fits _ _ (omega arith) _ _ _ _ turn (omega arith) in
    record { fits = within amounts c.ranges.m.fits }

pub loop-s-preserved : goal.loop-s-preserved
loop-s-preserved c =
    turned-again _ _ (omega arith) _ _ _ _ (turned _ _ (omega arith) _ _ _ _ c.loop-s.invariant c.loop-s-test.true)
    (omega arith)

pub returns-then-r-eq1 : goal.returns-then-r-eq1
returns-then-r-eq1 c = found-end _ _ (omega arith) _ _ _ _ c.loop-s.invariant (omega arith) c.if-r-eq1.true

pub returns-else-r-eq1 : goal.returns-else-r-eq1
returns-else-r-eq1 c = absent-end _ _ (omega arith) _ _ _ _ c.loop-s.invariant (omega arith) c.if-r-eq1.false
