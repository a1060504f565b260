-- `load_numbers` loads the numbers up to the end of a line: the laws of `Loading` at the loop. Assumes nothing.
use Rattle.std.proofs.Common.{arith, ◌∙◌}
use Rattle.std.proofs.Math.Path.{subst⁻¹}
use Rattle.reader.specs.Places.{number-found, number-missed}
use Rattle.reader.specs.Storing.{Listed}
use Rattle.reader.proofs.Keys.{byte-at, no_byte}
use Rattle.reader.proofs.Loading.{list-past, list-empty, loading-starts}
use Rattle.reader.proofs.Loading.{loading-none, loading-past, loading-open, loading-next, loading-ends, loading-other}
use Rattle.reader.proofs.load_numbers.Goals as goal

pub returns-in_err-get : goal.returns-in_err-get
returns-in_err-get c =
    subst⁻¹ (Listed _ _ _ _) c.from_residual.ensures (list-past _ _ c.args.out.now (no_byte _ _ c.in_err-get.ensures.lookup.0))

pub returns-then-branch-eq10 : goal.returns-then-branch-eq10
returns-then-branch-eq10 c =
    let byte = byte-at _ _ _ c.in_ok-get.ensures.lookup.0 c.in_ok-get.ensures.lookup.1 in
    list-empty _ _ _ byte.inside (byte.is ∙ c.if-branch-eq10.true)

pub loop-i-init : goal.loop-i-init
loop-i-init c =
    let byte = byte-at _ _ _ c.in_ok-get.ensures.lookup.0 c.in_ok-get.ensures.lookup.1 in
    loading-starts _ _ _ byte.inside (λ e. c.if-branch-eq10.false (omega (arith, byte.is)))

pub returns-in_err-number : goal.returns-in_err-number
returns-in_err-number c =
    subst⁻¹ (Listed _ _ _ _) c.from_residual-in_err-number.ensures
    (loading-none _ _ _ _ _ _ c.loop-i.invariant (number-missed c.args.text.now c.loop-i.i _ c.read_number.ensures c.in_err-number.was))

pub returns-in_err-b : goal.returns-in_err-b
returns-in_err-b c =
    subst⁻¹ (Listed _ _ _ _) c.from_residual-in_err-b.ensures
    (loading-open _ _ _ _ _ _ c.loop-i.invariant
    _ _ (number-found _ _ _ c.read_number.ensures _ _ c.in_ok-number.was) (no_byte _ _ c.in_err-b.ensures.lookup.0))

pub loop-i-smaller : goal.loop-i-smaller
loop-i-smaller c =
    let there = number-found c.args.text.now c.loop-i.i _ c.read_number.ensures _ _ c.in_ok-number.was in
    omega (arith, there.on)

pub loop-i-preserved : goal.loop-i-preserved
loop-i-preserved c =
    let byte = byte-at _ _ _ c.in_ok-b.ensures.lookup.0 c.in_ok-b.ensures.lookup.1 in
    loading-next _ _ _ _ _ _ c.loop-i.invariant _ _ (number-found _ _ _ c.read_number.ensures _ _ c.in_ok-number.was)
    byte.inside _ c.store.ensures (byte.is ∙ c.in-32.is)

pub returns-in-10 : goal.returns-in-10
returns-in-10 c =
    let byte = byte-at _ _ _ c.in_ok-b.ensures.lookup.0 c.in_ok-b.ensures.lookup.1 in
    loading-ends _ _ _ _ _ _ c.loop-i.invariant _ _ (number-found _ _ _ c.read_number.ensures _ _ c.in_ok-number.was)
    byte.inside _ c.store.ensures (byte.is ∙ c.in-10.is)

pub returns-in_default : goal.returns-in_default
returns-in_default c =
    let byte = byte-at _ _ _ c.in_ok-b.ensures.lookup.0 c.in_ok-b.ensures.lookup.1 in
    loading-other _ _ _ _ _ _ c.loop-i.invariant _ _ (number-found _ _ _ c.read_number.ensures _ _ c.in_ok-number.was)
    byte.inside (λ e. c.in_default.in_default-own.rest.0.1 (omega (arith, byte.is))) (λ e. c.in_default.in_default-own.rest.1 (omega (arith, byte.is)))

pub returns : goal.returns
returns c = loading-past _ _ _ _ _ _ c.loop-i.invariant c.loop-i-test.false
