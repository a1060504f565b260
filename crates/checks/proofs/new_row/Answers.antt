-- `new_row` meets its contract: the tests 9, 17, 10, 18 and 11 of the row, one after another. Assumes nothing.
use native.Mathlib.Omega.{arith}
use Rattle.residue.specs.Inversion.{inverted-found, inverted-absent, found-has}
use Rattle.checks.specs.NewRow.{all-below, row-outside, row-a-zero, row-a-lacks, row-c-zero, row-c-lacks, row-passes}
use Rattle.checks.specs.RowTests.{lacks}
use Rattle.checks.proofs.new_row.Goals as goal

pub returns-then-m-a : goal.returns-then-m-a
returns-then-m-a c = row-outside _ _ _ c.requires (λ below. absurd (omega (arith, below.a_below)))

pub returns-then-m-b : goal.returns-then-m-b
returns-then-m-b c = row-outside _ _ _ c.requires (λ below. absurd (omega (arith, below.b_below)))

pub returns-then-m-c : goal.returns-then-m-c
returns-then-m-c c = row-outside _ _ _ c.requires (λ below. absurd (omega (arith, below.c_below)))

pub returns-then-a-eq0 : goal.returns-then-a-eq0
returns-then-a-eq0 c =
    let below = all-below c.if-m-a.false c.if-m-b.false c.if-m-c.false in
    row-a-zero _ _ _ c.requires below (λ some. absurd (omega (arith, some, c.if-a-eq0.true)))

pub returns-in_default : goal.returns-in_default
returns-in_default c =
    let below = all-below c.if-m-a.false c.if-m-b.false c.if-m-c.false in
    row-a-lacks _ _ _ c.requires below (omega (arith, c.if-a-eq0.false))
    (lacks _ _ _ c.requires (inverted-absent _ _ c.invert.ensures c.in_default.is))

pub returns-then-place-lt-FIRST_C : goal.returns-then-place-lt-FIRST_C
returns-then-place-lt-FIRST_C c =
    let below = all-below c.if-m-a.false c.if-m-b.false c.if-m-c.false in
    row-passes _ _ _ c.requires below
    (found-has _ _ _ (inverted-found _ _ c.invert.ensures c.in-Ok.is))
    (λ l. absurd (omega arith))

pub returns-then-c-eq0 : goal.returns-then-c-eq0
returns-then-c-eq0 c =
    let below = all-below c.if-m-a.false c.if-m-b.false c.if-m-c.false in
    row-c-zero _ _ _ c.requires below
    (found-has _ _ _ (inverted-found _ _ c.invert.ensures c.in-Ok.is))
    (λ some. absurd (omega (arith, some c.if-place-lt-FIRST_C.false, c.if-c-eq0.true)))

pub returns-in_default-invert : goal.returns-in_default-invert
returns-in_default-invert c =
    let below = all-below c.if-m-a.false c.if-m-b.false c.if-m-c.false in
    row-c-lacks _ _ _ c.requires below
    (found-has _ _ _ (inverted-found _ _ c.invert.ensures c.in-Ok.is))
    (λ l. omega (arith, c.if-c-eq0.false))
    (λ has. lacks _ _ _ c.requires (inverted-absent _ _ c.invert-2.ensures c.in_default-invert.is) (has c.if-place-lt-FIRST_C.false))

pub returns : goal.returns
returns c =
    let below = all-below c.if-m-a.false c.if-m-b.false c.if-m-c.false in
    row-passes _ _ _ c.requires below
    (found-has _ _ _ (inverted-found _ _ c.invert.ensures c.in-Ok.is))
    (λ l. found-has _ _ _ (inverted-found _ _ c.invert-2.ensures c.in-Ok-invert.is))
