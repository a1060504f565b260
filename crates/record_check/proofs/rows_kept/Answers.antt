-- `rows_kept` meets its contract: one list after the other, then the place for c_1. Assumes nothing.
use borrow.Author.Tests.{eq-eqb, eqb-true}
use Rattle.record_check.specs.Findings.{says-no, denied}
use Rattle.record_check.proofs.rows_kept.Goals as goal

pub returns-then-residues-5 : goal.returns-then-residues-5
returns-then-residues-5 c = (
  λ zero. record {
    a_kept = c.residues.ensures.0 c.if-residues.true;
    b_kept = c.residues-then-residues.ensures.0 c.if-residues-2.true;
    c_kept = c.residues-then-residues-2.ensures.0 c.if-residues-3.true;
    a_inverses_kept = c.residues-then-residues-3.ensures.0 c.if-residues-4.true;
    c_inverses_kept = c.residues-then-residues-4.ensures.0 c.if-residues-5.true;
    first_zero = eqb-true _ _ zero;
  },
  λ kept. eq-eqb _ _ kept.first_zero,
)

pub returns-else-residues-5 : goal.returns-else-residues-5
returns-else-residues-5 c = says-no (λ kept. denied c.residues-then-residues-4.ensures c.if-residues-5.false kept.c_inverses_kept)

pub returns-else-residues-4 : goal.returns-else-residues-4
returns-else-residues-4 c = says-no (λ kept. denied c.residues-then-residues-3.ensures c.if-residues-4.false kept.a_inverses_kept)

pub returns-else-residues-3 : goal.returns-else-residues-3
returns-else-residues-3 c = says-no (λ kept. denied c.residues-then-residues-2.ensures c.if-residues-3.false kept.c_kept)

pub returns-else-residues-2 : goal.returns-else-residues-2
returns-else-residues-2 c = says-no (λ kept. denied c.residues-then-residues.ensures c.if-residues-2.false kept.b_kept)

pub returns-else-residues : goal.returns-else-residues
returns-else-residues c = says-no (λ kept. denied c.residues.ensures c.if-residues.false kept.a_kept)
