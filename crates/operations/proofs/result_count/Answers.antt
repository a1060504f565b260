-- `result_count` is the count that the definition has. Assumes that there are at most 127 rows.
use native.Mathlib.Numerals.{add-one}
use native.Mathlib.Omega.{arith}
use Rattle.operations.specs.Results.{result_count}
use Rattle.operations.proofs.result_count.Goals as goal

pub returns-in-Expand : goal.returns-in-Expand
unfolding result_count
returns-in-Expand c = rw (c.in-Expand.is, add-one)

pub returns-in-Adjoint : goal.returns-in-Adjoint
unfolding result_count
returns-in-Adjoint c = rw (c.in-Adjoint.is, add-one)

pub returns-in-Decompose : goal.returns-in-Decompose
unfolding result_count
returns-in-Decompose c = rw (c.in-Decompose.is, add-one)

pub returns-in-Moments : goal.returns-in-Moments
unfolding result_count
returns-in-Moments c = rw c.in-Moments.is (omega arith)

pub returns-in-Norms : goal.returns-in-Norms
unfolding result_count
returns-in-Norms c = rw (c.in-Norms.is, add-one)
