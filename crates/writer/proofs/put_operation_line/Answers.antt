-- `put_operation_line` puts the line of an operation, whose bytes stand in the code for each of the five. Assumes nothing.
use Rattle.definitions.specs.Text.{line, name}
use Rattle.definitions.specs.declared.Operation.{Operation}
use Rattle.writer.specs.Lines.{put-named}
use Rattle.writer.proofs.put_operation_line.Goals as goal

pub returns-in-Expand : goal.returns-in-Expand
unfolding line name
returns-in-Expand c =
    put-named _ _ _ _ _ Operation.Expand c.in-Expand.is c.put_bytes.ensures

pub returns-in-Adjoint : goal.returns-in-Adjoint
unfolding line name
returns-in-Adjoint c =
    put-named _ _ _ _ _ Operation.Adjoint c.in-Adjoint.is c.put_bytes-in-Adjoint.ensures

pub returns-in-Decompose : goal.returns-in-Decompose
unfolding line name
returns-in-Decompose c =
    put-named _ _ _ _ _ Operation.Decompose c.in-Decompose.is c.put_bytes-in-Decompose.ensures

pub returns-in-Moments : goal.returns-in-Moments
unfolding line name
returns-in-Moments c =
    put-named _ _ _ _ _ Operation.Moments c.in-Moments.is c.put_bytes-in-Moments.ensures

pub returns-in-Norms : goal.returns-in-Norms
unfolding line name
returns-in-Norms c =
    put-named _ _ _ _ _ Operation.Norms c.in-Norms.is c.put_bytes-in-Norms.ensures
