-- `operation_line` compares the five lines that an operation can have: one of them stands there, or none is read there.
-- Assumes nothing.
use Rattle.definitions.specs.Text.{line, name}
use Rattle.definitions.specs.declared.Operation.{Operation}
use Rattle.reader.specs.Keys.{key-found, key-missed}
use Rattle.reader.specs.Lines.{operation_line, operation-found, operation-missed, each-operation}
use Rattle.reader.proofs.operation_line.Goals as goal

pub returns-then-has_key : goal.returns-then-has_key
unfolding line name
returns-then-has_key c =
    operation-found c.args.text.now c.args.at Operation.Expand
    (key-found _ _ (operation_line Operation.Expand) _ c.has_key.ensures c.requires c.if-has_key.true)

pub returns-then-has_key-2 : goal.returns-then-has_key-2
unfolding line name
returns-then-has_key-2 c =
    operation-found c.args.text.now c.args.at Operation.Adjoint
    (key-found _ _ (operation_line Operation.Adjoint) _ c.has_key-2.ensures c.requires c.if-has_key-2.true)

pub returns-then-has_key-3 : goal.returns-then-has_key-3
unfolding line name
returns-then-has_key-3 c =
    operation-found c.args.text.now c.args.at Operation.Decompose
    (key-found _ _ (operation_line Operation.Decompose) _ c.has_key-3.ensures c.requires c.if-has_key-3.true)

pub returns-then-has_key-4 : goal.returns-then-has_key-4
unfolding line name
returns-then-has_key-4 c =
    operation-found c.args.text.now c.args.at Operation.Moments
    (key-found _ _ (operation_line Operation.Moments) _ c.has_key-4.ensures c.requires c.if-has_key-4.true)

pub returns-then-has_key-5 : goal.returns-then-has_key-5
unfolding line name
returns-then-has_key-5 c =
    operation-found c.args.text.now c.args.at Operation.Norms
    (key-found _ _ (operation_line Operation.Norms) _ c.has_key-5.ensures c.requires c.if-has_key-5.true)

pub returns : goal.returns
unfolding line name
returns c =
    operation-missed c.args.text.now c.args.at (each-operation _
    (key-missed c.args.text.now c.args.at (operation_line Operation.Expand) _ c.has_key.ensures c.if-has_key.false)
    (key-missed c.args.text.now c.args.at (operation_line Operation.Adjoint) _ c.has_key-2.ensures c.if-has_key-2.false)
    (key-missed c.args.text.now c.args.at (operation_line Operation.Decompose) _ c.has_key-3.ensures c.if-has_key-3.false)
    (key-missed c.args.text.now c.args.at (operation_line Operation.Moments) _ c.has_key-4.ensures c.if-has_key-4.false)
    (key-missed c.args.text.now c.args.at (operation_line Operation.Norms) _ c.has_key-5.ensures c.if-has_key-5.false))
