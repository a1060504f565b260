-- `numbers_line` reads a line of numbers: its key, and then the numbers. Assumes nothing.
use lib.ListN.{drop}
use Rattle.definitions.specs.Reading.{read_numbers}
use Rattle.reader.specs.Keys.{key-found, key-missed, line-none}
use Rattle.reader.specs.Lines.{line-listed}
use Rattle.reader.proofs.numbers_line.Goals as goal

pub returns-then-not-has_key : goal.returns-then-not-has_key
returns-then-not-has_key c =
    line-none c.args.key.now read_numbers (drop c.args.at c.args.text.now)
    (key-missed c.args.text.now c.args.at c.args.key.now _ c.has_key.ensures c.if-not-has_key.true)

pub returns : goal.returns
returns c =
    line-listed c.args.text.now c.args.at c.args.key.now _ _ c.load_numbers.result
    (key-found c.args.text.now c.args.at c.args.key.now _ c.has_key.ensures c.requires c.if-not-has_key.false)
    c.load_numbers.ensures
