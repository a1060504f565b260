-- The ways by name, as they are printed. Assumes nothing.
use Rattle.std.specs.Prelude.{List, ℕ}
use Rattle.definitions.specs.Text.{bytes}
use Rattle.laws.specs.declared.Way.{Way}

abbrev pub name : Way → List ℕ
name Way.Plain = bytes "plain"
name Way.Tree = bytes "tree"
