-- `answer_last` writes what is printed for the line, which stands at the front of its output. Assumes nothing.
use native.Mathlib.Omega.{arith}
use lib.Seq.{length-take-le}
use Rattle.store_lines.specs.Printed.{front-printed}
use Rattle.store.proofs.answer_last.Goals as goal

pub print_last-requires : goal.print_last-requires
print_last-requires g c =
    let long = length-take-le c.args.count c.args.list.now (omega arith) in
    (omega (arith, long), omega (arith, long), c.requires.4, front-printed _ _ _ _ c.put_printed-printed.ensures)
