-- `put_printed` puts what is printed for a line: by each test that refuses, and by none. Assumes nothing.
use mathlib.Core.Path.{subst}
use native.Mathlib.Omega.{arith}
use Rattle.store_lines.specs.Printed.{printed-1, printed-2, printed-5, printed-list, put-refusal, put-printed}
use Rattle.store_lines.specs.Requests.{Requested}
use Rattle.store_lines.proofs.put_printed.Goals as goal

pub returns-then-is_too_long : goal.returns-then-is_too_long
returns-then-is_too_long c =
    put-refusal _ _ 1 _ _ _ c.put_number_line.ensures (printed-1 _ c.if-is_too_long.true)

pub returns-in_default : goal.returns-in_default
returns-in_default c =
    put-refusal _ _ 2 _ _ _ c.put_number_line-in_default.ensures
    (printed-2 _ c.if-is_too_long.false (subst (Requested _ _) c.in_default.is c.read_request.ensures))

pub returns-then-count-gt128 : goal.returns-then-count-gt128
returns-then-count-gt128 c =
    let request = subst (Requested _ _) c.in-Some.is c.read_request.ensures in
    put-refusal _ _ 5 _ _ _ c.put_number_line-then-count-gt128.ensures
    (printed-5 _ c.if-is_too_long.false _ _ request.read (omega (arith, request.fronted.count, c.if-count-gt128.true)))

pub returns : goal.returns
returns c =
    let request = subst (Requested _ _) c.in-Some.is c.read_request.ensures in
    put-printed _ _ _ _ _ _ _ _ c.put_arranged.ensures (request.fronted.front (omega arith))
    (printed-list _ c.if-is_too_long.false _ _ request.read (omega (arith, request.fronted.count, c.if-count-gt128.false)))
