-- `read_request` reads a line by either key. Assumes nothing.
use Rattle.std.proofs.Math.Path.{subst⁻¹}
use Rattle.store_lines.specs.Requests.{Requested, asked-first, asked-back, asked-nothing}
use Rattle.store_lines.proofs.read_request.Goals as goal

pub returns-in-Some : goal.returns-in-Some
returns-in-Some c = asked-first _ _ _ c.in-Some.ensures

pub returns-in_err-count : goal.returns-in_err-count
returns-in_err-count c =
    subst⁻¹ (Requested _ _) c.from_residual.ensures (asked-nothing _ c.in_default.ensures c.in_err-count.ensures)

pub returns : goal.returns
returns c = asked-back _ c.in_default.ensures _ _ c.in_ok-count.ensures
