-- `unwritten` answers 141 where nobody reads, and there alone. The check finds both too; written out, they say what is wrong where another
-- status is answered, or another failure is taken for that. Assumes nothing.
use denote.Enum.Bare.{same_true}
use Rattle.std.proofs.Common.{◌∙◌, sym}
use Rattle.std.specs.contracts.io.ErrorKind.{the_type}
use Rattle.input.proofs.unwritten.Goals as goal

pub returns-then-is_unread-clause-unread : goal.returns-then-is_unread-clause-unread
returns-then-is_unread-clause-unread g c = λ _. c.from.ensures

pub returns-then-is_unread-clause-other : goal.returns-then-is_unread-clause-other
returns-then-is_unread-clause-other g c = λ other.
    absurd (other (sym c.kind.ensures ∙ same_true the_type tt _ _ (sym c.if-is_unread.ensures)))
