-- `main` writes what is printed for the text. The check finds this too; written out, it says what is wrong where another text is promised.
-- Assumes nothing.
use Rattle.printing.specs.Printouts.{prints-front}
use Rattle.channel.proofs.main.Goals as goal

pub print-requires : goal.print-requires
print-requires c = prints-front _ _ _ c.print_job-printout.ensures
