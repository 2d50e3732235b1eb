use Rattle.std.proofs.Common.{refl}
use Rattle.std.specs.Fmt.{digits}
use Rattle.run_report.proofs.rows.the_report_reads.Goals as goal

pub returns-clause-done : goal.returns-clause-done
unfolding digits
returns-clause-done c = refl

pub returns-clause-refused : goal.returns-clause-refused
unfolding digits
returns-clause-refused c = refl
