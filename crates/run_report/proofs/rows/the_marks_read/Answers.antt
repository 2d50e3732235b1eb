use Rattle.std.proofs.Common.{refl}
use Rattle.std.specs.Fmt.{digits}
use Rattle.run_report.proofs.rows.the_marks_read.Goals as goal

pub returns-clause-each : goal.returns-clause-each
unfolding digits
returns-clause-each c = refl

pub returns-clause-purge : goal.returns-clause-purge
unfolding digits
returns-clause-purge c = refl
