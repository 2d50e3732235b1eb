use Rattle.std.proofs.Common.{refl}
use Rattle.std.specs.Fmt.{digits}
use Rattle.run_report.proofs.rows.a_status_reads.Goals as goal

pub returns-clause-none : goal.returns-clause-none
unfolding digits
returns-clause-none c = refl

pub returns-clause-one : goal.returns-clause-one
unfolding digits
returns-clause-one c = refl

pub returns-clause-three : goal.returns-clause-three
unfolding digits
returns-clause-three c = refl
