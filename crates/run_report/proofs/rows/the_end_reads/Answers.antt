use Rattle.std.proofs.Common.{refl}
use Rattle.std.specs.Fmt.{digits}
use Rattle.run_report.proofs.rows.the_end_reads.Goals as goal

pub returns-clause-failed : goal.returns-clause-failed
unfolding digits
returns-clause-failed c = refl

pub returns-clause-rebuilt : goal.returns-clause-rebuilt
unfolding digits
returns-clause-rebuilt c = refl

pub returns-clause-sound : goal.returns-clause-sound
unfolding digits
returns-clause-sound c = refl

pub returns-clause-alone : goal.returns-clause-alone
unfolding digits
returns-clause-alone c = refl

pub returns-clause-marked : goal.returns-clause-marked
unfolding digits
returns-clause-marked c = refl

pub returns-clause-unsaid : goal.returns-clause-unsaid
unfolding digits
returns-clause-unsaid c = refl
