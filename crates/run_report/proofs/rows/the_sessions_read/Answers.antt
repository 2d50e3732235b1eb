use Rattle.std.proofs.Common.{refl}
use Rattle.std.specs.Fmt.{digits}
use Rattle.run_report.proofs.rows.the_sessions_read.Goals as goal

pub returns-clause-closed : goal.returns-clause-closed
unfolding digits
returns-clause-closed c = refl

pub returns-clause-ended : goal.returns-clause-ended
unfolding digits
returns-clause-ended c = refl

pub returns-clause-frame : goal.returns-clause-frame
unfolding digits
returns-clause-frame c = refl

pub returns-clause-full : goal.returns-clause-full
unfolding digits
returns-clause-full c = refl

pub returns-clause-read_fault : goal.returns-clause-read_fault
unfolding digits
returns-clause-read_fault c = refl

pub returns-clause-write_fault : goal.returns-clause-write_fault
unfolding digits
returns-clause-write_fault c = refl

pub returns-clause-two : goal.returns-clause-two
unfolding digits
returns-clause-two c = refl
