use Rattle.std.proofs.Common.{refl}
use Rattle.std.specs.Fmt.{digits}
use Rattle.run_report.proofs.rows.an_aborted_rebuild_reads.Goals as goal

pub returns-clause-call : goal.returns-clause-call
unfolding digits
returns-clause-call c = refl

pub returns-clause-frame : goal.returns-clause-frame
unfolding digits
returns-clause-frame c = refl
