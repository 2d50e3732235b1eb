use Rattle.std.proofs.Common.{refl}
use Rattle.std.specs.Fmt.{digits}
use Rattle.run_report.proofs.rows.the_opening_reads.Goals as goal

pub returns-clause-two : goal.returns-clause-two
unfolding digits
returns-clause-two c = refl

pub returns-clause-shape : goal.returns-clause-shape
unfolding digits
returns-clause-shape c = refl

pub returns-clause-unopened : goal.returns-clause-unopened
unfolding digits
returns-clause-unopened c = refl
