use Rattle.std.proofs.Common.{refl}
use Rattle.std.specs.Fmt.{digits}
use Rattle.run_report.proofs.rows.a_damaged_file_reads.Goals as goal

pub returns : goal.returns
unfolding digits
returns c = refl
