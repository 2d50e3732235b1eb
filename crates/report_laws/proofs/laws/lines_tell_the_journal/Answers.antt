use Rattle.report_laws.proofs.ReportTells.{same_lines}
use Rattle.report_laws.proofs.laws.lines_tell_the_journal.Goals as goal

pub returns : goal.returns
returns c = same_lines
