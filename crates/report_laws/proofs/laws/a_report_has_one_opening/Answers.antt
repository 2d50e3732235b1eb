use Rattle.report_laws.proofs.ReportTells.{same_opening}
use Rattle.report_laws.proofs.laws.a_report_has_one_opening.Goals as goal

pub returns : goal.returns
returns c = same_opening
