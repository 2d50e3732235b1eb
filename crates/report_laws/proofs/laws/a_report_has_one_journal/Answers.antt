use Rattle.report_laws.proofs.ReportTells.{same_report, same_report_anyhow}
use Rattle.report_laws.proofs.laws.a_report_has_one_journal.Goals as goal

pub returns-clause-opened_alike : goal.returns-clause-opened_alike
returns-clause-opened_alike c = same_report

pub returns-clause-opened_anyhow : goal.returns-clause-opened_anyhow
returns-clause-opened_anyhow c = same_report_anyhow
