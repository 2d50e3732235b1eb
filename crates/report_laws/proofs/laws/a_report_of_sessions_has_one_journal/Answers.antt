use Rattle.report_laws.proofs.SessionTells.{same_report, same_sessions}
use Rattle.report_laws.proofs.laws.a_report_of_sessions_has_one_journal.Goals as goal

pub returns-clause-journal : goal.returns-clause-journal
returns-clause-journal c = same_report

pub returns-clause-sessions : goal.returns-clause-sessions
returns-clause-sessions c = same_sessions
