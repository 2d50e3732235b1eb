use Rattle.session_tables.specs.Tables.{IsSitting}
use Rattle.session_tables.proofs.sessions.call_all.Given as goal

abbrev pub invariant-loop-index : goal.invariant-loop-index
invariant-loop-index g l = IsSitting l.desk l.number l.sitting
