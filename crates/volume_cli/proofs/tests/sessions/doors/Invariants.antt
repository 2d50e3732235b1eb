use Rattle.std.proofs.Common.{◌≡◌}
use Rattle.volume_cli.proofs.tests.sessions.doors.Given as goal

abbrev pub invariant-loop-input : goal.invariant-loop-input
invariant-loop-input l = l.doors.faults ≡ 0
