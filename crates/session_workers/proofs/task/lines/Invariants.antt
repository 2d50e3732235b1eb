use Rattle.std.proofs.Common.{◌≡◌, length}
use Rattle.session_workers.proofs.task.lines.Given as goal

abbrev pub invariant-loop-replica : goal.invariant-loop-replica
invariant-loop-replica l = length l.channels.items ≡ l.replica
