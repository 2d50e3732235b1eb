use Rattle.std.proofs.Common.{◌≢◌, ℕ, ◌<◌}
use Rattle.open_calls.specs.Maint.{command_at}
use Rattle.core_laws.proofs.guards.has_no_command.Given as goal

abbrev pub invariant-loop-k : goal.invariant-loop-k
invariant-loop-k l = (j : ℕ) → j < l.k → (command_at l.world.commands.items j).stream ≢ l.stream
