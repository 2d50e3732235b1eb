use Rattle.std.proofs.Common.{◌≢◌, ℕ, ◌<◌}
use Rattle.open_calls.specs.Calls.{open_at}
use Rattle.volume_core.proofs.turn.is_idle.Given as goal

abbrev pub invariant-loop-i : goal.invariant-loop-i
invariant-loop-i l = (k : ℕ) → k < l.i → (open_at l.world.calls.items k).stream ≢ l.stream
