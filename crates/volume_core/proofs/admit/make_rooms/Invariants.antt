use Rattle.std.proofs.Common.{◌≢◌, ℕ, ◌<◌}
use Rattle.volume_model.specs.declared.mode.Mode.TheVariants.{Err}
use Rattle.volume_model.specs.Modes.{mode_of}
use Rattle.replica_node.specs.Room.{HasRoom}
use Rattle.open_calls.specs.Calls.{node_at}
use Rattle.open_calls.specs.Starts.{KeepsNodes}
use Rattle.volume_core.proofs.admit.make_rooms.Given as goal

abbrev pub invariant-loop-r : goal.invariant-loop-r
invariant-loop-r l = record {
  keeps : KeepsNodes l.fn.nodes.items l.nodes.items;
  rooms : (k : ℕ) → k < l.r → mode_of l.modes k ≢ Err → HasRoom (node_at l.nodes.items k) l.range;
}
