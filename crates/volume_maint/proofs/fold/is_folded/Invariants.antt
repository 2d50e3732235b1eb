use Rattle.std.proofs.Common.{◌≡◌, ℕ, ◌<◌}
use Rattle.volume_model.specs.declared.mode.Mode.TheVariants.{Rw}
use Rattle.volume_model.specs.Modes.{mode_of}
use Rattle.open_calls.specs.Calls.{node_at}
use Rattle.replica_node.specs.Fold.{IsBare}
use Rattle.volume_core.specs.State.{state_of, modes_in}
use Rattle.volume_maint.proofs.fold.is_folded.Given as goal

abbrev pub invariant-loop-r : goal.invariant-loop-r
invariant-loop-r l = (k : ℕ) → k < l.r → mode_of (modes_in (state_of l.world)) k ≡ Rw
    → IsBare (node_at l.world.nodes.items k).layers l.child
