use Rattle.std.proofs.Common.{◌≡◌, ◌≢◌, ℕ, ◌<◌, length}
use Rattle.volume_model.specs.declared.mode.Mode.TheVariants.{Err}
use Rattle.volume_model.specs.Modes.{mode_of}
use Rattle.open_calls.specs.Calls.{node_at}
use Rattle.open_calls.specs.Whole.{IsSpared, spare_at}
use Rattle.open_calls.proofs.spares.Spares.of.Given as goal

abbrev pub invariant-loop-r : goal.invariant-loop-r
invariant-loop-r l = record {
  many : length l.slots.items ≡ l.r;
  each : (k : ℕ) → k < l.r → mode_of l.modes k ≢ Err → IsSpared l.op (node_at l.nodes k) (spare_at l.slots.items k);
}
