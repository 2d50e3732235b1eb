use Rattle.std.proofs.Common.{◌≡◌, ◌≢◌, ℕ, ◌<◌, length, set}
use Rattle.volume_model.specs.declared.mode.Mode.TheVariants.{Wo, Err}
use Rattle.volume_model.specs.Modes.{mode_of}
use Rattle.open_calls.specs.Calls.{node_at}
use Rattle.open_calls.specs.Whole.{HasSpare, spare_at}
use Rattle.open_calls.proofs.spares.Spares.with_blank.Given as goal

abbrev pub invariant-loop-r : goal.invariant-loop-r
invariant-loop-r l = record {
  many : length l.slots.items ≡ l.r;
  each : (k : ℕ) → k < l.r → mode_of (set l.modes l.target Wo) k ≢ Err
      → HasSpare (node_at (set l.nodes l.target l.blank) k) (spare_at l.slots.items k);
}
