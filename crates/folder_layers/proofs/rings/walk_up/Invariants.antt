use Rattle.folder_layers.specs.Rings.{IsOnWay}
use Rattle.folder_layers.proofs.rings.walk_up.Given as goal

abbrev pub invariant-loop-step : goal.invariant-loop-step
invariant-loop-step l = IsOnWay l.parents l.place l.step l.at
