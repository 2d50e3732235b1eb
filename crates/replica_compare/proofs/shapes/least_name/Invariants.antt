use Rattle.std.proofs.Common.{◌-◌}
use Rattle.replica_compare.specs.Comparing.{ShapeDiffers}
use Rattle.replica_compare.specs.Least.{IsLeastOf}
use Rattle.replica_compare.proofs.shapes.least_name.Given as goal

abbrev pub invariant-loop-done : goal.invariant-loop-done
invariant-loop-done l = IsLeastOf (ShapeDiffers l.one l.other) l.from.layers (l.count - l.done) l.fn.first l.best
