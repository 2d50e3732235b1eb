use Rattle.std.proofs.Common.{◌≡◌, drop}
use Rattle.replica_compare.specs.Comparing.{shape_in}
use Rattle.replica_compare.proofs.shapes.shape_of.Given as goal

abbrev pub invariant-loop-place : goal.invariant-loop-place
invariant-loop-place l = shape_in (drop l.place l.node.layers) l.name ≡ shape_in l.node.layers l.name
