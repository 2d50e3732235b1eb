use Rattle.std.proofs.Common.{◌≡◌, drop}
use Rattle.replica_node.specs.Fold.{tree_of}
use Rattle.opened_world.specs.Names.{names_of}
use Rattle.opened_world.proofs.names.take_disk.Given as goal

abbrev pub invariant-loop-place : goal.invariant-loop-place
invariant-loop-place l = l.names ≡ names_of (drop l.place (tree_of l.disk))
