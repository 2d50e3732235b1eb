use Rattle.std.proofs.Common.{◌≡◌, map, take}
use Rattle.layer_chain.specs.Tree.{name_of}
use Rattle.replica_node.proofs.names.names_in.Given as goal

-- the names of the layers before
abbrev pub invariant-loop-place : goal.invariant-loop-place
invariant-loop-place l = l.names.items ≡ map name_of (take l.place l.tree.layers)
