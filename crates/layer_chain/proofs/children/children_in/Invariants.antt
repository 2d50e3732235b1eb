use Rattle.std.proofs.Common.{◌≡◌, take}
use Rattle.layer_chain.specs.Children.{children_named}
use Rattle.layer_chain.proofs.children.children_in.Given as goal

abbrev pub invariant-loop-layer : goal.invariant-loop-layer
invariant-loop-layer l = l.names.items ≡ children_named (take l.layer-index l.layers) l.name
