use Rattle.std.proofs.Common.{◌≡◌, Some, drop}
use Rattle.layer_chain.specs.Tree.{reads}
use Rattle.layer_chain.proofs.reading.read_in.Given as goal

abbrev pub invariant-loop-layer : goal.invariant-loop-layer
invariant-loop-layer l = reads (drop l.layer-index l.layers) (Some l.want) l.block ≡ reads l.layers (Some l.fn.name) l.block
