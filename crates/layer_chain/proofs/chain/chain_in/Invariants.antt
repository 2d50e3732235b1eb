use Rattle.std.proofs.Common.{◌≡◌, ◌++◌, drop}
use Rattle.layer_chain.specs.Tree.{marked_chain}
use Rattle.layer_chain.proofs.chain.chain_in.Given as goal

abbrev pub invariant-loop-place : goal.invariant-loop-place
invariant-loop-place l = l.chain.items ++ marked_chain (drop l.place l.layers) l.wanted ≡ marked_chain l.layers l.fn.name
