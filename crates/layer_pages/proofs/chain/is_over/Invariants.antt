use Rattle.std.proofs.Common.{◌≡◌, drop}
use Rattle.volume_model.specs.Names.{has_name}
use Rattle.replica_node.specs.Fold.{tree_of}
use Rattle.layer_pages.specs.Chains.{chain_in, is_over}
use Rattle.layer_pages.proofs.chain.is_over.Given as goal

abbrev pub invariant-loop-place : goal.invariant-loop-place
invariant-loop-place l =
    has_name (chain_in (drop l.place (tree_of l.node)) l.wanted) l.base ≡ is_over (tree_of l.node) l.name l.base
