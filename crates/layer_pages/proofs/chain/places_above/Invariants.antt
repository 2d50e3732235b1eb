use Rattle.std.proofs.Common.{◌≡◌, ◌++◌, drop, map}
use Rattle.replica_node.specs.Fold.{tree_of}
use Rattle.layer_pages.specs.Chains.{chain_in, chain_above, down_to}
use Rattle.layer_pages.specs.Places.{ArePlaces, snapshot_at}
use Rattle.layer_pages.proofs.chain.places_above.Given as goal

abbrev pub invariant-loop-place : goal.invariant-loop-place
invariant-loop-place l = record {
  within : ArePlaces l.node l.places.items;
  chain : map (snapshot_at l.node.layers) l.places.items ++ down_to l.base (chain_in (drop l.place (tree_of l.node)) l.wanted)
      ≡ chain_above (tree_of l.node) l.name l.base;
}
