use Rattle.std.proofs.Common.{◌*◌}
use Rattle.replica_node.specs.Fold.{tree_of}
use Rattle.layer_pages.specs.Chains.{chain_above}
use Rattle.layer_pages.specs.Pages.{ArePagesOf}
use Rattle.layer_pages.proofs.pages.pages_above.Given as goal

abbrev pub invariant-loop-page : goal.invariant-loop-page
invariant-loop-page l = ArePagesOf l.node (chain_above (tree_of l.node) l.name l.base) (l.page * 2097152) l.pages.items
