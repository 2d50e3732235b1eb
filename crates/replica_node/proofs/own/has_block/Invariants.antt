use Rattle.std.proofs.Common.{ℕ, ◌<◌}
use Rattle.replica_node.specs.Fold.{HasNoBlockIn}
use Rattle.replica_node.proofs.own.has_block.Given as goal

-- none of the pages before has a block
abbrev pub invariant-loop-page : goal.invariant-loop-page
invariant-loop-page l = (page : ℕ) → page < l.page → HasNoBlockIn l.image page
