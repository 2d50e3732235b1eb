use Rattle.std.proofs.Common.{◌≤◌, length}
use Rattle.coalesce.specs.Search.{IsBest}
use Rattle.coalesce.proofs.next.next_fold.Given as goal

abbrev pub invariant-loop-place : goal.invariant-loop-place
invariant-loop-place l = IsBest l.tree l.place l.best × (l.place ≤ length l.tree.layers)

abbrev pub decreases-loop-place : goal.decreases-loop-place
decreases-loop-place l = l.place
