use Rattle.std.proofs.Common.{ℕ, ◌*◌, List}
use Rattle.coalesce.specs.Folding.{CanFoldAt}
use Rattle.replica_node.specs.Fold.{FoldsPages}
use Rattle.replica_node.proofs.fold.fold_pages.Given as goal

-- the pages before are folded
abbrev pub invariant-loop-page : goal.invariant-loop-page
invariant-loop-page l = (p c : List ℕ) → CanFoldAt l.fn.tree p c l.places → FoldsPages l.fn.tree l.tree p c l.places (l.pages * 512) l.page
