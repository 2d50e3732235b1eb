use Rattle.std.proofs.Common.{ℕ, ◌<◌, Some}
use Rattle.std.specs.Prelude.{slice_index}
use Rattle.replica_node.specs.Fold.{HasNoOwnOf}
use Rattle.replica_node.specs.Places.{own_at}
use Rattle.layer_pages.proofs.pages.one_has.Given as goal

abbrev pub invariant-loop-i : goal.invariant-loop-i
invariant-loop-i l = (i : ℕ) → i < l.i → HasNoOwnOf (own_at l.node (Some (slice_index l.places i))) l.page
