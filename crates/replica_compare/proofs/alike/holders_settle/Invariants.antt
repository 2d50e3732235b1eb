use Rattle.std.proofs.Common.{ℕ, ◌<◌, slice_index_or}
use Rattle.replica_node.specs.Places.{kept_at}
use Rattle.replica_compare.specs.Holders.{IsSettled}
use Rattle.replica_compare.proofs.alike.holders_settle.Given as goal

abbrev pub invariant-loop-i : goal.invariant-loop-i
invariant-loop-i l =
    (i : ℕ) → i < l.i → IsSettled l.one l.other (kept_at l.one.layers (slice_index_or l.holders.places i 0)).meta.name l.block
