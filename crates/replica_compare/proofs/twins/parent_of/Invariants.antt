use Rattle.std.proofs.Common.{◌≢◌, ℕ, ◌<◌, Some}
use Rattle.replica_node.specs.Places.{kept_at}
use Rattle.replica_compare.proofs.twins.parent_of.Given as goal

abbrev pub invariant-loop-older : goal.invariant-loop-older
invariant-loop-older l =
    (older : ℕ) → l.place < older → older < l.older → (kept_at l.node.layers l.place).meta.parent ≢ Some
    (kept_at l.node.layers older).meta.name
