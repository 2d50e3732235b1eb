use Rattle.std.proofs.Common.{◌≡◌, ℕ, ◌<◌, true, slice_index_or}
use Rattle.stream_workers.proofs.tasks.are_served.Given as goal

abbrev pub invariant-loop-task : goal.invariant-loop-task
invariant-loop-task g l = (k : ℕ) (d : _) → k < l.task-index → (slice_index_or l.tasks k d).served ≡ true
