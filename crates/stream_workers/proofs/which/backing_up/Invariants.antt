use Rattle.std.proofs.Common.{◌≡◌, ◌<◌, ℕ, false, slice_index_or}
use Rattle.script_text.specs.Good.{backs_up}
use Rattle.script_text.specs.declared.script.Stream.{Stream}
use Rattle.stream_workers.proofs.which.backing_up.Given as goal

-- The streams before have none.
abbrev pub invariant-loop-place : goal.invariant-loop-place
invariant-loop-place l = (k : ℕ) (d : Stream) → k < l.place → backs_up (slice_index_or l.streams k d) ≡ false
