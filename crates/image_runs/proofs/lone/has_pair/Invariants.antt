use Rattle.std.proofs.Common.{◌≢◌, ℕ, ◌+◌, ◌<◌, slice_index}
use Rattle.std.specs.Bool.{OnFalse}
use Rattle.image_runs.proofs.lone.has_pair.Given as goal

abbrev pub invariant-loop-i : goal.invariant-loop-i
invariant-loop-i l = OnFalse l.found ((k : ℕ) → k < l.i → slice_index l.bytes k ≢ slice_index l.bytes (k + 1))
