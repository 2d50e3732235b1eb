use Rattle.std.proofs.Common.{◌≡◌, ℕ, ◌<◌, false}
use Rattle.shelf_memory.specs.Kept.{is_file, kept_at}
use Rattle.shelf_memory.proofs.kept_file.place_of.Given as goal

abbrev pub invariant-loop-place : goal.invariant-loop-place
invariant-loop-place l = (k : ℕ) → k < l.place → is_file l.shelf l.name (kept_at l.files k) ≡ false
