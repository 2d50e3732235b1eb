use Rattle.std.proofs.Common.{◌≢◌, ℕ, ◌<◌, map, string_bytes, Global, get_or, []}
use Rattle.shelf_memory.proofs.names.has_name.Given as goal

abbrev pub invariant-loop-place : goal.invariant-loop-place
invariant-loop-place l = (k : ℕ) → k < l.place → get_or (map (string_bytes {Z = Global}) l.names) k [] ≢ l.name
