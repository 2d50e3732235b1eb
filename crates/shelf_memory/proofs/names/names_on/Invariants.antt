use Rattle.std.proofs.Common.{map, string_bytes, Global}
use Rattle.shelf_memory.specs.Kept.{ListsFirst}
use Rattle.shelf_memory.proofs.names.names_on.Given as goal

abbrev pub invariant-loop-place : goal.invariant-loop-place
invariant-loop-place l = ListsFirst l.shelf (map (string_bytes {Z = Global}) l.names.items) l.files l.place
