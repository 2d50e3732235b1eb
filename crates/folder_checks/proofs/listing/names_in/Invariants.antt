use Rattle.std.proofs.Common.{map, string_bytes, Global}
use Rattle.folder_checks.specs.Listing.{HasSnapshots}
use Rattle.folder_checks.proofs.listing.names_in.Given as goal

abbrev pub invariant-loop-place : goal.invariant-loop-place
invariant-loop-place l = HasSnapshots (map (string_bytes {Z = Global}) l.files) l.place (map (string_bytes {Z = Global}) l.names.items)
