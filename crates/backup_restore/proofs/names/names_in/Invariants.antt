use Rattle.std.proofs.Common.{map, take, string_bytes, Global}
use Rattle.backup_restore.specs.Listing.{AreNamesIn}
use Rattle.backup_restore.proofs.names.names_in.Given as goal

abbrev pub invariant-loop-object : goal.invariant-loop-object
invariant-loop-object l = AreNamesIn l.prefix (take l.object-index (map (string_bytes {Z = Global}) l.objects)) l.names.items
