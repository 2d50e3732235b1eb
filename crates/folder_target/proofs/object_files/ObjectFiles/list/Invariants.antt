use Rattle.folder_target.specs.ObjectNames.{AreListed}
use Rattle.folder_target.proofs.object_files.ObjectFiles.list.Given as goal

abbrev pub invariant-loop : goal.invariant-loop
invariant-loop g l = AreListed l.prefix l.listing.names.items
