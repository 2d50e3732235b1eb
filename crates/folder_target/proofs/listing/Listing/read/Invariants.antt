use Rattle.folder_target.specs.ObjectNames.{AreListed}
use Rattle.folder_target.proofs.listing.Listing.read.Given as goal

abbrev pub invariant-loop-entry : goal.invariant-loop-entry
invariant-loop-entry g l = AreListed l.prefix l.self.names.items
