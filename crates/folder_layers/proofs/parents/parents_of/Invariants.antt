use Rattle.folder_checks.specs.Snapshots.{metas_of}
use Rattle.folder_layers.specs.Parents.{AreParentsBelow}
use Rattle.folder_layers.proofs.parents.parents_of.Given as goal

abbrev pub invariant-loop-snapshot : goal.invariant-loop-snapshot
invariant-loop-snapshot l = AreParentsBelow (metas_of l.snapshots) l.snapshot-index l.parents.items
