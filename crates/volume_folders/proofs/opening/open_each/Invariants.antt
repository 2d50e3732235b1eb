use Rattle.std.proofs.Common.{◌≡◌, length}
use Rattle.folder_checks.specs.Told.{Told}
use Rattle.volume_folders.specs.Heads.{AreHeadsTold}
use Rattle.volume_folders.specs.Steps.{AreOpenedSoFar, AreKnownSoFar}
use Rattle.volume_folders.proofs.opening.open_each.Given as goal

abbrev pub invariant-loop-shelf : goal.invariant-loop-shelf
invariant-loop-shelf g l = record {
  told : Told (g.S.Shelves.holds l.fn.shelves) (λ files. AreOpenedSoFar files l.size l.nodes.items l.reasons.items l.source);
  known : AreKnownSoFar l.size l.shelf l.nodes.items l.reasons.items l.source;
  heads : Told (g.S.Shelves.holds l.fn.shelves) (λ files. AreHeadsTold files l.reasons.items l.heads.items);
  many : length l.heads.items ≡ l.shelf;
  same : g.S.Shelves.holds l.shelves ≡ g.S.Shelves.holds l.fn.shelves;
  faults : g.S.Shelves.faults l.shelves ≡ g.S.Shelves.faults l.fn.shelves;
}
