use Rattle.std.proofs.Common.{◌≡◌, ◌-◌}
use Rattle.shelf_traits.specs.Files.{Both, OthersStay}
use Rattle.replica_node.specs.Places.{disk_at, own_at}
use Rattle.replica_shelf.specs.Saving.{HoldsBelow}
use Rattle.replica_shelf.proofs.image.put_image.Given as goal

abbrev pub invariant-loop-block : goal.invariant-loop-block
invariant-loop-block g l = record {
  held : Both (g.S.Shelves.holds l.fn.shelves) (g.S.Shelves.holds l.shelves)
      (λ old new. HoldsBelow (new l.shelf) l.image (disk_at l.node l.place) (own_at l.node l.place) l.block);
  others : Both (g.S.Shelves.holds l.fn.shelves) (g.S.Shelves.holds l.shelves) (OthersStay l.shelf l.image);
  faults : g.S.Shelves.faults l.shelves ≡ g.S.Shelves.faults l.fn.shelves;
}

abbrev pub decreases-loop-block : goal.decreases-loop-block
decreases-loop-block g l = l.count - l.block
