use Rattle.std.proofs.Common.{◌≡◌, ◌/◌, ◌++◌, map}
use Rattle.std.specs.Prelude.{All}
use Rattle.layer_chain.specs.Tree.{name_of}
use Rattle.coalesce.specs.Folding.{snapshot_of}
use Rattle.replica_compare.specs.Order.{AreInTurn}
use Rattle.folder_checks.specs.Told.{Told}
use Rattle.replica_open.specs.Building.{IsLayerRead, HasLayers}
use Rattle.replica_open.proofs.layers.read_layers.Given as goal

abbrev pub invariant-loop-layer : goal.invariant-loop-layer
invariant-loop-layer g l = record {
  whole : l.yielded ++ l.layer-iterator.rest.items ≡ l.fn.layers.items;
  turn : AreInTurn (map name_of l.tree.layers) (map (λ o. snapshot_of o.meta) l.layer-iterator.rest.items);
  layers : HasLayers (l.size / 4096) l.yielded l.tree;
  read : Told (g.S.Shelves.holds l.fn.shelves)
      (λ files. All (IsLayerRead (files l.shelf) l.size l.snapshots l.fn.layers.items) l.tree.layers);
  same : g.S.Shelves.holds l.shelves ≡ g.S.Shelves.holds l.fn.shelves;
  faults : g.S.Shelves.faults l.shelves ≡ g.S.Shelves.faults l.fn.shelves;
}
