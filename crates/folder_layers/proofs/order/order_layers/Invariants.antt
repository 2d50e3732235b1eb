use Rattle.std.proofs.Common.{◌≡◌, map, take, string_bytes}
use Rattle.std.specs.List.{All}
use Rattle.folder_checks.specs.Snapshots.{metas_of}
use Rattle.folder_layers.specs.Ordered.{IsSnapshotAt}
use Rattle.folder_layers.proofs.order.order_layers.Given as goal

abbrev pub invariant-loop-place : goal.invariant-loop-place
invariant-loop-place l = record {
  places : map (λ x. x.place) l.layers.items ≡ take l.place-index l.place-items;
  each : All (IsSnapshotAt (map string_bytes l.names) (metas_of l.snapshots)) l.layers.items;
}
