-- How a run begins with opened folders: as the disk, on replicas that are read and written where no reason stands against it.
use Rattle.std.specs.Prelude.{ℕ, List, Option, Some, None}
use Rattle.volume_model.specs.History.{Spot}
use Rattle.volume_model.specs.Modes.{source_of}
use Rattle.volume_model.specs.Names.{names_in}
use Rattle.volume_model.specs.Snapshots.{layer_count}
use Rattle.journal_book.specs.declared.opening.Opening.{Opening}
use Rattle.replica_node.specs.Node.{Node, blank}
use Rattle.replica_node.specs.Fold.{snapshots_of, tree_of}
use Rattle.replica_node.specs.Volume.{volume_of_node}
use Rattle.open_calls.specs.Calls.{node_at}
use Rattle.volume_folders.specs.declared.reason.Reason.{Reason}
use Rattle.volume_folders.specs.Reasons.{modes_for}
use Rattle.opened_world.specs.Names.{names_of}

-- the replica of a number, where one is given
abbrev pub replica_at : List Node → Option ℕ → Node
replica_at nodes None = blank 0
replica_at nodes (Some r) = node_at nodes r

-- the disk: the first replica that is read
abbrev pub disk_of : List Node → List (Option Reason) → Node
disk_of nodes reasons = replica_at nodes (source_of (modes_for reasons))

-- what a journal is told of the opening: the modes, the disk's layers, and the names of its snapshots
abbrev pub opened_opening : List Node → List (Option Reason) → Opening
opened_opening nodes reasons = record {
  modes = modes_for reasons;
  layers = layer_count (snapshots_of (disk_of nodes reasons));
  names = names_of (tree_of (disk_of nodes reasons));
}

-- where the run begins: the disk's volume, with the names of its snapshots, and the modes
abbrev pub opened_spot : List Node → List (Option Reason) → Spot
opened_spot nodes reasons = record {
  state = record {
    volume = volume_of_node (disk_of nodes reasons);
    used = names_in (names_of (tree_of (disk_of nodes reasons)));
  };
  modes = modes_for reasons;
}
