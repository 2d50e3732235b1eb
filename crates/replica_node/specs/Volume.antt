-- One replica as the plain volume that it is: its disk, a copy for each layer that can be used, and its layers as
-- snapshots.
use Rattle.std.specs.Prelude.{List, [], ◌∷◌, if◌then◌else◌}
use Rattle.volume_model.specs.PlainState.{Copy, Volume}
use Rattle.replica_node.specs.Node.{Kept, Node}
use Rattle.replica_node.specs.Fold.{snapshots_of}

-- what the layers that are not marked read as
abbrev pub copies_in : List Kept → List Copy
copies_in [] = []
copies_in (k ∷ ks) =
    if k.meta.marked then copies_in ks else record { name = k.meta.name; disk = k.disk } ∷ copies_in ks

-- the volume that the replica is
abbrev pub volume_of_node : Node → Volume
volume_of_node node = record {
  disk = node.disk;
  copies = copies_in node.layers;
  snapshots = snapshots_of node;
}

-- the replica with the layers of another: its head is as it was
abbrev pub with_layers_of : Node → Node → Node
with_layers_of node other = record node { layers = other.layers }
