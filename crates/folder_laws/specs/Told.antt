-- What is told of the layers of two replicas of one folder, by the names of the layers.
use Rattle.std.specs.Prelude.{◌≡◌, ℕ, List, [], ◌∷◌, Option, Some, None, if◌then◌else◌}
use Rattle.std.specs.Str.{bytes_eq}
use Rattle.chain_meta.specs.declared.disk_meta.DiskMeta.{DiskMeta}
use Rattle.replica_node.specs.Node.{Node, Kept}
use Rattle.replica_shelf.specs.Folder.{layer_meta_of}

-- what is told of the first layer of the name, if there is one, where `now` is the time of a layer that tells none
abbrev pub told_of_name : List ℕ → List Kept → List ℕ → Option DiskMeta
told_of_name now [] name = None
told_of_name now (k ∷ ks) name = if bytes_eq name k.meta.name then Some (layer_meta_of now k.meta) else told_of_name now ks name

-- the layers have the same names, and by these the same parents, marks, UserCreated and times
abbrev pub AreToldAlike : List ℕ → List ℕ → Node → Node → Type 0
AreToldAlike now later a b = (name : List ℕ) → told_of_name now a.layers name ≡ told_of_name later b.layers name
