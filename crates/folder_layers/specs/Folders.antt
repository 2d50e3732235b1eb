-- A folder whose files are good, each by itself, and whose layers do not fit together.
use Rattle.std.specs.Prelude.{◌≡◌, ℕ, ◌/◌, List, Contains}
use Rattle.vol_units.specs.declared.size.TheConstants.{BLOCK_BYTES}
use Rattle.chain_meta.specs.ImageNames.{head_file, snapshot_file}
use Rattle.chain_meta.specs.declared.volume_meta.VolumeMeta.{VolumeMeta}
use Rattle.folder_names.specs.Files.{Folder, meta_of}
use Rattle.folder_checks.specs.Snapshots.{name_at, metas_of}
use Rattle.folder_checks.specs.Checks.{AreAllGood}
use Rattle.folder_checks.specs.declared.parts.ImageParts.{ImageParts}
use Rattle.replica_node.specs.Node.{Node, layer_names}
use Rattle.folder_layers.specs.Layers.{IsEarlier, IsMisfit}
use Rattle.folder_layers.specs.declared.misfit.Misfit.{Misfit}
use Rattle.folder_layers.specs.declared.misfit.Misfit.TheVariants as at

-- the metadata of a layer that cannot stand where it is
abbrev pub misfit_file : ℕ → List (List ℕ) → Misfit → List ℕ
misfit_file number names at.Head = meta_of (head_file number)
misfit_file number names (at.Snapshot place) = meta_of (snapshot_file (name_at names place))

-- all files are good by themselves, and this is the file of the first layer that cannot stand where it is
pub record HasMisfit (folder : Folder) (size : ℕ) (file : List ℕ) (place : ℕ) : Type 0 where
  pub v : VolumeMeta
  pub head : ImageParts
  pub names : List (List ℕ)
  pub snapshots : List ImageParts
  pub good : AreAllGood folder size (size / BLOCK_BYTES) v head names snapshots
  pub misfit : Misfit
  pub first : IsMisfit v.head head.meta names (metas_of snapshots) misfit
  pub file_is : file ≡ misfit_file v.head names misfit
  pub place_is : place ≡ 0

-- the engine's own names of layers are of heads before this one
abbrev pub HasEarlierNames : Node → Type 0
HasEarlierNames node = (name : List ℕ) → Contains (layer_names node.layers) name → IsEarlier node.number name
