-- The parents of snapshots, by their places.
use Rattle.std.specs.Prelude.{◌≡◌, ℕ, ◌<◌, List, length, Option, Some, None, slice_index_or}
use Rattle.chain_meta.specs.declared.disk_meta.DiskMeta.{DiskMeta}
use Rattle.folder_checks.specs.Snapshots.{told_at}
use Rattle.folder_layers.specs.Layers.{HasImage}

-- the parent of that layer is the snapshot at that place; none, where it has none or that is no snapshot
abbrev pub IsParentOf : List DiskMeta → DiskMeta → Option ℕ → Type 0
IsParentOf metas layer None = (image : List ℕ) → layer.parent ≡ Some image → HasImage metas image → ⊥
IsParentOf metas layer (Some place) = (place < length metas) × (layer.parent ≡ Some (told_at metas place).name)

abbrev pub parent_at : List (Option ℕ) → ℕ → Option ℕ
parent_at parents place = slice_index_or parents place None

-- these are the parents of the first, so many
pub record AreParentsBelow (metas : List DiskMeta) (count : ℕ) (parents : List (Option ℕ)) : Type 0 where
  pub count_is : length parents ≡ count
  pub each : (place : ℕ) → place < count → IsParentOf metas (told_at metas place) (parent_at parents place)

-- these are the parents of all
pub record AreParents (metas : List DiskMeta) (parents : List (Option ℕ)) : Type 0 where
  pub count : length parents ≡ length metas
  pub each : (place : ℕ) → place < length metas → IsParentOf metas (told_at metas place) (parent_at parents place)
