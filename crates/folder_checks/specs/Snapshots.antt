-- Which snapshots a folder has: each name of one whose metadata is there, in byte order.
use Rattle.std.specs.Prelude.{◌≡◌, ℕ, ◌+◌, ◌<◌, true, false, List, [], length, map, None, is_some, slice_index_or}
use Rattle.std.specs.Prelude.{Contains, IsTrue}
use Rattle.vol_units.specs.Name.{IsName}
use Rattle.volume_model.specs.Purge.{is_before}
use Rattle.chain_meta.specs.ImageNames.{snapshot_file}
use Rattle.chain_meta.specs.declared.disk_meta.DiskMeta.{DiskMeta}
use Rattle.folder_names.specs.Files.{Folder, meta_of}
use Rattle.folder_checks.specs.declared.parts.ImageParts.{ImageParts}

-- the metadata of the snapshot of that name is there
abbrev pub HasSnapshot : Folder → List ℕ → Type 0
HasSnapshot folder name = IsName name × IsTrue (is_some (folder (meta_of (snapshot_file name))))

-- the name at a place
abbrev pub name_at : List (List ℕ) → ℕ → List ℕ
name_at names place = slice_index_or names place []

-- each name comes before the next
abbrev pub AreRising : List (List ℕ) → Type 0
AreRising names = (place : ℕ) → place + 1 < length names → is_before (name_at names place) (name_at names (place + 1)) ≡ true

-- these are the snapshots of the folder, each once and in byte order
pub record AreSnapshots (folder : Folder) (names : List (List ℕ)) : Type 0 where
  pub there : (name : List ℕ) → Contains names name → HasSnapshot folder name
  pub all : (name : List ℕ) → HasSnapshot folder name → Contains names name
  pub rising : AreRising names

-- ---- what is told of them

-- what is told of the snapshot at a place
abbrev pub told_at : List DiskMeta → ℕ → DiskMeta
told_at metas place = slice_index_or metas place (record {
  created = [];
  name = [];
  parent = None;
  removed = false;
  user_created = false;
})

abbrev pub metas_of : List ImageParts → List DiskMeta
metas_of snapshots = map (λ p. p.meta) snapshots

-- these are names of snapshots, each once and in byte order, and this is told of each
pub record AreSnapshotMetas (names : List (List ℕ)) (metas : List DiskMeta) : Type 0 where
  pub count : length metas ≡ length names
  pub spelled : (name : List ℕ) → Contains names name → IsName name
  pub rising : AreRising names
  pub named : (place : ℕ) → place < length names → (told_at metas place).name ≡ snapshot_file (name_at names place)
