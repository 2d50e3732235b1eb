-- The names of snapshots among the names of files.
use Rattle.std.specs.Prelude.{◌≡◌, ℕ, ◌<◌, List, [], ◌∷◌, ◌++◌, slice_index_or, Contains}
use Rattle.vol_units.specs.Name.{IsName}
use Rattle.chain_meta.specs.ImageNames.{snapshot_file}
use Rattle.folder_names.specs.Files.{meta_of}

-- the file is the metadata of the snapshot of that name
abbrev pub IsSnapshotMeta : List ℕ → List ℕ → Type 0
IsSnapshotMeta name file = IsName name × (file ≡ meta_of (snapshot_file name))

-- the name of the snapshot whose metadata the file is comes behind these, if it is one
pub data AddsSnapshot (file : List ℕ) (old : List (List ℕ)) : List (List ℕ) → Type 0 where
  NoSnapshot : ((name : List ℕ) → IsSnapshotMeta name file → ⊥) → AddsSnapshot file old old
  OneMore : (name : List ℕ) → IsSnapshotMeta name file → AddsSnapshot file old (old ++ name ∷ [])

-- these are the names of the snapshots of the first files
pub record HasSnapshots (files : List (List ℕ)) (count : ℕ) (names : List (List ℕ)) : Type 0 where
  pub there : (name : List ℕ) → Contains names name → IsName name × Contains files (meta_of (snapshot_file name))
  pub all : (k : ℕ) → k < count → (name : List ℕ) → IsSnapshotMeta name (slice_index_or files k []) → Contains names name
