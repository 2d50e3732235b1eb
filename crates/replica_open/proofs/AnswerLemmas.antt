-- What the answers of `open` tell of a folder.
use Rattle.std.proofs.Common.{◌≡◌, ◌⊎◌, inr, ℕ, ◌/◌, ◌<◌, ◌≤◌, false, List, length, map, get_or, string_bytes}
use Rattle.std.proofs.Common.{Option, Some, None, Result, Ok, Err, IfOk, sym, ap, subst, ◌∙◌, arith}
use Rattle.std.specs.Prelude.{⊤}
use Rattle.std.proofs.lemmas.List.{get_or-map, length-map}
use Rattle.chain_meta.specs.ImageNames.{snapshot_file}
use Rattle.chain_meta.specs.Kinds.{largest_head}
use Rattle.chain_meta.specs.declared.disk_meta.DiskMeta.{DiskMeta}
use Rattle.folder_names.specs.Files.{meta_of}
use Rattle.shelf_traits.specs.Files.{Files}
use Rattle.folder_checks.specs.Checks.{FolderFault, AreGoodParts}
use Rattle.folder_checks.specs.Snapshots.{AreSnapshotMetas, metas_of, name_at}
use Rattle.folder_checks.specs.Told.{Told}
use Rattle.folder_checks.specs.declared.parts.Damage.{Damage}
use Rattle.folder_checks.specs.declared.parts.FolderParts.{FolderParts}
use Rattle.folder_checks.specs.declared.parts.ImageParts.{ImageParts}
use Rattle.folder_checks.proofs.ToldLemmas.{told_map}
use Rattle.folder_layers.specs.Folders.{misfit_file, HasMisfit}
use Rattle.folder_layers.specs.Layers.{AreFit, IsMisfit, HeadStandsOnNone, IsFirst, AreTooMany}
use Rattle.folder_layers.specs.Ordered.{CanBeLayers}
use Rattle.folder_layers.specs.declared.misfit.Misfit.{Misfit}
use Rattle.folder_layers.specs.declared.misfit.Misfit.TheVariants as at
use Rattle.replica_node.specs.Node.{Node}
use Rattle.replica_shelf.specs.Folder.{IsFolderOf}
use Rattle.replica_shelf.specs.declared.head.HeadMeta.{HeadMeta}
use Rattle.replica_open.specs.Building.{IsReadReplica, head_in}
use Rattle.replica_open.specs.Opening.{IsDamageOf}

-- ---- a layer that cannot stand where it is

-- its place is one of so many
abbrev pub IsWithin : ℕ → Misfit → Type 0
IsWithin count at.Head = ⊤
IsWithin count (at.Snapshot place) = place < count

pub within : (number : ℕ) (head : DiskMeta) (names : List (List ℕ)) (metas : List DiskMeta) (misfit : Misfit)
    → IsMisfit number head names metas misfit → IsWithin (length metas) misfit
within number head names metas misfit (HeadStandsOnNone none) = tt
within number head names metas misfit (IsFirst place less on before unfit) = less
within number head names metas misfit (AreTooMany on before many) = omega (arith, many)

-- the metadata that is told is that of the snapshot
pub snapshot_told : (names : List (List ℕ)) (snapshots : List ImageParts) (place : ℕ) (default : ImageParts)
    → AreSnapshotMetas names (metas_of snapshots) → place < length snapshots
    → meta_of (get_or snapshots place default).meta.name ≡ meta_of (snapshot_file (name_at names place))
snapshot_told names snapshots place default listed less =
    let count : length (metas_of snapshots) ≡ length snapshots = length-map snapshots (λ (p : ImageParts). p.meta) in
    ap meta_of (sym (ap (λ (m : DiskMeta). m.name) (get_or-map (λ (p : ImageParts). p.meta) snapshots place default _ less))
    ∙ listed.named place (omega (arith, less, count, listed.count)))

pub same_file : {E : Type 0} (r : Result Damage E) (file other : List ℕ) → file ≡ other → IfOk r (IsDamageOf file)
    → IfOk r (IsDamageOf other)
same_file r file other same told = subst (λ f. IfOk r (IsDamageOf f)) same told

-- ---- what is told

told_always : (a : Option Files) (P : Files → Type 0) → ((files : Files) → P files) → Told a P
told_always None P f = tt
told_always (Some files) P f = f files

pub misfit_is_told : (a : Option Files) (shelf size : ℕ) (parts : FolderParts) (misfit : Misfit) (damage : Damage)
    → IsMisfit parts.volume.head parts.head.meta (map string_bytes parts.names.items) (metas_of parts.snapshots.items) misfit
    → IsDamageOf (misfit_file parts.volume.head (map string_bytes parts.names.items) misfit) damage
    → Told a (λ files. AreGoodParts (files shelf) size parts
    → FolderFault (files shelf) size (size / 4096) (string_bytes damage.file) damage.place
    ⊎ HasMisfit (files shelf) size (string_bytes damage.file) damage.place)
misfit_is_told a shelf size parts misfit damage first told =
    told_always a _ (λ files good. inr (record {
      v = parts.volume;
      head = parts.head;
      names = map string_bytes parts.names.items;
      snapshots = parts.snapshots.items;
      good = good;
      misfit = misfit;
      first = first;
      file_is = told.0;
      place_is = told.1;
    }))

pub replica_is_told : (a : Option Files) (shelf size : ℕ) (parts : FolderParts) (found : Result Node Damage) (node : Node)
    (head : HeadMeta) → found ≡ Ok node → head ≡ head_in parts → Told a (λ files. IsReadReplica (files shelf) size parts found)
    → Told a (λ files. AreGoodParts (files shelf) size parts
    → (now : List ℕ) × IsFolderOf (files shelf) (record { now = now; head = head }) false node)
replica_is_told a shelf size parts found node head is head_is told =
    told_map a (λ files. IsReadReplica (files shelf) size parts (Ok node)) _
    (subst (λ r. Told a (λ files. IsReadReplica (files shelf) size parts r)) is told)
    (λ files read good. (
      parts.head.meta.created,
      subst (λ h. IsFolderOf (files shelf) (record { now = parts.head.meta.created; head = h }) false node) (sym head_is) (read good),
    ))

pub none_is_short : (a : Option Files) (shelf size : ℕ) (parts : FolderParts) (found : Result Node Damage) (damage : Damage)
    (P : Files → Type 0) → found ≡ Err damage → Told a (λ files. IsReadReplica (files shelf) size parts found)
    → Told a (λ files. AreGoodParts (files shelf) size parts → P files)
none_is_short a shelf size parts found damage P is told =
    told_map a (λ files. IsReadReplica (files shelf) size parts (Err damage)) _
    (subst (λ r. Told a (λ files. IsReadReplica (files shelf) size parts r)) is told)
    (λ files none good. absurd (none good))

-- ---- layers that fit may be layers

pub can_be_layers : (number : ℕ) (head : DiskMeta) (names : List (List ℕ)) (metas : List DiskMeta) → number ≤ largest_head
    → AreFit number head names metas → CanBeLayers names metas
can_be_layers number head names metas low fit = (number, omega (arith, low), fit.snapshots)
