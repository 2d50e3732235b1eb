-- A folder that is a replica has no flag of its volume, and no file of it is damaged.
use Rattle.std.proofs.Common.{◌≡◌, inl, inr, ℕ, ◌/◌, ◌^◌, ◌<◌, Bool, false, List, length, Option, Some, None}
use Rattle.std.proofs.Common.{refl, sym, ap, subst, ◌∙◌, arith}
use Rattle.std.specs.Prelude.{IsTrue, is_some, Contains, option_map}
use Rattle.std.proofs.lemmas.List.{get_or_default}
use Rattle.image_maps.proofs.MapLemmas.{no_bad_map}
use Rattle.image_maps.specs.Maps.{IsMap}
use Rattle.chain_meta.specs.ImageNames.{head_file, snapshot_file}
use Rattle.chain_meta.specs.DiskMetas.{SaysDisk}
use Rattle.chain_meta.specs.VolumeMetas.{SaysVolume}
use Rattle.chain_meta.specs.declared.disk_meta.DiskMeta.{DiskMeta}
use Rattle.chain_meta.specs.declared.volume_meta.VolumeMeta.{VolumeMeta}
use Rattle.folder_names.specs.Files.{Folder, volume_file, meta_of, map_of}
use Rattle.replica_node.specs.Node.{Node}
use Rattle.replica_node.specs.Places.{IsPlace, disk_at, own_at}
use Rattle.replica_shelf.specs.Folder.{Stamps, IsMapOf, HoldsBlocks, IsMetaOf, IsPartOf, IsVolumeOf, HasParts, IsFolderOf}
use Rattle.replica_shelf.specs.Folder.{head_meta_of, meta_at, image_at, volume_meta_of}
use Rattle.replica_compare.proofs.ShapeLemmas.{kept_place}
use Rattle.folder_checks.specs.Told.{FileTells}
use Rattle.folder_checks.specs.Images.{IsRight, IsBadMap, HasOtherLength, ImageFault, BadMeta, BadMap, BadLength}
use Rattle.folder_checks.specs.Snapshots.{HasSnapshot, name_at}
use Rattle.folder_checks.specs.Checks.{IsFlagged, FolderFault, BadVolume, BadHead, BadSnapshot}
use Rattle.folder_checks.specs.declared.parts.Flag.{Flag}
use Rattle.folder_checks.specs.declared.parts.Flag.TheVariants as flag
use Rattle.folder_laws.proofs.FileLemmas.{volume_is_one}
use Rattle.folder_laws.proofs.NodeLemmas.{IsSoundNode, name_of}

-- ---- what is there is told

pub volume_there : (folder : Folder) (v : VolumeMeta) → FileTells folder volume_file SaysVolume v → IsVolumeOf folder v
volume_there folder v told = record { text = told.text; there = told.short.there; few = told.short.few; says = told.says }

pub volume_told : (folder : Folder) (v : VolumeMeta) → IsVolumeOf folder v → FileTells folder volume_file SaysVolume v
volume_told folder v is = record { text = is.text; short = record { there = is.there; few = is.few }; says = is.says }

pub meta_there : (folder : Folder) (image : List ℕ) (m : DiskMeta) → FileTells folder (meta_of image) SaysDisk m → IsMetaOf folder image m
meta_there folder image m told =
    record { text = told.text; there = told.short.there; few = told.short.few; says = told.says }

meta_told : (folder : Folder) (image : List ℕ) (m : DiskMeta) → IsMetaOf folder image m → FileTells folder (meta_of image) SaysDisk m
meta_told folder image m is = record { text = is.text; short = record { there = is.there; few = is.few }; says = is.says }

-- ---- the volume

pub volume_is : (folder : Folder) (stamps : Stamps) (node : Node) (v : VolumeMeta) → IsFolderOf folder stamps false node
    → FileTells folder volume_file SaysVolume v → v ≡ volume_meta_of false false node
volume_is folder stamps node v is told =
    volume_is_one folder v (volume_meta_of false false node) (volume_there folder v told) is.volume

no_flag : (node : Node) (f : Flag) → IsFlagged (length node.disk) (volume_meta_of false false node) f → ⊥
no_flag node flag.Dirty is = cc
no_flag node flag.Rebuilding is = cc
no_flag node flag.Error is = cc
no_flag node flag.Size is = is.3 refl

pub unflagged : (folder : Folder) (stamps : Stamps) (node : Node) (v : VolumeMeta) (f : Flag) → IsFolderOf folder stamps false node
    → FileTells folder volume_file SaysVolume v → IsFlagged (length node.disk) v f → ⊥
unflagged folder stamps node v f is told flagged =
    no_flag node f (subst (λ m. IsFlagged (length node.disk) m f) (volume_is folder stamps node v is told) flagged)

-- ---- one image

one_text : (folder : Folder) (file : List ℕ) (text more : List ℕ) → folder file ≡ Some text → folder file ≡ Some more → text ≡ more
one_text folder file text more is too = cc

is_there : (folder : Folder) (file text : List ℕ) → folder file ≡ Some text → folder file ≡ None → ⊥
is_there folder file text is none = cc

no_bad : (folder : Folder) (image : List ℕ) (own : List Bool) (blocks place : ℕ) → blocks < 2 ^ 32 → length own ≡ blocks
    → IsMapOf folder image own → IsBadMap folder image blocks place → ⊥
no_bad folder image own blocks place small size is (inl absent) = is_there folder (map_of image) is.text is.there absent.0
no_bad folder image own blocks place small size is (inr (text, there, bad)) =
    let same : is.text ≡ text = one_text folder (map_of image) is.text text is.there there in
    no_bad_map text blocks place is.spans small
    (subst (λ n. IsMap text n is.spans) size (subst (λ t. IsMap t (length own) is.spans) same is.is_map)) bad

no_other_length : (folder : Folder) (image disk : List ℕ) (own : List Bool) (size place : ℕ) → length disk ≡ size
    → HoldsBlocks folder image disk own → HasOtherLength folder image size place → ⊥
no_other_length folder image disk own size place whole is (inl absent) = is_there folder image is.bytes is.there absent.0
no_other_length folder image disk own size place whole is (inr (bytes, there, told, other)) =
    let same : is.bytes ≡ bytes = one_text folder image is.bytes bytes is.there there in
    other (sym (ap length same) ∙ is.whole ∙ whole)

-- the parts of an image, as long as the volume, have no fault
pub no_fault : (folder : Folder) (image : List ℕ) (head : Option VolumeMeta) (meta : DiskMeta) (disk : List ℕ) (own : List Bool)
    (size blocks : ℕ) (file : List ℕ) (place : ℕ) → IsPartOf folder image meta disk own → IsRight image head meta
    → length disk ≡ size → length own ≡ blocks → blocks < 2 ^ 32 → ImageFault folder size blocks image head file place → ⊥
no_fault folder image head meta disk own size blocks file place part right whole count small (BadMeta none) =
    none (meta, record { told = meta_told folder image meta part.described; right = right })
no_fault folder image head meta disk own size blocks file place part right whole count small (BadMap at good bad) =
    no_bad folder image own blocks at small count part.listed bad
no_fault folder image head meta disk own size blocks file place part right whole count small (BadLength at good listed other) =
    no_other_length folder image disk own size at whole part.held other

-- ---- the images of a replica

own_size : (node : Node) (count : ℕ) (place : Option ℕ) → IsSoundNode node count → IsPlace node place
    → length (own_at node place) ≡ count
own_size node count None sound there = sound.head_own
own_size node count (Some place) sound there = sound.own place _ there

disk_size : (node : Node) (count : ℕ) (place : Option ℕ) → IsSoundNode node count → IsPlace node place
    → length (disk_at node place) ≡ length node.disk
disk_size node count None sound there = refl
disk_size node count (Some place) sound there = sound.disks place _ there

no_part_fault : (folder : Folder) (stamps : Stamps) (node : Node) (count : ℕ) (at : Option ℕ) (head : Option VolumeMeta)
    (file : List ℕ) (place : ℕ) → IsSoundNode node count → (parts : HasParts folder stamps node) → IsPlace node at
    → IsRight (image_at node at) head (meta_at stamps node at)
    → ImageFault folder (length node.disk) (length node.disk / 4096) (image_at node at) head file place → ⊥
no_part_fault folder stamps node count at head file place sound parts there right fault =
    let blocks : count ≡ length node.disk / 4096 = omega (arith, sound.size) in
    let own = own_size node count at sound there in
    no_fault folder (image_at node at) head (meta_at stamps node at) (disk_at node at) (own_at node at) (length node.disk)
    (length node.disk / 4096) file place (parts.parts at there) right (disk_size node count at sound there)
    (own ∙ blocks) (omega (arith, sound.small, blocks)) fault

head_right : (stamps : Stamps) (node : Node) (v : VolumeMeta) → v ≡ volume_meta_of false false node
    → IsRight (head_file node.number) (Some v) (head_meta_of stamps.head node)
head_right stamps node v same = record {
  named = refl;
  alike = λ w e. (refl, parent w (values w e));
}
  where
    values : (w : VolumeMeta) → Some v ≡ Some w → v ≡ w
    values w e = cc

    parent : (w : VolumeMeta) → v ≡ w → option_map snapshot_file node.on ≡ w.parent
    parent w e = sym (ap (λ (m : VolumeMeta). m.parent) same) ∙ ap (λ (m : VolumeMeta). m.parent) e

layer_right : (stamps : Stamps) (node : Node) (place : ℕ)
    → IsRight (image_at node (Some place)) None (meta_at stamps node (Some place))
layer_right stamps node place = record { named = refl; alike = λ v e. absurd (no v e) }
  where
    no : (v : VolumeMeta) → ◌≡◌ {A = Option VolumeMeta} None (Some v) → ⊥
    no v e = cc

-- ---- the snapshots of the folder

-- a snapshot that the folder has is a layer
pub snapshot_place : (folder : Folder) (stamps : Stamps) (node : Node) (name : List ℕ) → HasParts folder stamps node
    → HasSnapshot folder name → (i : ℕ) × (i < length node.layers) × (name_of node.layers i ≡ name)
snapshot_place folder stamps node name parts has = by_file (folder (meta_of (snapshot_file name))) refl has.1
  where
    by_file : (file : Option (List ℕ)) → folder (meta_of (snapshot_file name)) ≡ file → IsTrue (is_some file)
        → (i : ℕ) × (i < length node.layers) × (name_of node.layers i ≡ name)
    by_file None is absent = absurd (cc)
    by_file (Some text) is there = kept_place node.layers name (parts.no_more name text has.0 is)

pub name_there : (names : List (List ℕ)) (place : ℕ) → place < length names → Contains names (name_at names place)
name_there names place inside = (place, inside, get_or_default names place _ _ inside)

-- ---- the whole

pub undamaged : (folder : Folder) (stamps : Stamps) (node : Node) (count : ℕ) (file : List ℕ) (place : ℕ) → IsSoundNode node count
    → IsFolderOf folder stamps false node → FolderFault folder (length node.disk) (length node.disk / 4096) file place → ⊥
undamaged folder stamps node count file place sound is (BadVolume none) =
    none (volume_meta_of false false node) (volume_told folder (volume_meta_of false false node) is.volume)
undamaged folder stamps node count file place sound is (BadHead _ _ v clean fault) =
    let same = volume_is folder stamps node v is clean.told in
    no_part_fault folder stamps node count None (Some v) file place sound is.layers tt (head_right stamps node v same)
    (subst (λ n. ImageFault folder (length node.disk) (length node.disk / 4096) (head_file n) (Some v) file place)
    (ap (λ (m : VolumeMeta). m.head) same) fault)
undamaged folder stamps node count file place sound is (BadSnapshot _ _ v head names clean good listed has) =
    let name = name_at names has.at in
    let at = snapshot_place folder stamps node name is.layers (listed.there name (name_there names has.at has.within)) in
    no_part_fault folder stamps node count (Some at.0) None file place sound is.layers at.1 (layer_right stamps node at.0)
    (subst (λ n. ImageFault folder (length node.disk) (length node.disk / 4096) (snapshot_file n) None file place)
    (sym at.2) has.fault)
