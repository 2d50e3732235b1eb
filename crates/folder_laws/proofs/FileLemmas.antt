-- What a file of a folder tells is one: metadata, a map, a block, and a layer's name.
use Rattle.std.proofs.Common.{◌≡◌, ℕ, ◌^◌, ◌<◌, Bool, true, List, length, Option, Some, None, inl, inr}
use Rattle.std.proofs.Common.{refl, sym, ap, subst, ◌∙◌}
use Rattle.std.specs.Prelude.{option_map}
use Rattle.vol_units.specs.Name.{IsName}
use Rattle.image_maps.specs.Maps.{IsMap, has_block}
use Rattle.image_maps.proofs.MapLemmas.{one_map}
use Rattle.chain_meta.specs.ImageNames.{snapshot_file, IsImageName}
use Rattle.chain_meta.specs.DiskMetas.{SaysDisk}
use Rattle.chain_meta.specs.VolumeMetas.{SaysVolume}
use Rattle.chain_meta.specs.declared.disk_meta.DiskMeta.{DiskMeta}
use Rattle.chain_meta.specs.declared.volume_meta.VolumeMeta.{VolumeMeta}
use Rattle.chain_meta.proofs.DiskLemmas.{one_disk, names_image}
use Rattle.chain_meta.proofs.VolumeLemmas.{one_volume}
use Rattle.folder_names.specs.Files.{Folder, meta_of, map_of}
use Rattle.folder_names.proofs.NameLemmas.{snapshots_differ, head_no_snapshot}
use Rattle.replica_node.specs.Node.{has_own}
use Rattle.replica_node.specs.Held.{block_of}
use Rattle.replica_shelf.specs.Folder.{IsMapOf, HoldsBlocks, IsMetaOf, IsVolumeOf}

-- ---- one file

-- what a file holds is one, also where its name is told twice
one_text : (folder : Folder) (file other : List ℕ) (text more : List ℕ) → file ≡ other → folder file ≡ Some text
    → folder other ≡ Some more → text ≡ more
one_text folder file other text more same is too = values (sym is ∙ ap folder same ∙ too)
  where
    values : Some text ≡ Some more → text ≡ more
    values e = cc

pub volume_is_one : (folder : Folder) (m n : VolumeMeta) → IsVolumeOf folder m → IsVolumeOf folder n → m ≡ n
volume_is_one folder m n is too =
    let text : is.text ≡ too.text = one_text folder _ _ is.text too.text refl is.there too.there in
    one_volume is.text m n is.says (subst (λ t. SaysVolume t n) (sym text) too.says)

pub meta_is_one : (folder : Folder) (image other : List ℕ) (m n : DiskMeta) → image ≡ other → IsMetaOf folder image m
    → IsMetaOf folder other n → m ≡ n
meta_is_one folder image other m n same is too =
    let text : is.text ≡ too.text =
    one_text folder (meta_of image) (meta_of other) is.text too.text (ap meta_of same) is.there too.there in
    one_disk is.text m n is.says (subst (λ t. SaysDisk t n) (sym text) too.says)

-- which blocks are there is one
pub map_is_one : (folder : Folder) (image other : List ℕ) (own owns : List Bool) (count : ℕ) → image ≡ other
    → count < 2 ^ 32 → length own ≡ count → length owns ≡ count → IsMapOf folder image own → IsMapOf folder other owns
    → (block : ℕ) → has_own own block ≡ has_own owns block
map_is_one folder image other own owns count same small size also is too = λ block.
    let text : is.text ≡ too.text =
    one_text folder (map_of image) (map_of other) is.text too.text (ap map_of same) is.there too.there in
    let map : IsMap is.text count is.spans = subst (λ n. IsMap is.text n is.spans) size is.is_map in
    let maps : IsMap too.text count too.spans = subst (λ n. IsMap too.text n too.spans) also too.is_map in
    let spans : is.spans ≡ too.spans =
    one_map is.text count is.spans too.spans small map (subst (λ t. IsMap t count too.spans) (sym text) maps) in
    sym (is.told block) ∙ ap (λ s. has_block s block) spans ∙ too.told block

-- a block that both have is one
pub block_is_one : (folder : Folder) (image other disk disks : List ℕ) (own owns : List Bool) (block : ℕ) → image ≡ other
    → has_own own block ≡ true → has_own owns block ≡ true → HoldsBlocks folder image disk own
    → HoldsBlocks folder other disks owns → block_of disk block ≡ block_of disks block
block_is_one folder image other disk disks own owns block same here there is too =
    let bytes : is.bytes ≡ too.bytes = one_text folder image other is.bytes too.bytes same is.there too.there in
    sym (is.blocks block here) ∙ ap (λ b. block_of b block) bytes ∙ too.blocks block there

-- ---- names

-- parents that are told alike are one
pub parent_is_one : (p q : Option (List ℕ)) → option_map snapshot_file p ≡ option_map snapshot_file q → p ≡ q
parent_is_one None None e = refl
parent_is_one None (Some q) e = absurd (cc)
parent_is_one (Some p) None e = absurd (cc)
parent_is_one (Some p) (Some q) e = ap Some (snapshots_differ p q (files (snapshot_file p) (snapshot_file q) e))
  where
    files : (x y : List ℕ) → Some x ≡ Some y → x ≡ y
    files x y same = cc

name_of_image : (name : List ℕ) → IsImageName (snapshot_file name) → IsName name
name_of_image name (inl (n, is)) = absurd (head_no_snapshot n name (sym is.1))
name_of_image name (inr (other, is)) = subst IsName (sym (snapshots_differ name other is.1)) is.0

-- metadata names no snapshot but by a name
pub name_told : (text : List ℕ) (m : DiskMeta) (name : List ℕ) → m.name ≡ snapshot_file name → SaysDisk text m → IsName name
name_told text m name same says = name_of_image name (subst IsImageName same (names_image text m says))
