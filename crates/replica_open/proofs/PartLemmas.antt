-- The three files of an image that was read, and what is told of the volume.
use Rattle.std.proofs.Common.{◌≡◌, ℕ, ◌/◌, Bool, true, false, List, length, Option, Some, None, refl, sym, ap, subst, ◌∙◌}
use Rattle.std.specs.Prelude.{if◌then◌else◌}
use Rattle.std.specs.Option.{option_map}
use Rattle.image_maps.specs.Maps.{IsMap, has_block}
use Rattle.sparse_image.specs.Image.{Tables, block_at}
use Rattle.chain_meta.specs.DiskMetas.{SaysDisk}
use Rattle.chain_meta.specs.ImageNames.{snapshot_file}
use Rattle.chain_meta.specs.VolumeMetas.{SaysVolume}
use Rattle.chain_meta.specs.declared.disk_meta.DiskMeta.{DiskMeta}
use Rattle.chain_meta.specs.declared.volume_meta.VolumeMeta.{VolumeMeta}
use Rattle.replica_node.specs.Node.{Node, has_own}
use Rattle.replica_node.specs.Held.{own_block}
use Rattle.folder_names.specs.Files.{Folder}
use Rattle.replica_shelf.specs.Folder.{IsPartOf, IsVolumeOf, volume_meta_of}
use Rattle.folder_checks.specs.Images.{IsGoodImage, HasLength}
use Rattle.folder_checks.specs.Checks.{IsUnflagged, IsCleanVolume}
use Rattle.folder_checks.specs.declared.parts.ImageParts.{ImageParts}
use Rattle.replica_open.specs.Reading.{IsReadFrom}

-- two tests that both give a value, or both none
same_test : (p q : Bool) (x y : List ℕ) → (if p then Some x else None) ≡ (if q then Some y else None) → q ≡ p
same_test true true x y e = refl
same_test true false x y e = cc
same_test false true x y e = cc
same_test false false x y e = refl

same_value : (p q : Bool) (x y : List ℕ) → (if p then Some x else None) ≡ (if q then Some y else None) → p ≡ true → y ≡ x
same_value true true x y e is = cc
same_value true false x y e is = absurd (cc)
same_value false q x y e is = absurd (cc)

some_is : (a b : List ℕ) → Some a ≡ Some b → a ≡ b
some_is a b e = cc

-- an image of good files that was read, whose blocks are those that the disk itself has
pub part_of : (folder : Folder) (size : ℕ) (image : List ℕ) (head : Option VolumeMeta) (part : ImageParts) (meta : DiskMeta)
    (disk : List ℕ) (own : List Bool) (tables : Tables) → IsGoodImage folder size (size / 4096) image head part → meta ≡ part.meta
    → length disk ≡ size → length own ≡ size / 4096 → ((block : ℕ) → own_block disk own block ≡ block_at tables block)
    → IsReadFrom folder image part.spans.items tables → IsPartOf folder image meta disk own
part_of folder size image head part meta disk own tables good same long count owns read = record {
  listed = record {
    text = good.listed.0;
    there = good.listed.1;
    spans = part.spans.items;
    is_map = subst (λ n. IsMap good.listed.0 n part.spans.items) (sym count) good.listed.2;
    told = λ k. same_test (has_own own k) (has_block part.spans.items k) _ _ (owns k ∙ read.blocks k);
  };
  held = record {
    bytes = read.bytes;
    there = read.there;
    whole = ap length (some_is read.bytes good.whole.0 (sym read.there ∙ good.whole.1)) ∙ good.whole.2 ∙ sym long;
    blocks = λ k has. same_value (has_own own k) (has_block part.spans.items k) _ _ (owns k ∙ read.blocks k) has;
  };
  described = record {
    text = good.good.told.text;
    there = good.good.told.short.there;
    few = good.good.told.short.few;
    says = subst (SaysDisk good.good.told.text) (sym same) good.good.told.says;
  };
}

-- an image has its length by the name that its metadata tells too
pub length_by_name : (folder : Folder) (size blocks : ℕ) (image : List ℕ) (head : Option VolumeMeta) (part : ImageParts)
    → IsGoodImage folder size blocks image head part → HasLength folder part.meta.name size
length_by_name folder size blocks image head part good =
    subst (λ n. HasLength folder n size) (sym good.good.right.named) good.whole

-- ---- the volume

pub volume_is : (size : ℕ) (v : VolumeMeta) (node : Node) → IsUnflagged size v → node.number ≡ v.head
    → option_map snapshot_file node.on ≡ v.parent → length node.disk ≡ size → v ≡ volume_meta_of false false node
volume_is size v node clean number on long = λ i. record {
  dirty = clean.clean i;
  rebuilding = clean.built i;
  failed = clean.unfailed i;
  head = sym number i;
  parent = sym on i;
  size = (clean.same_size ∙ sym long) i;
}

pub volume_of : (folder : Folder) (size : ℕ) (v : VolumeMeta) (node : Node) → IsCleanVolume folder size v → node.number ≡ v.head
    → option_map snapshot_file node.on ≡ v.parent → length node.disk ≡ size → IsVolumeOf folder (volume_meta_of false false node)
volume_of folder size v node clean number on long = record {
  text = clean.told.text;
  there = clean.told.short.there;
  few = clean.told.short.few;
  says = subst (SaysVolume clean.told.text) (volume_is size v node clean.clean number on long) clean.told.says;
}
