-- Two replicas of one folder: what is told of a layer, by its name, is one, and so is what it reads as.
use Rattle.std.proofs.Common.{◌≡◌, inl, inr, ℕ, zero, suc, ◌+◌, ◌*◌, ◌^◌, ◌<◌, ◌≤◌, Bool, true, false, List, length}
use Rattle.std.proofs.Common.{Option, Some, None, refl, sym, ap, subst, ◌∙◌, arith}
use Rattle.std.specs.Prelude.{All}
use Rattle.chain_meta.specs.ImageNames.{head_file, snapshot_file}
use Rattle.chain_meta.specs.declared.disk_meta.DiskMeta.{DiskMeta}
use Rattle.chain_meta.specs.declared.volume_meta.VolumeMeta.{VolumeMeta}
use Rattle.folder_names.specs.Files.{Folder}
use Rattle.volume_model.specs.Names.{NamesOnce}
use Rattle.replica_node.specs.Node.{Node, Kept, has_own, disk_named}
use Rattle.replica_node.specs.Fold.{tree_of}
use Rattle.replica_node.specs.Held.{block_of, read_below, IsChained}
use Rattle.replica_node.specs.Places.{kept_at, IsPlace, disk_at, own_at}
use Rattle.replica_shelf.specs.Folder.{Stamps, HasParts, IsFolderOf, image_at, meta_at, volume_meta_of}
use Rattle.replica_compare.specs.Comparing.{shape_in, ReadsAlikeAt, AreAlike}
use Rattle.replica_compare.proofs.ShapeLemmas.{kept_place}
use Rattle.replica_compare.proofs.ReadLemmas.{disk_place, parent_older, falls, same_readings}
use Rattle.folder_laws.specs.Told.{told_of_name, AreToldAlike}
use Rattle.folder_laws.proofs.FileLemmas.{volume_is_one, meta_is_one, map_is_one, block_is_one, parent_is_one, name_told}
use Rattle.folder_laws.proofs.LookLemmas.{IsFirst, IsAbsent, IsLooked, look}

-- what a replica of so many blocks keeps
pub record IsSound (node : Node) (count : ℕ) : Type 0 where
  pub once : NamesOnce (tree_of node)
  pub small : count < 2 ^ 32
  pub size : count * 4096 ≡ length node.disk
  pub own : All (λ (k : Kept). length k.own ≡ count) node.layers
  pub chained : IsChained node count

-- two replicas of so many blocks whose parts a folder has, their heads of one number and on one layer
record Pair : Type 0 where
  folder : Folder
  stamps : Stamps
  later : Stamps
  one : Node
  other : Node
  count : ℕ
  sound : IsSound one count
  sound_other : IsSound other count
  parts : HasParts folder stamps one
  parts_other : HasParts folder later other
  number : one.number ≡ other.number
  on : one.on ≡ other.on

abbrev turned : Pair → Pair
turned p = record {
  folder = p.folder;
  stamps = p.later;
  later = p.stamps;
  one = p.other;
  other = p.one;
  count = p.count;
  sound = p.sound_other;
  sound_other = p.sound;
  parts = p.parts_other;
  parts_other = p.parts;
  number = sym p.number;
  on = sym p.on;
}

-- ---- places of one image

record AreTwinPlaces (p : Pair) (here there : Option ℕ) : Type 0 where
  place : IsPlace p.one here
  place_other : IsPlace p.other there
  image : image_at p.one here ≡ image_at p.other there

twin_heads : (p : Pair) → AreTwinPlaces p None None
twin_heads p = record { place = tt; place_other = tt; image = ap head_file p.number }

twin_layers : (p : Pair) (i j : ℕ) → i < length p.one.layers → j < length p.other.layers
    → (kept_at p.one.layers i).meta.name ≡ (kept_at p.other.layers j).meta.name → AreTwinPlaces p (Some i) (Some j)
twin_layers p i j here there same = record { place = here; place_other = there; image = ap snapshot_file same }

twin_metas : (p : Pair) (x y : Option ℕ) → AreTwinPlaces p x y
    → meta_at p.stamps p.one x ≡ meta_at p.later p.other y
twin_metas p x y t =
    meta_is_one p.folder (image_at p.one x) (image_at p.other y) (meta_at p.stamps p.one x)
    (meta_at p.later p.other y) t.image
    (p.parts.parts x t.place).described (p.parts_other.parts y t.place_other).described

own_length : (node : Node) (count : ℕ) (place : Option ℕ) → IsSound node count → IsPlace node place
    → length (own_at node place) ≡ count
own_length node count None sound there = sound.chained.head.blocks
own_length node count (Some place) sound there = sound.own place _ there

twin_own : (p : Pair) (x y : Option ℕ) (block : ℕ) → AreTwinPlaces p x y
    → has_own (own_at p.one x) block ≡ has_own (own_at p.other y) block
twin_own p x y block t =
    map_is_one p.folder (image_at p.one x) (image_at p.other y) (own_at p.one x) (own_at p.other y) p.count t.image
    p.sound.small (own_length p.one p.count x p.sound t.place) (own_length p.other p.count y p.sound_other t.place_other)
    (p.parts.parts x t.place).listed (p.parts_other.parts y t.place_other).listed block

twin_blocks : (p : Pair) (x y : Option ℕ) (block : ℕ) → AreTwinPlaces p x y → has_own (own_at p.one x) block ≡ true
    → block_of (disk_at p.one x) block ≡ block_of (disk_at p.other y) block
twin_blocks p x y block t has =
    block_is_one p.folder (image_at p.one x) (image_at p.other y) (disk_at p.one x) (disk_at p.other y) (own_at p.one x)
    (own_at p.other y) block t.image has (sym (twin_own p x y block t) ∙ has)
    (p.parts.parts x t.place).held (p.parts_other.parts y t.place_other).held

twin_parents : (p : Pair) (i j : ℕ) → AreTwinPlaces p (Some i) (Some j)
    → (kept_at p.one.layers i).meta.parent ≡ (kept_at p.other.layers j).meta.parent
twin_parents p i j t =
    parent_is_one (kept_at p.one.layers i).meta.parent (kept_at p.other.layers j).meta.parent
    (ap (λ (m : DiskMeta). m.parent) (twin_metas p (Some i) (Some j) t))

-- ---- names

-- a layer's name is one of the other's
twin_of : (p : Pair) (i : ℕ) → i < length p.one.layers
    → (j : ℕ) × (j < length p.other.layers) × ((kept_at p.other.layers j).meta.name ≡ (kept_at p.one.layers i).meta.name)
twin_of p i less =
    let part = p.parts.parts (Some i) less in
    let name = (kept_at p.one.layers i).meta.name in
    kept_place p.other.layers name (p.parts_other.no_more name part.described.text
    (name_told part.described.text (meta_at p.stamps p.one (Some i)) name refl part.described.says) part.described.there)

not_absent : (p : Pair) (name : List ℕ) (i : ℕ) → IsFirst p.stamps.now p.one.layers name i
    → IsAbsent p.later.now p.other.layers name → ⊥
not_absent p name i at none =
    let twin = twin_of p i at.within in
    none.none twin.0 twin.1 (twin.2 ∙ at.named)

-- what is told of the layers of a name
record IsOne (p : Pair) (name : List ℕ) : Type 0 where
  told : told_of_name p.stamps.now p.one.layers name ≡ told_of_name p.later.now p.other.layers name
  shape : shape_in p.one.layers name ≡ shape_in p.other.layers name

one_shape : (x y : Option (List ℕ)) (m n : Bool) → x ≡ y → m ≡ n
    → ◌≡◌ {A = Option (Option (List ℕ) × Bool)} (Some (x, m)) (Some (y, n))
one_shape x y m n e f = cc

name_is_one : (p : Pair) (name : List ℕ) → IsLooked p.stamps.now p.one.layers name → IsLooked p.later.now p.other.layers name
    → IsOne p name
name_is_one p name (inl (i, at)) (inl (j, there)) =
    let t = twin_layers p i j at.within there.within (at.named ∙ sym there.named) in
    let metas = twin_metas p (Some i) (Some j) t in
    record {
      told = at.told ∙ ap Some metas ∙ sym there.told;
      shape = at.shape ∙ one_shape _ _ _ _ (twin_parents p i j t) (ap (λ (m : DiskMeta). m.removed) metas) ∙ sym there.shape;
    }
name_is_one p name (inl (i, at)) (inr none) = absurd (not_absent p name i at none)
name_is_one p name (inr none) (inl (j, there)) = absurd (not_absent (turned p) name j there none)
name_is_one p name (inr none) (inr absent) = record {
  told = none.told ∙ sym absent.told;
  shape = none.shape ∙ sym absent.shape;
}

one_name : (p : Pair) (name : List ℕ) → IsOne p name
one_name p name = name_is_one p name (look p.stamps.now p.one.layers name) (look p.later.now p.other.layers name)

-- ---- readings at a block

-- a layer reads the same where each older one does
here_alike : (p : Pair) (block i : ℕ) → block < p.count → i < length p.one.layers
    → ((older : ℕ) → i < older → older < length p.one.layers
    → ReadsAlikeAt p.one p.other (Some (kept_at p.one.layers older).meta.name) block)
    → ReadsAlikeAt p.one p.other (Some (kept_at p.one.layers i).meta.name) block
here_alike p block i inside less older =
    let twin = twin_of p i less in
    by_own twin.0 twin.1 (twin_layers p i twin.0 less twin.1 (sym twin.2)) twin.2
    (has_own (kept_at p.one.layers i).own block) refl
  where
    below : (parent : Option (List ℕ)) → has_own (kept_at p.one.layers i).own block ≡ false
        → (kept_at p.one.layers i).meta.parent ≡ parent
        → read_below p.one.layers parent block ≡ read_below p.other.layers parent block
    below None absent is = refl
    below (Some name) absent is =
        let k = parent_older p.one.layers p.count block i name p.sound.chained.layers inside less absent is in
        subst (λ n. ReadsAlikeAt p.one p.other (Some n) block) k.3 (older k.0 k.1 k.2)

    by_own : (j : ℕ) → j < length p.other.layers → AreTwinPlaces p (Some i) (Some j)
        → (kept_at p.other.layers j).meta.name ≡ (kept_at p.one.layers i).meta.name → (own : Bool)
        → has_own (kept_at p.one.layers i).own block ≡ own
        → ReadsAlikeAt p.one p.other (Some (kept_at p.one.layers i).meta.name) block
    by_own j there t same true has =
        ap (λ d. block_of d block) (disk_place p.one.layers i p.sound.once less)
        ∙ twin_blocks p (Some i) (Some j) block t has
        ∙ ap (λ d. block_of d block) (sym (disk_place p.other.layers j p.sound_other.once there))
        ∙ ap (λ n. block_of (disk_named p.other.layers n) block) same
    by_own j there t same false absent =
        falls p.one p.count block i p.sound.chained p.sound.once inside less absent
        ∙ below (kept_at p.one.layers i).meta.parent absent refl
        ∙ ap (λ on. read_below p.other.layers on block) (twin_parents p i j t)
        ∙ sym (falls p.other p.count block j p.sound_other.chained p.sound_other.once inside there
        (sym (twin_own p (Some i) (Some j) block t) ∙ absent))
        ∙ ap (λ n. block_of (disk_named p.other.layers n) block) same

-- so all do, from the oldest on
all_alike : (p : Pair) (block left i : ℕ) → block < p.count → length p.one.layers ≤ i + left → i < length p.one.layers
    → ReadsAlikeAt p.one p.other (Some (kept_at p.one.layers i).meta.name) block
all_alike p block zero i inside all less = absurd (omega (arith, all, less))
all_alike p block (suc left) i inside all less =
    here_alike p block i inside less (λ older behind within. all_alike p block left older inside (omega (arith, all, behind)) within)

-- and so does what a layer or a head stands on
below_alike : (p : Pair) (block : ℕ) (on : Option (List ℕ)) → block < p.count
    → read_below p.one.layers on block ≡ read_below p.other.layers on block
below_alike p block None inside = refl
below_alike p block (Some name) inside = by_look (look p.stamps.now p.one.layers name) (look p.later.now p.other.layers name)
  where
    by_look : IsLooked p.stamps.now p.one.layers name → IsLooked p.later.now p.other.layers name
        → block_of (disk_named p.one.layers name) block ≡ block_of (disk_named p.other.layers name) block
    by_look (inl (i, at)) there =
        subst (λ n. ReadsAlikeAt p.one p.other (Some n) block) at.named
        (all_alike p block (length p.one.layers) i inside (omega arith) at.within)
    by_look (inr none) (inl (j, there)) = absurd (not_absent (turned p) name j there none)
    by_look (inr none) (inr absent) = ap (λ d. block_of d block) (none.disk ∙ sym absent.disk)

head_alike : (p : Pair) (block : ℕ) → block < p.count → ReadsAlikeAt p.one p.other None block
head_alike p block inside = by_own (has_own p.one.own block) refl
  where
    by_own : (own : Bool) → has_own p.one.own block ≡ own → block_of p.one.disk block ≡ block_of p.other.disk block
    by_own true has = twin_blocks p None None block (twin_heads p) has
    by_own false absent =
        p.sound.chained.head.below block inside absent ∙ below_alike p block p.one.on inside
        ∙ ap (λ on. read_below p.other.layers on block) p.on
        ∙ sym (p.sound_other.chained.head.below block inside (sym (twin_own p None None block (twin_heads p)) ∙ absent))

layer_alike : (p : Pair) (layer : Option (List ℕ)) (block : ℕ) → block < p.count → ReadsAlikeAt p.one p.other layer block
layer_alike p None block inside = head_alike p block inside
layer_alike p (Some name) block inside = below_alike p block (Some name) inside

-- ---- the whole

are_alike : (p : Pair) → AreAlike p.one p.other
are_alike p = record {
  shape = record {
    layers = λ name. (one_name p name).shape;
    on = p.on;
    number = p.number;
    size = sym p.sound.size ∙ p.sound_other.size;
  };
  readings = λ layer kept. same_readings p.one p.other layer p.count p.sound.chained p.sound_other.chained
      (λ block inside. layer_alike p layer block inside);
}

are_told_alike : (p : Pair) → AreToldAlike p.stamps.now p.later.now p.one p.other
are_told_alike p = λ name. (one_name p name).told

-- what is told of their heads is one
head_is_one : (p : Pair) → p.stamps.head ≡ p.later.head
head_is_one p =
    let metas = twin_metas p None None (twin_heads p) in
    λ i. record {
      created = ap (λ (m : DiskMeta). m.created) metas i;
      user_created = ap (λ (m : DiskMeta). m.user_created) metas i;
    }

-- two replicas that one folder is
pub one_folder : (folder : Folder) (stamps later : Stamps) (failed failed_later : Bool) (one other : Node) (count counts : ℕ)
    → IsSound one count → IsSound other counts → IsFolderOf folder stamps failed one → IsFolderOf folder later failed_later other
    → AreAlike one other × AreToldAlike stamps.now later.now one other × (stamps.head ≡ later.head) × (failed ≡ failed_later)
one_folder folder stamps later failed failed_later one other count counts sound also is too =
    let volume : volume_meta_of false failed one ≡ volume_meta_of false failed_later other =
    volume_is_one folder (volume_meta_of false failed one) (volume_meta_of false failed_later other) is.volume too.volume in
    let size : length one.disk ≡ length other.disk = ap (λ (m : VolumeMeta). m.size) volume in
    let same : counts ≡ count = omega (arith, size, sound.size, also.size) in
    let p : Pair = record {
      folder = folder;
      stamps = stamps;
      later = later;
      one = one;
      other = other;
      count = count;
      sound = sound;
      sound_other = subst (IsSound other) same also;
      parts = is.layers;
      parts_other = too.layers;
      number = ap (λ (m : VolumeMeta). m.head) volume;
      on = parent_is_one one.on other.on (ap (λ (m : VolumeMeta). m.parent) volume);
    } in
    (are_alike p, are_told_alike p, head_is_one p, ap (λ (m : VolumeMeta). m.failed) volume)
