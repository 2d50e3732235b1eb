-- A folder that is a replica has layers that fit together.
use Rattle.std.proofs.Common.{◌≡◌, ◌⊎◌, inl, inr, ℕ, ◌/◌, ◌<◌, ◌≤◌, false, List, [], length}
use Rattle.std.proofs.Common.{Option, Some, None, refl, sym, ap, subst, ◌∙◌, arith}
use Rattle.std.specs.Prelude.{Contains, IsTrue, is_some, option_map, slice_index_or}
use Rattle.std.proofs.lemmas.Bool.{cases_lt}
use Rattle.std.proofs.lemmas.List.{get_or-map, get_or_default, length-map}
use Rattle.std_collections.proofs.IndexTableLemmas.Probe.{pigeonhole}
use Rattle.chain_meta.specs.ImageNames.{head_file, snapshot_file}
use Rattle.chain_meta.specs.declared.disk_meta.DiskMeta.{DiskMeta}
use Rattle.chain_meta.specs.declared.volume_meta.VolumeMeta.{VolumeMeta}
use Rattle.folder_names.specs.Files.{Folder, meta_of}
use Rattle.folder_names.proofs.NameLemmas.{snapshots_differ}
use Rattle.replica_node.specs.Node.{Node, Kept, IsKept}
use Rattle.replica_node.specs.Places.{kept_at}
use Rattle.replica_shelf.specs.Folder.{Stamps, IsFolderOf, head_meta_of, layer_meta_of}
use Rattle.replica_compare.proofs.ShapeLemmas.{kept_place, place_kept}
use Rattle.folder_checks.specs.Snapshots.{name_at, told_at, metas_of}
use Rattle.folder_checks.specs.Checks.{AreAllGood}
use Rattle.folder_checks.specs.declared.parts.ImageParts.{ImageParts}
use Rattle.folder_layers.specs.Layers.{HasImage, StandsOnOne, IsAbove, IsChild, IsFurther, IsEarlier, MayBeLayer}
use Rattle.folder_layers.specs.Layers.{IsMisfit, HeadStandsOnNone, IsFirst, AreTooMany}
use Rattle.folder_layers.specs.Folders.{HasMisfit, HasEarlierNames}
use Rattle.folder_layers.specs.declared.misfit.Misfit.{Misfit}
use Rattle.folder_laws.proofs.FileLemmas.{meta_is_one, name_told}
use Rattle.folder_layers.proofs.ParentLemmas.{one_place}
use Rattle.folder_laws.proofs.NodeLemmas.{IsSoundNode, name_of, one_layer, parent_older}
use Rattle.folder_laws.proofs.OpensLemmas.{meta_there, volume_is, snapshot_place, name_there}

-- a parent that is told is that of a name
parent_is : (parent : Option (List ℕ)) (image : List ℕ) → option_map snapshot_file parent ≡ Some image
    → (name : List ℕ) × (parent ≡ Some name) × (snapshot_file name ≡ image)
parent_is None image e = absurd (cc)
parent_is (Some name) image e = (name, refl, values (snapshot_file name) image e)
  where
    values : (x y : List ℕ) → Some x ≡ Some y → x ≡ y
    values x y same = cc

-- the snapshot at that place of the folder is the layer at the other
record IsLayerAt (now : List ℕ) (ks : List Kept) (names : List (List ℕ)) (metas : List DiskMeta) (place i : ℕ) : Type 0 where
  within : i < length ks
  named : name_of ks i ≡ name_at names place
  told : told_at metas place ≡ layer_meta_of now (kept_at ks i).meta

module _ (folder : Folder) (stamps : Stamps) (node : Node) (count : ℕ) (sound : IsSoundNode node count)
    (is : IsFolderOf folder stamps false node) (size blocks : ℕ) (v : VolumeMeta) (head : ImageParts) (names : List (List ℕ))
    (snapshots : List ImageParts) (good : AreAllGood folder size blocks v head names snapshots) where
  abbrev metas : List DiskMeta
  metas = metas_of snapshots

  abbrev ks : List Kept
  ks = node.layers

  -- the number that is told is that of the replica's head
  number : v.head ≡ node.number
  number = ap (λ (m : VolumeMeta). m.head) (volume_is folder stamps node v is good.volume.told)

  -- ---- snapshots and layers

  as_many : length metas ≡ length names
  as_many = length-map snapshots (λ p. p.meta) ∙ good.good.count_is

  -- each snapshot is a layer
  layer_of : (place : ℕ) → place < length names → (i : ℕ) × IsLayerAt stamps.now ks names metas place i
  layer_of place inside =
      let name = name_at names place in
      let at = snapshot_place folder stamps node name is.layers (good.listed.there name (name_there names place inside)) in
      let part = slice_index_or snapshots place head in
      let told : told_at metas place ≡ part.meta =
      get_or-map (λ (p : ImageParts). p.meta) snapshots place head _ (omega (arith, inside, good.good.count_is)) in
      let one : part.meta ≡ layer_meta_of stamps.now (kept_at ks at.0).meta =
      meta_is_one folder (snapshot_file name) (snapshot_file (name_of ks at.0)) part.meta
      (layer_meta_of stamps.now (kept_at ks at.0).meta) (sym (ap snapshot_file at.2))
      (meta_there folder (snapshot_file name) part.meta (good.good.good place head inside).good.told)
      (is.layers.parts (Some at.0) at.1).described in
      (at.0, record { within = at.1; named = at.2; told = told ∙ one })

  -- each layer is a snapshot
  snapshot_of : (i : ℕ) → i < length ks → (place : ℕ) × (place < length names) × (name_at names place ≡ name_of ks i)
  snapshot_of i less =
      let name = name_of ks i in
      let told = (is.layers.parts (Some i) less).described in
      let there : IsTrue (is_some (folder (meta_of (snapshot_file name)))) = ap (λ (f : Option (List ℕ)). is_some f) told.there in
      let at = good.listed.all name (name_told told.text (layer_meta_of stamps.now (kept_at ks i).meta) name refl told.says, there) in
      (at.0, at.1, get_or_default names at.0 [] name at.1 ∙ at.2)

  -- what is told under a layer's image is told of the layer
  told_of : (m : DiskMeta) (j : ℕ) → Contains metas m → j < length ks → m.name ≡ snapshot_file (name_of ks j)
      → m ≡ layer_meta_of stamps.now (kept_at ks j).meta
  told_of m j has less same =
      let at = layer_of has.0 (omega (arith, has.1, as_many)) in
      let told : m ≡ layer_meta_of stamps.now (kept_at ks at.0).meta =
      sym has.2 ∙ get_or_default metas has.0 m _ has.1 ∙ at.1.told in
      let file : snapshot_file (name_of ks at.0) ≡ snapshot_file (name_of ks j) = sym (ap (λ (x : DiskMeta). x.name) told) ∙ same in
      let place : at.0 ≡ j =
      one_layer ks sound.layers at.0 j at.1.within less (snapshots_differ (name_of ks at.0) (name_of ks j) file) in
      told ∙ ap (λ i. layer_meta_of stamps.now (kept_at ks i).meta) place

  -- ---- each stands on one

  -- the image of a layer is that of a snapshot
  has_image : (k : ℕ) (image : List ℕ) → k < length ks → snapshot_file (name_of ks k) ≡ image → HasImage metas image
  has_image k image less same =
      let at = snapshot_of k less in
      let layer = layer_of at.0 at.1 in
      let inside : at.0 < length metas = omega (arith, at.1, as_many) in (
        told_at metas at.0,
        (at.0, inside, get_or_default metas at.0 _ _ inside),
        ap (λ (x : DiskMeta). x.name) layer.1.told ∙ ap snapshot_file (layer.1.named ∙ at.2) ∙ same,
      )

  -- what is told to be a layer's parent is an older layer's image
  parent_layer : (j : ℕ) (image : List ℕ) → j < length ks → (layer_meta_of stamps.now (kept_at ks j).meta).parent ≡ Some image
      → (k : ℕ) × (j < k) × (k < length ks) × (snapshot_file (name_of ks k) ≡ image)
  parent_layer j image less told =
      let p = parent_is (kept_at ks j).meta.parent image told in
      let k = parent_older ks sound.layers j p.0 less p.1 in
      (k.0, k.1, k.2, ap snapshot_file k.3 ∙ p.2)

  layer_stands : (j : ℕ) → j < length ks → StandsOnOne metas (layer_meta_of stamps.now (kept_at ks j).meta)
  layer_stands j less image told = let k = parent_layer j image less told in has_image k.0 image k.2 k.3

  stands : (place : ℕ) → place < length names → StandsOnOne metas (told_at metas place)
  stands place inside =
      let at = layer_of place inside in
      subst (StandsOnOne metas) (sym at.1.told) (layer_stands at.0 at.1.within)

  head_told : head.meta ≡ head_meta_of stamps.head node
  head_told =
      meta_is_one folder (head_file v.head) (head_file node.number) head.meta (head_meta_of stamps.head node) (ap head_file number)
      (meta_there folder (head_file v.head) head.meta good.head_good.good.told) (is.layers.parts None tt).described

  head_stands : StandsOnOne metas head.meta
  head_stands = subst (StandsOnOne metas) (sym head_told) on
    where
      on : StandsOnOne metas (head_meta_of stamps.head node)
      on image told =
          let p = parent_is node.on image told in
          let at = kept_place ks p.0 (subst (IsKept node) p.1 sound.head_kept) in
          has_image at.0 image at.1 (ap snapshot_file at.2 ∙ p.2)

  -- ---- none on itself

  -- what is above is newer
  above_newer : (lower upper : List ℕ) → IsAbove metas lower upper → (i j : ℕ) → i < length ks → j < length ks
      → lower ≡ snapshot_file (name_of ks i) → upper ≡ snapshot_file (name_of ks j) → j < i
  above_newer lower upper (IsChild m has named on) i j in_i in_j at_i at_j =
      let told = told_of m j has in_j (named ∙ at_j) in
      let k = parent_layer j lower in_j (sym (ap (λ (x : DiskMeta). x.parent) told) ∙ on) in
      let same = one_layer ks sound.layers k.0 i k.2 in_i (snapshots_differ (name_of ks k.0) (name_of ks i) (k.3 ∙ at_i)) in
      omega (arith, k.1, same)
  above_newer lower upper (IsFurther m next has named on more) i j in_i in_j at_i at_j =
      let told = told_of m j has in_j (named ∙ at_j) in
      let k = parent_layer j next in_j (sym (ap (λ (x : DiskMeta). x.parent) told) ∙ on) in
      omega (arith, k.1, above_newer lower next more i k.0 in_i k.2 at_i (sym k.3))

  no_ring : (place : ℕ) → place < length names → IsAbove metas (told_at metas place).name (told_at metas place).name → ⊥
  no_ring place inside ring =
      let at = layer_of place inside in
      let image = ap (λ (x : DiskMeta). x.name) at.1.told in
      let newer : at.0 < at.0 = above_newer _ _ ring at.0 at.0 at.1.within at.1.within image image in
      omega (arith, newer)

  -- ---- the engine's own names

  before : HasEarlierNames node → (place : ℕ) → place < length names → IsEarlier v.head (name_at names place)
  before earlier place inside =
      let at = layer_of place inside in
      subst (λ n. IsEarlier n (name_at names place)) (sym number)
      (subst (IsEarlier node.number) at.1.named (earlier (name_of ks at.0) (place_kept node at.0 at.1.within)))

  is_fit : HasEarlierNames node → (place : ℕ) → place < length names
      → MayBeLayer v.head metas (name_at names place) (told_at metas place)
  is_fit earlier place inside =
      record { stands = stands place inside; no_ring = no_ring place inside; before = before earlier place inside }

  -- ---- how many there are

  -- the layer of a snapshot, where there is one at the place
  abbrev chosen : (place : ℕ) → (place < length names) ⊎ (length names ≤ place) → ℕ
  chosen place (inl inside) = (layer_of place inside).0
  chosen place (inr past) = 0

  chosen_within : (place : ℕ) (w : (place < length names) ⊎ (length names ≤ place)) → place < length names
      → chosen place w < length ks
  chosen_within place (inl inside) less = (layer_of place inside).1.within
  chosen_within place (inr past) less = absurd (omega (arith, past, less))

  chosen_once : (p q : ℕ) (w : (p < length names) ⊎ (length names ≤ p)) (u : (q < length names) ⊎ (length names ≤ q))
      → p < length names → q < length names → chosen p w ≡ chosen q u → p ≡ q
  chosen_once p q (inr past) u in_p in_q same = absurd (omega (arith, past, in_p))
  chosen_once p q (inl a) (inr past) in_p in_q same = absurd (omega (arith, past, in_q))
  chosen_once p q (inl a) (inl b) in_p in_q same =
      one_place names good.listed.rising p q in_p in_q
      (sym (layer_of p a).1.named ∙ ap (name_of ks) same ∙ (layer_of q b).1.named)

  no_more : length names ≤ length ks
  no_more =
      pigeonhole (length names) (length ks) (λ place. chosen place (cases_lt place (length names)))
      (λ place inside. chosen_within place (cases_lt place (length names)) inside)
      (λ p q in_p in_q same. chosen_once p q (cases_lt p (length names)) (cases_lt q (length names)) in_p in_q same)

  -- ---- the whole

  no_misfit : HasEarlierNames node → (m : Misfit) → IsMisfit v.head head.meta names metas m → ⊥
  no_misfit earlier m (HeadStandsOnNone none) = none head_stands
  no_misfit earlier m (IsFirst place inside on below unfit) = unfit (is_fit earlier place (omega (arith, inside, as_many)))
  no_misfit earlier m (AreTooMany on below many) = omega (arith, many, no_more, as_many, sound.few)

pub fit : (folder : Folder) (stamps : Stamps) (node : Node) (count : ℕ) (file : List ℕ) (place : ℕ) → IsSoundNode node count
    → IsFolderOf folder stamps false node → HasEarlierNames node → HasMisfit folder (length node.disk) file place → ⊥
fit folder stamps node count file place sound is earlier bad =
    no_misfit folder stamps node count sound is (length node.disk) (length node.disk / 4096) bad.v bad.head bad.names bad.snapshots
    bad.good earlier bad.misfit bad.first
