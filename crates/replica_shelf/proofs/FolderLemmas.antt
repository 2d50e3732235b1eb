-- The folder that is saved.
use Rattle.std.proofs.Common.{◌≡◌, ◌≢◌, ◌⊎◌, inl, inr, ⊎_elim, ℕ, zero, suc, ◌≤◌, ◌<◌, Bool, true, false, List, [], ◌∷◌, length}
use Rattle.std.proofs.Common.{Option, Some, None, Result, Ok, Err, OnOk, refl, subst, ◌∙◌, arith}
use Rattle.std.specs.Prelude.{Contains}
use Rattle.std.specs.Str.{bytes_eq}
use Rattle.std.proofs.lemmas.Slice.Eq.{bytes_eq-Decides}
use Rattle.shelf_traits.specs.Files.{Files, Both, OthersStay}
use Rattle.vol_units.specs.Name.{IsName}
use Rattle.chain_meta.specs.ImageNames.{snapshot_file}
use Rattle.chain_meta.specs.declared.volume_meta.VolumeMeta.{VolumeMeta}
use Rattle.replica_node.specs.Node.{Node, Kept, layer_names}
use Rattle.replica_node.specs.Places.{kept_at, IsPlace}
use Rattle.folder_names.specs.Files.{Folder, IsMeta, meta_of, volume_file}
use Rattle.replica_shelf.specs.Folder.{Stamps, HasParts, IsVolumeOf, IsFolderOf, image_at, volume_meta_of}
use Rattle.replica_shelf.specs.Saving.{AreWritten, IsVolumeText, IsSaved, ForeignStay, OnlyImages}
use Rattle.replica_shelf.proofs.CallLemmas.{both_then, both_and, both_map}
use Rattle.folder_names.proofs.NameLemmas.{one_image, snapshots_differ, head_no_snapshot, image_not_volume, volume_is_not_ours}
use Rattle.replica_shelf.proofs.PartLemmas.{part_stays, part_is_read, ends_at, snapshot_ends, not_volume}

-- a name is among those of the layers, or is none of them
find : (ks : List Kept) (name : List ℕ)
    → Contains (layer_names ks) name ⊎ ((i : ℕ) → i < length ks → (kept_at ks i).meta.name ≡ name → ⊥)
find [] name = inr (λ i h e. omega arith)
find (k ∷ ks) name = by_test (bytes_eq k.meta.name name) refl (find ks name)
  where
    by_test : (t : Bool) → bytes_eq k.meta.name name ≡ t
        → Contains (layer_names ks) name ⊎ ((i : ℕ) → i < length ks → (kept_at ks i).meta.name ≡ name → ⊥)
        → Contains (layer_names (k ∷ ks)) name ⊎ ((i : ℕ) → i < length (k ∷ ks) → (kept_at (k ∷ ks) i).meta.name ≡ name → ⊥)
    by_test true e rest = let same : k.meta.name ≡ name = grind (arith, bytes_eq-Decides, e) in inl (0, omega arith, same)
    by_test false e (inl c) = inl (suc c.0, omega (arith, c.1), c.2)
    by_test false e (inr none) = inr (λ i h is. first_or i h is)
      where
        first_or : (i : ℕ) → i < length (k ∷ ks) → (kept_at (k ∷ ks) i).meta.name ≡ name → ⊥
        first_or zero h is = let other : k.meta.name ≢ name = grind (arith, bytes_eq-Decides, e) in other is
        first_or (suc i) h is = none i (omega arith) is

some_none : {A : Type 0} {x : A} {o : Option A} → o ≡ Some x → o ≡ None → ⊥
some_none p q = cc

-- what is written is read so, and no layer besides
parts_are_read : (folder : Folder) (stamps : Stamps) (node : Node)
    → AreWritten (IsPlace node) folder stamps node → HasParts folder stamps node
parts_are_read folder stamps node had = record {
  parts = λ place is. part_is_read folder _ _ _ _ (had.parts place is);
  no_more = λ name text named there. ⊎_elim (λ c. c) (λ none. absurd (none_more name text named there none)) (find node.layers name);
}
  where
    apart : (name : List ℕ) → ((i : ℕ) → i < length node.layers → (kept_at node.layers i).meta.name ≡ name → ⊥)
        → (place : Option ℕ) → IsPlace node place → image_at node place ≡ snapshot_file name → ⊥
    apart name none None is e = head_no_snapshot node.number name e
    apart name none (Some p) is e = none p is (snapshots_differ _ _ e)

    none_more : (name text : List ℕ) → IsName name → folder (meta_of (snapshot_file name)) ≡ Some text
        → ((i : ℕ) → i < length node.layers → (kept_at node.layers i).meta.name ≡ name → ⊥) → ⊥
    none_more name text named there none =
        let f = meta_of (snapshot_file name) in
        some_none there
        (had.no_more f (snapshot_file name, inr (name, (named, refl)), IsMeta refl)
        (λ p is here. apart name none p is
        (one_image (image_at node p) (snapshot_file name) f (ends_at node p) (snapshot_ends name) here (IsMeta refl))))

-- the metadata of the volume is none of these files
written_apart : (shelf : ℕ) (stamps : Stamps) (node : Node) (x y : Files) → OthersStay shelf volume_file x y
    → AreWritten (IsPlace node) (x shelf) stamps node → AreWritten (IsPlace node) (y shelf) stamps node
written_apart shelf stamps node x y others had = record {
  parts = λ place is. part_stays (x shelf) (y shelf) _ _ _ _ (λ f file. others shelf f (inr (not_volume node place f file)))
      (had.parts place is);
  no_more = λ f of not. others shelf f (inr (image_not_volume f of)) ∙ had.no_more f of not;
}

-- what was written last makes the folder whole
pub saved_is : {T E : Type 0} (r : Result T E) (shelf : ℕ) (stamps : Stamps) (failed : Bool) (node : Node) (meta : VolumeMeta)
    (a b c d : Option Files) → meta ≡ volume_meta_of false failed node → Both a b (OthersStay shelf volume_file)
    → Both b c (λ old new. AreWritten (IsPlace node) (new shelf) stamps node)
    → Both c d (OthersStay shelf volume_file) → OnOk r (Both c d (λ old new. IsVolumeText (new shelf) meta))
    → OnOk r (Both a d (λ old new. IsSaved (new shelf) stamps failed node))
saved_is (Err e) shelf stamps failed node meta a b c d is first parts others told = tt
saved_is (Ok v) shelf stamps failed node meta a b c d is first parts others told =
    let Written : Files → Files → Type 0 = λ x w. AreWritten (IsPlace node) (w shelf) stamps node in
    both_then a c d Written _ (λ x w. IsSaved (w shelf) stamps failed node)
    (both_then a b c _ Written Written first parts (λ x y w stays had. had))
    (both_and c d _ _ others told)
    (λ x w z had (stays, says). record {
      volume = subst (IsVolumeText (z shelf)) is says;
      layers = written_apart shelf stamps node w z stays had;
    })

-- it is the replica, where its metadata is read
folder_is : (folder : Folder) (stamps : Stamps) (failed : Bool) (node : Node) → node.number ≤ 999999
    → IsSaved folder stamps failed node → IsFolderOf folder stamps failed node
folder_is folder stamps failed node low saved = record {
  volume = record { text = _; there = saved.volume.there; few = saved.volume.few; says = saved.volume.says low };
  layers = parts_are_read folder stamps node saved.layers;
}

-- the same of the last call
pub folder_is_ok : {T E : Type 0} (r : Result T E) (shelf : ℕ) (stamps : Stamps) (failed : Bool) (node : Node) (a d : Option Files)
    → OnOk r (Both a d (λ old new. IsSaved (new shelf) stamps failed node))
    → OnOk r (node.number ≤ 999999 → Both a d (λ old new. IsFolderOf (new shelf) stamps failed node))
folder_is_ok (Err e) shelf stamps failed node a d saved = tt
folder_is_ok (Ok v) shelf stamps failed node a d saved =
    λ low. both_map a d _ _ saved (λ x w is. folder_is (w shelf) stamps failed node low is)

-- while images are written, the folder is dirty
pub dirty_stays : (shelf : ℕ) (failed : Bool) (node : Node) (meta : VolumeMeta) (a b c : Option Files) → node.number ≤ 999999
    → meta ≡ volume_meta_of true failed node → Both a b (λ old new. IsVolumeText (new shelf) meta) → Both b c (OnlyImages shelf)
    → Both a c (λ old new. IsVolumeOf (new shelf) (volume_meta_of true failed node))
dirty_stays shelf failed node meta a b c low is told only =
    both_then a b c _ _ _ told only
    (λ x y z (says : IsVolumeText (y shelf) meta) stays.
    let text = subst (IsVolumeText (y shelf)) is says in
    record {
      text = _;
      there = stays shelf volume_file (inr volume_is_not_ours) ∙ text.there;
      few = text.few;
      says = text.says low;
    })

-- ---- foreign files stay

pub foreign_volume : (shelf : ℕ) (x y : Files) → OthersStay shelf volume_file x y → ForeignStay shelf x y
foreign_volume shelf x y others s f (inl other) = others s f (inl other)
foreign_volume shelf x y others s f (inr not) = others s f (inr not.1)

pub foreign_images : (shelf : ℕ) (x y : Files) → OnlyImages shelf x y → ForeignStay shelf x y
foreign_images shelf x y only s f (inl other) = only s f (inl other)
foreign_images shelf x y only s f (inr not) = only s f (inr not.0)

pub foreign_then : (shelf : ℕ) (x y z : Files) → ForeignStay shelf x y → ForeignStay shelf y z → ForeignStay shelf x z
foreign_then shelf x y z p q = λ s f not. q s f not ∙ p s f not
