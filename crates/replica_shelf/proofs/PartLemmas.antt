-- The three files of each layer, which stay while others are written.
use Rattle.std.proofs.Common.{◌≡◌, ◌≢◌, ◌⊎◌, inl, inr, ⊎_elim, ℕ, zero, suc, ◌+◌, ◌<◌, Bool, false, List, [], ◌∷◌, ◌++◌}
use Rattle.std.proofs.Common.{length, map, Option, Some, None, codes, refl, sym, ap, subst, ◌∙◌, arith, append_assoc, length-append}
use Rattle.std.proofs.Common.{Result, Ok, Err, OnOk}
use Rattle.std.proofs.lemmas.Slice.Eq.{bytes_eq-Decides}
use Rattle.shelf_traits.specs.Files.{Files, Both, OthersStay}
use Rattle.chain_meta.specs.ImageNames.{snapshot_file, head_digits}
use Rattle.chain_meta.specs.declared.disk_meta.DiskMeta.{DiskMeta}
use Rattle.volume_model.specs.Names.{NamesOnce, has_name}
use Rattle.coalesce.specs.Folding.{snapshot_of}
use Rattle.replica_node.specs.Node.{Node, Kept}
use Rattle.replica_node.specs.Fold.{tree_of}
use Rattle.replica_node.specs.Places.{kept_at, IsPlace}
use Rattle.folder_names.specs.Files.{Folder, IsFileOf, IsImage, IsMap, IsMeta, meta_of, map_of, volume_file}
use Rattle.replica_shelf.specs.Folder.{Stamps, IsMapOf, IsPartOf, image_at, meta_at}
use Rattle.replica_shelf.specs.Saving.{IsImageOf, IsMetaText, IsWritten, IsWrittenAt, AreWritten, IsBelow, PartChanges}
use Rattle.replica_shelf.proofs.CallLemmas.{both_then, both_and}
use Rattle.folder_names.proofs.NameLemmas.{Ends, IsEnd, Begins, IsBegin, one_image, snapshots_differ, head_no_snapshot}
use Rattle.folder_names.proofs.NameLemmas.{begins_file, no_volume}

-- ---- one part

map_stays : (f g : Folder) (image : List ℕ) (own : List Bool) → g (map_of image) ≡ f (map_of image) → IsMapOf f image own
    → IsMapOf g image own
map_stays f g image own same m = record {
  text = m.text;
  there = same ∙ m.there;
  spans = m.spans;
  is_map = m.is_map;
  told = m.told;
}

image_stays : (f g : Folder) (image disk : List ℕ) (own : List Bool) → g image ≡ f image → IsImageOf f image disk own
    → IsImageOf g image disk own
image_stays f g image disk own same h = record {
  bytes = h.bytes;
  there = same ∙ h.there;
  whole = h.whole;
  blocks = h.blocks;
  bare = h.bare;
}

meta_stays : (f g : Folder) (image : List ℕ) (meta : DiskMeta) → g (meta_of image) ≡ f (meta_of image) → IsMetaText f image meta
    → IsMetaText g image meta
meta_stays f g image meta same m = record { there = same ∙ m.there; few = m.few; says = m.says }

-- a part is as its three files are
pub part_stays : (f g : Folder) (image : List ℕ) (meta : DiskMeta) (disk : List ℕ) (own : List Bool)
    → ((x : List ℕ) → IsFileOf image x → g x ≡ f x) → IsWritten f image meta disk own → IsWritten g image meta disk own
part_stays f g image meta disk own same p = record {
  listed = map_stays f g image own (same (map_of image) (IsMap refl)) p.listed;
  held = image_stays f g image disk own (same image (IsImage refl)) p.held;
  described = meta_stays f g image meta (same (meta_of image) (IsMeta refl)) p.described;
}

-- what is written is read so
pub part_is_read : (f : Folder) (image : List ℕ) (meta : DiskMeta) (disk : List ℕ) (own : List Bool) → IsWritten f image meta disk own
    → IsPartOf f image meta disk own
part_is_read f image meta disk own p = record {
  listed = p.listed;
  held = record { bytes = p.held.bytes; there = p.held.there; whole = p.held.whole; blocks = p.held.blocks };
  described = record { text = _; there = p.described.there; few = p.described.few; says = p.described.says };
}

-- the three files of one image differ
map_not_image : (image : List ℕ) → map_of image ≢ image
map_not_image image e = omega (arith, ap length e, length-append image (codes ".map"))

image_not_meta : (image : List ℕ) → image ≢ meta_of image
image_not_meta image e = omega (arith, ap length e, length-append image (codes ".meta"))

map_not_meta : (image : List ℕ) → map_of image ≢ meta_of image
map_not_meta image e = omega (arith, ap length e, length-append image (codes ".map"), length-append image (codes ".meta"))

part_joins : (shelf : ℕ) (image : List ℕ) (meta : DiskMeta) (disk : List ℕ) (own : List Bool) (a b c d : Option Files)
    → Both a b (λ old new. IsMapOf (new shelf) image own)
    → Both b c (λ old new. IsImageOf (new shelf) image disk own) → Both b c (OthersStay shelf image)
    → Both c d (λ old new. IsMetaText (new shelf) image meta) → Both c d (OthersStay shelf (meta_of image))
    → Both a d (λ old new. IsWritten (new shelf) image meta disk own)
part_joins shelf image meta disk own a b c d p1 p2 o2 p3 o3 =
    let Rest : Files → Files → Type 0 = λ y w. IsMapOf (y shelf) image own → IsWritten (w shelf) image meta disk own in
    both_then a b d _ Rest _ p1
    (both_then b c d _ _ Rest (both_and b c _ _ p2 o2) (both_and c d _ _ p3 o3)
    (λ y z w (held, keeps) (told, stays) listed. record {
      listed = map_stays (y shelf) (w shelf) image own
          (stays shelf (map_of image) (inr (map_not_meta image)) ∙ keeps shelf (map_of image) (inr (map_not_image image))) listed;
      held = image_stays (z shelf) (w shelf) image disk own (stays shelf image (inr (image_not_meta image))) held;
      described = told;
    }))
    (λ x y w listed rest. rest listed)

-- the same as the three calls tell it
pub part_is : {T E : Type 0} (r : Result T E) (shelf : ℕ) (image file : List ℕ) (meta : DiskMeta) (disk : List ℕ) (own : List Bool)
    (a b c d : Option Files) → file ≡ image → meta.name ≡ image → Both a b (λ old new. IsMapOf (new shelf) image own)
    → Both b c (λ old new. IsImageOf (new shelf) file disk own) → Both b c (OthersStay shelf file)
    → OnOk r (Both c d (λ old new. IsMetaText (new shelf) meta.name meta)) → Both c d (OthersStay shelf (meta_of meta.name))
    → OnOk r (Both a d (λ old new. IsWritten (new shelf) image meta disk own))
part_is (Err e) shelf image file meta disk own a b c d same name p1 p2 o2 p3 o3 = tt
part_is (Ok v) shelf image file meta disk own a b c d same name p1 p2 o2 p3 o3 =
    part_joins shelf image meta disk own a b c d p1
    (subst (λ f. Both b c (λ old new. IsImageOf (new shelf) f disk own)) same p2) (subst (λ f. Both b c (OthersStay shelf f)) same o2)
    (subst (λ f. Both c d (λ old new. IsMetaText (new shelf) f meta)) name p3)
    (subst (λ f. Both c d (OthersStay shelf (meta_of f))) name o3)

-- ---- layers by their places

pub name_at : (stamps : Stamps) (node : Node) (place : Option ℕ) → (meta_at stamps node place).name ≡ image_at node place
name_at stamps node None = refl
name_at stamps node (Some place) = refl

pub snapshot_ends : (name : List ℕ) → Ends (snapshot_file name)
snapshot_ends name = IsEnd (codes "volume-snap-" ++ name) (sym (append_assoc (codes "volume-snap-") name (codes ".img")))

pub ends_at : (node : Node) (place : Option ℕ) → Ends (image_at node place)
ends_at node None =
    let digits = head_digits node.number in
    IsEnd (codes "volume-head-" ++ digits) (sym (append_assoc (codes "volume-head-") digits (codes ".img")))
ends_at node (Some place) = snapshot_ends (kept_at node.layers place).meta.name

begins_at : (node : Node) (place : Option ℕ) → Begins (image_at node place)
begins_at node None = IsBegin (codes "head-" ++ (head_digits node.number ++ codes ".img")) refl
begins_at node (Some place) = IsBegin (codes "snap-" ++ ((kept_at node.layers place).meta.name ++ codes ".img")) refl

pub not_volume : (node : Node) (place : Option ℕ) (f : List ℕ) → IsFileOf (image_at node place) f → f ≢ volume_file
not_volume node place f file e = no_volume (subst Begins e (begins_file (image_at node place) f (begins_at node place) file))

absent_name : (ks : List Kept) (name : List ℕ) (i : ℕ) → has_name (map (λ k. snapshot_of k.meta) ks) name ≡ false
    → i < length ks → name ≡ (kept_at ks i).meta.name → ⊥
absent_name [] name i none within e = omega arith
absent_name (k ∷ ks) name zero none within e = grind (arith, bytes_eq-Decides, none, e)
absent_name (k ∷ ks) name (suc i) none within e = absent_name ks name i (grind (arith, none)) (omega arith) e

-- a name stands at one place
once : (ks : List Kept) (i j : ℕ) → NamesOnce (map (λ k. snapshot_of k.meta) ks) → i < length ks → j < length ks
    → (kept_at ks i).meta.name ≡ (kept_at ks j).meta.name → i ≡ j
once [] i j names p q e = absurd (omega arith)
once (k ∷ ks) zero zero names p q e = refl
once (k ∷ ks) zero (suc j) names p q e = absurd (absent_name ks k.meta.name j names.0 (omega arith) e)
once (k ∷ ks) (suc i) zero names p q e = absurd (absent_name ks k.meta.name i names.0 (omega arith) (sym e))
once (k ∷ ks) (suc i) (suc j) names p q e = ap suc (once ks i j names.1 (omega arith) (omega arith) e)

-- a file is one of one place
one_place : (node : Node) (i j : Option ℕ) (f : List ℕ) → NamesOnce (tree_of node) → IsPlace node i → IsPlace node j
    → IsFileOf (image_at node i) f → IsFileOf (image_at node j) f → i ≡ j
one_place node i j f names p q one two =
    by_places i j p q (one_image (image_at node i) (image_at node j) f (ends_at node i) (ends_at node j) one two)
  where
    by_places : (i j : Option ℕ) → IsPlace node i → IsPlace node j → image_at node i ≡ image_at node j → i ≡ j
    by_places None None p q e = refl
    by_places None (Some j) p q e = absurd (head_no_snapshot node.number _ e)
    by_places (Some i) None p q e = absurd (head_no_snapshot node.number _ (sym e))
    by_places (Some i) (Some j) p q e = ap Some (once node.layers i j names p q (snapshots_differ _ _ e))

-- ---- one place more is written

-- these places, and that one
record IsWith (These Those : Option ℕ → Type 0) (node : Node) (place : Option ℕ) : Type 0 where
  here : IsPlace node place
  those : Those place
  more : (p : Option ℕ) → These p → Those p
  not : These place → ⊥
  one : (p : Option ℕ) → Those p → (p ≡ place) ⊎ (These p × IsPlace node p)

written_more : (These Those : Option ℕ → Type 0) (shelf : ℕ) (stamps : Stamps) (node : Node) (place : Option ℕ) (y z : Files)
    → NamesOnce (tree_of node) → IsWith These Those node place → AreWritten These (y shelf) stamps node
    → IsWrittenAt (z shelf) stamps node place → PartChanges shelf (image_at node place) y z → AreWritten Those (z shelf) stamps node
written_more These Those shelf stamps node place y z names w had part changes = record {
  parts = λ p those. ⊎_elim
      (λ (same : p ≡ place). subst (IsWrittenAt (z shelf) stamps node) (sym same) part)
      (λ (older : These p × IsPlace node p). part_stays (y shelf) (z shelf) _ _ _ _
      (λ f is. changes.others shelf f (inr (λ here. apart p older f is here)))
      (had.parts p older.0))
      (w.one p those);
  no_more = λ f of not.
      changes.others shelf f (inr (not place w.those)) ∙ had.no_more f of (λ p these. not p (w.more p these));
}
  where
    apart : (p : Option ℕ) → These p × IsPlace node p → (f : List ℕ) → IsFileOf (image_at node p) f
        → IsFileOf (image_at node place) f → ⊥
    apart p older f is here = w.not (subst These (one_place node p place f names older.1 w.here is here) older.0)

-- the next layer
pub layers_more : (shelf : ℕ) (stamps : Stamps) (node : Node) (place : ℕ) (y z : Files) → NamesOnce (tree_of node)
    → place < length node.layers → AreWritten (IsBelow place) (y shelf) stamps node → IsWrittenAt (z shelf) stamps node (Some place)
    → PartChanges shelf (image_at node (Some place)) y z → AreWritten (IsBelow (place + 1)) (z shelf) stamps node
layers_more shelf stamps node place y z names within =
    written_more (IsBelow place) (IsBelow (place + 1)) shelf stamps node (Some place) y z names (record {
      here = within;
      those = omega arith;
      more = below;
      not = λ less. omega (arith, less);
      one = last;
    })
  where
    below : (p : Option ℕ) → IsBelow place p → IsBelow (place + 1) p
    below None b = b
    below (Some p) b = omega arith

    last : (p : Option ℕ) → IsBelow (place + 1) p → (p ≡ Some place) ⊎ (IsBelow place p × IsPlace node p)
    last None b = absurd b
    last (Some p) b =
        ⊎_elim (λ (same : p ≡ place). inl (ap Some same)) (λ (less : p < place). inr (less, omega (arith, less, within))) (by_order p b)
      where
        by_order : (p : ℕ) → p < place + 1 → (p ≡ place) ⊎ (p < place)
        by_order p less = grind arith

-- the head, behind all layers
pub parts_all : (shelf : ℕ) (stamps : Stamps) (node : Node) (y z : Files) → NamesOnce (tree_of node)
    → AreWritten (IsBelow (length node.layers)) (y shelf) stamps node → IsWrittenAt (z shelf) stamps node None
    → PartChanges shelf (image_at node None) y z → AreWritten (IsPlace node) (z shelf) stamps node
parts_all shelf stamps node y z names =
    written_more (IsBelow (length node.layers)) (IsPlace node) shelf stamps node None y z names (record {
      here = tt;
      those = tt;
      more = below;
      not = λ b. b;
      one = last;
    })
  where
    below : (p : Option ℕ) → IsBelow (length node.layers) p → IsPlace node p
    below None b = absurd b
    below (Some p) b = b

    last : (p : Option ℕ) → IsPlace node p → (p ≡ None) ⊎ (IsBelow (length node.layers) p × IsPlace node p)
    last None b = inl refl
    last (Some p) b = inr (b, b)

-- ---- what is written stays

-- where no file of the shelf changes
pub written_stay : (shelf : ℕ) (stamps : Stamps) (node : Node) (x y : Files) → ((f : List ℕ) → y shelf f ≡ x shelf f)
    → AreWritten (IsPlace node) (x shelf) stamps node → AreWritten (IsPlace node) (y shelf) stamps node
written_stay shelf stamps node x y same had = record {
  parts = λ place is. part_stays (x shelf) (y shelf) _ _ _ _ (λ f file. same f) (had.parts place is);
  no_more = λ f of not. same f ∙ had.no_more f of not;
}
