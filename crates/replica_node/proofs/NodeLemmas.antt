-- What a change of a tree makes of the replica that it is.
use Rattle.std.proofs.Common.{◌≡◌, ◌≢◌, ℕ, zero, suc, ◌*◌, ◌/◌, ◌<◌, Bool, true, false, not, cond, List, [], ◌∷◌}
use Rattle.std.proofs.Common.{length, map, replicate, get_or, set, Option, None, Some, is_some, refl, sym, ap, subst}
use Rattle.std.proofs.Common.{◌∙◌, inl, inr, arith, ⊎_elim}
use Rattle.std.proofs.lemmas.List.{length-map}
use Rattle.std.specs.List.{All}
use Rattle.std.specs.Prelude.{Contains, IfSome, MatchOption}
use Rattle.std.specs.Str.{bytes_eq}
use Rattle.std.proofs.lemmas.List.Elements.{All-nil, All-cons, All-head, All-tail, All-set}
use Rattle.std.proofs.lemmas.Slice.Eq.{bytes_eq-Decides}
use Rattle.std.proofs.lemmas.Bool.{false≢true}
use Rattle.sparse_image.specs.Image.{Tables, IsEmpty, block_at, has_page}
use Rattle.std.specs.Option.{option_or}
use Rattle.vol_units.specs.Name.{begins_sys}
use Rattle.vol_units.specs.Bytes.{zeros}
use Rattle.vol_units.proofs.BytesLemmas.{length-zeros}
use Rattle.layer_chain.specs.Layers.{read_layers}
use Rattle.sparse_image.specs.Disk.{bytes_of, joined, disk_of}
use Rattle.sparse_image.proofs.DiskLemmas.{joined-same, disk_of-empty}
use Rattle.layer_chain.specs.declared.layer.Layer.{Layer}
use Rattle.layer_chain.specs.declared.layer.LayerMeta.{LayerMeta}
use Rattle.layer_chain.specs.Changes as change
use Rattle.layer_chain.specs.Tree.{Tree, name_of, reads, head_reads, layer_at, IsNew, IsThere, IsLayers, IsAt}
use Rattle.layer_chain.proofs.ChangeLemmas.{snapped_reads, snapped_others, snapped_head, reverted_head, mark_keeps}
use Rattle.layer_chain.proofs.ReadLaws.{cases_named}
use Rattle.sparse_image.proofs.ListedLemmas.{length-listed, listed-all}
use Rattle.replica_node.proofs.MadeLemmas.{made_empty}
use Rattle.replica_node.specs.Node.{Kept, Node, node_of, kept_in, disk_in, head_disk, own_in, made_in, layer_names}
use Rattle.replica_node.specs.Node.{disk_named, HasPlaces, IsImageOf, IsNode, IsKept, IsOfSize, IsFree, IsSpareOf, no_room, no_own, blank}
use Rattle.replica_node.specs.Node.{snapped_node, reverted_node, marked, marked_if_named}

-- ---- room, and blocks of its own

pub length-made_in : (image : Tables) (count : ℕ) → length (made_in image count) ≡ count
length-made_in image count = length-listed (λ block. has_page image (block / 512)) count

pub length-own_in : (image : Tables) (count : ℕ) → length (own_in image count) ≡ count
length-own_in image count = length-listed (λ block. is_some (block_at image block)) count

pub made_in-empty : (image : Tables) (page_count count : ℕ) → IsEmpty image page_count → made_in image count ≡ replicate count false
made_in-empty image page_count count e =
    listed-all (λ block. has_page image (block / 512)) count false (λ block. e.pages (block / 512))

pub own_in-empty : (image : Tables) (page_count count : ℕ) → IsEmpty image page_count → own_in image count ≡ replicate count false
own_in-empty image page_count count e =
    listed-all (λ block. is_some (block_at image block)) count false (λ block. ap is_some (e.blocks block))

-- a spare head has no room, and no block
no_room-empty : (t : Tree) (spare : Tables) (page_count count : ℕ) → IsEmpty spare page_count
    → made_in spare count ≡ no_room (node_of t count)
no_room-empty t spare page_count count e =
    made_in-empty spare page_count count e ∙ ap (λ n. replicate n false) (sym (length-made_in t.head count))

no_own-empty : (t : Tree) (spare : Tables) (page_count count : ℕ) → IsEmpty spare page_count → own_in spare count ≡ no_own (node_of t count)
no_own-empty t spare page_count count e =
    own_in-empty spare page_count count e ∙ ap (λ n. replicate n false) (sym (length-own_in t.head count))

-- a spare head has the pages of the tree
pub spare_pages : (t : Tree) (count : ℕ) (node : Node) (spare : Tables) → node_of t count ≡ node → IsSpareOf node spare
    → length spare * 512 ≡ count
spare_pages t count node spare view is = is.0 ∙ sym (ap (λ n. length n.room) view) ∙ length-made_in t.head count

-- the image of the layer is one of so many blocks
abbrev pub HasPages : ℕ → Layer → Type 0
HasPages count l = IsImageOf count l.image

-- ---- names

abbrev pub kept : LayerMeta → List ℕ → List Bool → Kept
kept m d own = record { meta = m; disk = d; own = own }

pub same_kept : (m : LayerMeta) (a b : List ℕ) (o u : List Bool) → a ≡ b → o ≡ u → kept m a o ≡ kept m b u
same_kept m a b o u p q = cc

pub some_name : (a b : List ℕ) → Some a ≡ Some b → a ≡ b
some_name a b e = cc

is_new : (xs layers : List Layer) (count : ℕ) (name : List ℕ)
    → All (λ (k : Kept). k.meta.name ≢ name) (map (kept_in layers count) xs) → IsNew name xs
is_new [] layers count name all = tt
is_new (x ∷ xs) layers count name all = (
  All-head (λ (k : Kept). k.meta.name ≢ name) (kept_in layers count x) (map (kept_in layers count) xs) all,
  is_new xs layers count name (All-tail (λ (k : Kept). k.meta.name ≢ name) (kept_in layers count x) (map (kept_in layers count) xs) all),
)

there_from : (xs layers : List Layer) (count : ℕ) (name : List ℕ) (i : ℕ) → i < length xs
    → get_or (layer_names (map (kept_in layers count) xs)) i name ≡ name → IsThere (Some name) xs
there_from [] layers count name i within e = absurd (omega arith)
there_from (x ∷ xs) layers count name zero within e = inl e
there_from (x ∷ xs) layers count name (suc i) within e = inr (there_from xs layers count name i (omega arith) e)

is_there : (xs layers : List Layer) (count : ℕ) (name : List ℕ)
    → Contains (layer_names (map (kept_in layers count) xs)) name → IsThere (Some name) xs
is_there xs layers count name c = there_from xs layers count name c.0
    (omega (arith, c.1, length-map {A = Kept} {B = List ℕ}, length-map {A = Layer} {B = Kept})) c.2

-- the same of the tree of a replica
pub free_in : (t : Tree) (count : ℕ) (node : Node) (name : List ℕ) → node_of t count ≡ node → IsFree node name → IsNew name t.layers
free_in t count node name view free = is_new t.layers t.layers count name (subst (λ n. IsFree n name) (sym view) free)

pub there_in : (t : Tree) (count : ℕ) (node : Node) (name : List ℕ) → node_of t count ≡ node → IsKept node (Some name)
    → IsThere (Some name) t.layers
there_in t count node name view there = is_there t.layers t.layers count name (subst (λ n. IsKept n (Some name)) (sym view) there)

-- and back
free_from : (xs layers : List Layer) (count : ℕ) (name : List ℕ) → IsNew name xs
    → All (λ (k : Kept). k.meta.name ≢ name) (map (kept_in layers count) xs)
free_from [] layers count name free = All-nil (λ (k : Kept). k.meta.name ≢ name)
free_from (x ∷ xs) layers count name free =
    All-cons (λ (k : Kept). k.meta.name ≢ name) (kept_in layers count x) (map (kept_in layers count) xs) free.0
    (free_from xs layers count name free.1)

pub is_free : (t : Tree) (count : ℕ) (node : Node) (name : List ℕ) → node_of t count ≡ node → IsNew name t.layers → IsFree node name
is_free t count node name view free = subst (λ n. IsFree n name) view (free_from t.layers t.layers count name free)

kept_from : (xs layers : List Layer) (count : ℕ) (name : List ℕ) → IsThere (Some name) xs
    → Contains (layer_names (map (kept_in layers count) xs)) name
kept_from [] layers count name there = absurd there
kept_from (x ∷ xs) layers count name (inl same) = (0, omega arith, same)
kept_from (x ∷ xs) layers count name (inr older) =
    let rest = kept_from xs layers count name older in
    (suc rest.0, omega (arith, rest.1), rest.2)

pub is_kept : (t : Tree) (count : ℕ) (node : Node) (name : List ℕ) → node_of t count ≡ node → IsThere (Some name) t.layers
    → IsKept node (Some name)
is_kept t count node name view there = subst (λ n. IsKept n (Some name)) view (kept_from t.layers t.layers count name there)

-- what a search for the name tells
pub found_there : (xs : List Layer) (name : List ℕ) (found : Option ℕ) (b : Bool) → b ≡ is_some found → b ≡ true
    → IfSome found (λ _. IsThere (Some name) xs) → IsThere (Some name) xs
found_there xs name None b is true_is there = absurd (false≢true (sym is ∙ true_is))
found_there xs name (Some place) b is true_is there = there

pub not_found : (xs : List Layer) (name : List ℕ) (found : Option ℕ) (b : Bool) → b ≡ is_some found → b ≡ false
    → MatchOption found (IsNew name xs) (λ place. IsAt xs name place) → IsNew name xs
not_found xs name None b is false_is place = place
not_found xs name (Some at) b is false_is place = absurd (false≢true (sym false_is ∙ is))

-- ---- what is kept

-- layers of other names are kept as they were
pub kept_elsewhere : (xs old new : List Layer) (count : ℕ) (name : List ℕ) → IsNew name xs
    → ((n : List ℕ) → n ≢ name → disk_in new count n ≡ disk_in old count n) → map (kept_in new count) xs ≡ map (kept_in old count) xs
kept_elsewhere [] old new count name free same = refl
kept_elsewhere (x ∷ xs) old new count name free same =
    both (same_kept x.meta _ _ _ _ (same (name_of x) free.0) refl) (kept_elsewhere xs old new count name free.1 same)
  where
    both : {a b : Kept} {l m : List Kept} → a ≡ b → l ≡ m → a ∷ l ≡ b ∷ m
    both p q = cc

abbrev pub node_with : List Kept → Option (List ℕ) → ℕ → List ℕ → List Bool → List Bool → Node
node_with layers on number disk room own =
    record { layers = layers; on = on; number = number; disk = disk; room = room; own = own }

-- the same parts, the same replica
pub same_parts : {a b : List Kept} {c d : Option (List ℕ)} {m n : ℕ} {f g : List ℕ} {r s u v : List Bool} → a ≡ b → c ≡ d
    → m ≡ n → f ≡ g → r ≡ s → u ≡ v
    → node_with a c m f r u ≡ node_with b d n g s v
same_parts p q x y z w = cc

-- ---- a snapshot

pub node_of_snapped : (t : Tree) (count : ℕ) (name : List ℕ) (spare : Tables) (page_count : ℕ)
    → IsNew name t.layers → IsEmpty spare page_count
    → node_of (change.snapped_tree t name (not (begins_sys name)) spare) count ≡ snapped_node (node_of t count) name
node_of_snapped t count name spare page_count free e =
    let user_created = not (begins_sys name) in
    let after = change.snapped_tree t name user_created spare in
    let own : disk_in after.layers count name ≡ head_disk t count =
    joined-same (λ k. bytes_of (head_reads t k)) (λ k. bytes_of (reads after.layers (Some name) k)) count
    (λ k h. ap bytes_of (snapped_reads t name user_created spare k)) in
    let others : (n : List ℕ) → n ≢ name → disk_in after.layers count n ≡ disk_in t.layers count n =
    λ n other. joined-same (λ k. bytes_of (reads t.layers (Some n) k)) (λ k. bytes_of (reads after.layers (Some n) k)) count
    (λ k h. ap bytes_of (snapped_others t name user_created spare (Some n) k (λ same. other (some_name n name same)))) in
    let head : head_disk after count ≡ head_disk t count =
    joined-same (λ k. bytes_of (head_reads t k)) (λ k. bytes_of (head_reads after k)) count
    (λ k h. ap bytes_of (snapped_head t name user_created spare k (e.blocks k))) in
    same_parts
    (both (same_kept _ _ _ _ _ own refl) (kept_elsewhere t.layers t.layers after.layers count name free others)) refl refl head
    (no_room-empty t spare page_count count e) (no_own-empty t spare page_count count e)
  where
    both : {a b : Kept} {l m : List Kept} → a ≡ b → l ≡ m → a ∷ l ≡ b ∷ m
    both p q = cc

pub snapped_whole : (t : Tree) (count : ℕ) (name : List ℕ) (user_created : Bool) (spare : Tables) (page_count : ℕ)
    → IsNode t count → IsEmpty spare page_count → page_count * 512 ≡ count → IsNode (change.snapped_tree t name user_created spare) count
snapped_whole t count name user_created spare page_count n e pages =
    let after = change.snapped_tree t name user_created spare in
    record {
      pages = ap (λ l. l * 512) e.count ∙ pages;
      made = made_empty spare page_count e;
      images = All-cons (HasPages count) (layer_at after.layers 0) t.layers (record { pages = n.pages; made = n.made }) n.images;
      layers = λ want k. ⊎_elim
          (λ same. ap (λ w. length (bytes_of (reads after.layers w k))) same
          ∙ ap (λ b. length (bytes_of b)) (snapped_reads t name user_created spare k) ∙ n.head k)
          (λ other. ap (λ b. length (bytes_of b)) (snapped_others t name user_created spare want k other) ∙ n.layers want k)
          (cases_named want name);
      head = λ k. ap (λ b. length (bytes_of b)) (snapped_head t name user_created spare k (e.blocks k)) ∙ n.head k;
    }

-- ---- a revert

pub named_there : (xs layers : List Layer) (count : ℕ) (name : List ℕ) → IsThere (Some name) xs
    → disk_named (map (kept_in layers count) xs) name ≡ disk_in layers count name
named_there [] layers count name there = absurd there
named_there (x ∷ xs) layers count name there = go (λ older. named_there xs layers count name older) (bytes_eq name (name_of x)) refl
  where
    go : (IsThere (Some name) xs → disk_named (map (kept_in layers count) xs) name ≡ disk_in layers count name) → (b : Bool)
        → bytes_eq name (name_of x) ≡ b → cond b (disk_in layers count (name_of x))
        (disk_named (map (kept_in layers count) xs) name) ≡ disk_in layers count name
    go rest true is = ap (disk_in layers count) (sym ((bytes_eq-Decides name (name_of x)).0 is))
    go rest false is = ⊎_elim
        (λ same. absurd (false≢true (sym is ∙ (bytes_eq-Decides name (name_of x)).1 (sym same))))
        rest
        there

pub node_of_reverted : (t : Tree) (count : ℕ) (name : List ℕ) (spare : Tables) (page_count : ℕ)
    → IsThere (Some name) t.layers → IsEmpty spare page_count
    → node_of (change.reverted_tree t name spare) count ≡ reverted_node (node_of t count) name
node_of_reverted t count name spare page_count there e =
    let after = change.reverted_tree t name spare in
    let head : head_disk after count ≡ disk_in t.layers count name =
    joined-same (λ k. bytes_of (reads t.layers (Some name) k)) (λ k. bytes_of (head_reads after k)) count
    (λ k h. ap bytes_of (reverted_head t name spare k (e.blocks k))) in
    same_parts refl refl refl (head ∙ sym (named_there t.layers t.layers count name there))
    (no_room-empty t spare page_count count e) (no_own-empty t spare page_count count e)

pub reverted_whole : (t : Tree) (count : ℕ) (name : List ℕ) (spare : Tables) (page_count : ℕ)
    → IsNode t count → IsEmpty spare page_count → page_count * 512 ≡ count → IsNode (change.reverted_tree t name spare) count
reverted_whole t count name spare page_count n e pages = record {
  pages = ap (λ l. l * 512) e.count ∙ pages;
  made = made_empty spare page_count e;
  images = n.images;
  layers = n.layers;
  head = λ k. ap (λ b. length (bytes_of b)) (reverted_head t name spare k (e.blocks k)) ∙ n.layers (Some name) k;
}

-- ---- a mark

-- layers of other names stay without it
unmarked_others : (xs : List Layer) (layers : List Layer) (count : ℕ) (name : List ℕ) → IsNew name xs
    → map (marked_if_named name) (map (kept_in layers count) xs) ≡ map (kept_in layers count) xs
unmarked_others [] layers count name free = refl
unmarked_others (x ∷ xs) layers count name free =
    both (other (bytes_eq name (name_of x)) refl) (unmarked_others xs layers count name free.1)
  where
    both : {a b : Kept} {l m : List Kept} → a ≡ b → l ≡ m → a ∷ l ≡ b ∷ m
    both p q = cc

    other : (b : Bool) → bytes_eq name (name_of x) ≡ b → marked_if_named name (kept_in layers count x) ≡ kept_in layers count x
    other true is = absurd (free.0 (sym ((bytes_eq-Decides name (name_of x)).0 is)))
    other false is = ap (λ b. cond b (record (kept_in layers count x) { meta = record x.meta { marked = true } })
        (kept_in layers count x)) is

marked_here : (layers : List Layer) (count : ℕ) (name : List ℕ) (x : Layer) → name_of x ≡ name
    → marked_if_named name (kept_in layers count x) ≡ kept_in layers count (change.marked_layer x)
marked_here layers count name x is =
    ap (λ b. cond b (record (kept_in layers count x) { meta = record x.meta { marked = true } }) (kept_in layers count x))
    ((bytes_eq-Decides name (name_of x)).1 (sym is))

marked_at_place : (xs layers : List Layer) (count : ℕ) (name : List ℕ) (place : ℕ) → IsLayers xs → place < length xs
    → name_of (layer_at xs place) ≡ name
    → map (marked_if_named name) (map (kept_in layers count) xs) ≡ map (kept_in layers count)
    (set xs place (change.marked_layer (layer_at xs place)))
marked_at_place [] layers count name place tree within is = absurd (omega arith)
marked_at_place (x ∷ xs) layers count name zero tree within is =
    both (marked_here layers count name x is) (unmarked_others xs layers count name (subst (λ n. IsNew n xs) is tree.0))
  where
    both : {a b : Kept} {l m : List Kept} → a ≡ b → l ≡ m → a ∷ l ≡ b ∷ m
    both p q = cc
marked_at_place (x ∷ xs) layers count name (suc place) tree within is =
    both (other (bytes_eq name (name_of x)) refl) (marked_at_place xs layers count name place tree.2 (omega arith) is)
  where
    both : {a b : Kept} {l m : List Kept} → a ≡ b → l ≡ m → a ∷ l ≡ b ∷ m
    both p q = cc

    there : (ys : List Layer) (i : ℕ) → i < length ys → IsNew (name_of (layer_at ys i)) ys → ⊥
    there [] i h free = absurd (omega arith)
    there (y ∷ ys) zero h free = free.0 refl
    there (y ∷ ys) (suc i) h free = there ys i (omega arith) free.1

    apart : name_of x ≡ name → ⊥
    apart same = there xs place (omega arith) (subst (λ n. IsNew n xs) (same ∙ sym is) tree.0)

    other : (b : Bool) → bytes_eq name (name_of x) ≡ b → marked_if_named name (kept_in layers count x) ≡ kept_in layers count x
    other true is = absurd (apart (sym ((bytes_eq-Decides name (name_of x)).0 is)))
    other false is = ap (λ b. cond b (record (kept_in layers count x) { meta = record x.meta { marked = true } })
        (kept_in layers count x)) is

-- the same readings, the same layers
same_readings : (xs old new : List Layer) (count : ℕ) → ((n : List ℕ) → disk_in new count n ≡ disk_in old count n)
    → map (kept_in new count) xs ≡ map (kept_in old count) xs
same_readings [] old new count same = refl
same_readings (x ∷ xs) old new count same = both (same_kept x.meta _ _ _ _ (same (name_of x)) refl) (same_readings xs old new count same)
  where
    both : {a b : Kept} {l m : List Kept} → a ≡ b → l ≡ m → a ∷ l ≡ b ∷ m
    both p q = cc

pub marked_node : (t : Tree) (count : ℕ) (name : List ℕ) (place : ℕ) → IsLayers t.layers → IsAt t.layers name place
    → node_of (change.marked_at t place) count ≡ marked (node_of t count) name
marked_node t count name place tree at =
    let after = change.marked_at t place in
    let keeps = mark_keeps t place at.within in
    let layers : map (kept_in after.layers count) after.layers ≡ map (marked_if_named name) (map (kept_in t.layers count) t.layers) =
    same_readings after.layers t.layers after.layers count
    (λ n. joined-same (λ k. bytes_of (reads t.layers (Some n) k)) (λ k. bytes_of (reads after.layers (Some n) k)) count
    (λ k h. ap bytes_of (keeps.layers (Some n) k)))
    ∙ sym (marked_at_place t.layers t.layers count name place tree at.within at.named) in
    let head : head_disk after count ≡ head_disk t count =
    joined-same (λ k. bytes_of (head_reads t k)) (λ k. bytes_of (head_reads after k)) count (λ k h. ap bytes_of (keeps.head k)) in
    same_parts layers refl refl head refl refl

pub marked_whole : (t : Tree) (count place : ℕ) → place < length t.layers → IsNode t count → IsNode (change.marked_at t place) count
marked_whole t count place within n =
    let keeps = mark_keeps t place within in
    record {
      pages = n.pages;
      made = n.made;
      images = All-set (HasPages count) t.layers place (change.marked_layer (layer_at t.layers place)) (n.images place _ within) n.images;
      layers = λ want k. ap (λ b. length (bytes_of b)) (keeps.layers want k) ∙ n.layers want k;
      head = λ k. ap (λ b. length (bytes_of b)) (keeps.head k) ∙ n.head k;
    }

-- ---- a blank replica

no_reading : (layers : List Layer) (want : Option (List ℕ)) (k : ℕ) → layers ≡ [] → reads layers want k ≡ None
unfolding read_layers
no_reading layers want k none = ap (λ ls. reads ls want k) none

blank_block : (t : Tree) (page_count k : ℕ) → t.layers ≡ [] → IsEmpty t.head page_count → head_reads t k ≡ None
blank_block t page_count k none e = both (e.blocks k) (no_reading t.layers t.on k none)
  where
    both : {a b : Option (List ℕ)} → a ≡ None → b ≡ None → option_or a b ≡ None
    both p q = rw (p, q) refl

pub length-none : length (bytes_of None) ≡ 4096
length-none = length-zeros 4096

pub as_disk : (image : Tables) (n : ℕ) → IsEmpty image n
    → joined (λ k. bytes_of (block_at image k)) (length image * 512) ≡ zeros (n * 2097152)
unfolding disk_of
as_disk image n e = disk_of-empty image n e

pub blank_sized : (t : Tree) (page_count count : ℕ) → t.layers ≡ [] → IsEmpty t.head page_count → page_count * 512 ≡ count
    → IsOfSize t count
blank_sized t page_count count none e pages = record {
  head = ap (λ l. l * 512) e.count ∙ pages;
  layers = subst (All (HasPlaces count)) (sym none) (All-nil (HasPlaces count));
}

pub blank_node : (t : Tree) (page_count count size : ℕ) → t.layers ≡ [] → IsEmpty t.head page_count → t.on ≡ None → t.number ≡ 0
    → page_count * 512 ≡ count → size / 4096 ≡ count → page_count * 2097152 ≡ size → node_of t count ≡ blank size
blank_node t page_count count size none e root first pages blocks bytes =
    let disk : head_disk t count ≡ zeros size =
    joined-same (λ k. bytes_of (block_at t.head k)) (λ k. bytes_of (head_reads t k)) count
    (λ k h. ap bytes_of (blank_block t page_count k none e ∙ sym (e.blocks k)))
    ∙ ap (λ n. joined (λ k. bytes_of (block_at t.head k)) n) (sym (ap (λ l. l * 512) e.count ∙ pages))
    ∙ as_disk t.head page_count e ∙ ap zeros bytes in
    let layers : map (kept_in t.layers count) t.layers ≡ [] = ap (map (kept_in t.layers count)) none in
    let room : made_in t.head count ≡ replicate (size / 4096) false = made_in-empty t.head page_count count e
    ∙ ap (λ n. replicate n false) (sym blocks) in
    let own : own_in t.head count ≡ replicate (size / 4096) false = own_in-empty t.head page_count count e
    ∙ ap (λ n. replicate n false) (sym blocks) in
    same_parts layers root first disk room own
