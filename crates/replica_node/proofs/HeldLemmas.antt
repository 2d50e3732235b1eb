-- The blocks that the layers of a replica themselves have are those of its tree's images.
use Rattle.std.proofs.Common.{◌≡◌, ◌≢◌, ⊎_elim, ℕ, zero, suc, ◌+◌, ◌*◌, ◌/◌, ◌%◌, ◌<◌, Bool, true, false, cond, List}
use Rattle.std.proofs.Common.{[], ◌∷◌, ◌++◌, length, map, set, length-set, get_or-set_other, Option, None, Some}
use Rattle.std.proofs.Common.{is_some, refl, sym, ap, subst, ◌∙◌, arith, append_assoc}
use Rattle.std.specs.Prelude.{◌&&◌, All}
use Rattle.std.specs.Option.{option_or}
use Rattle.std.specs.Str.{bytes_eq}
use Rattle.std.proofs.lemmas.Bool.{cases_eq, cases_lt, eqb-true, false≢true}
use Rattle.std.proofs.lemmas.Slice.Eq.{bytes_eq-Decides}
use Rattle.std.proofs.lemmas.List.Elements.{All-set}
use Rattle.sparse_image.specs.Image.{Table, Tables, block_at, place_at, table_at, HasBlock, HasNoBlock}
use Rattle.sparse_image.specs.Whole.{IsTable}
use Rattle.sparse_image.specs.Disk.{bytes_of, joined}
use Rattle.sparse_image.proofs.DiskLemmas.{length-joined}
use Rattle.sparse_image.proofs.ImageLemmas.{ChangesBlock-past}
use Rattle.vol_units.specs.Chain.{is_named}
use Rattle.layer_chain.specs.Layers.{read_layers}
use Rattle.layer_chain.specs.Changes.{with_layers, with_image}
use Rattle.layer_chain.specs.Changes as change
use Rattle.layer_chain.specs.Tree.{Tree, name_of, parent_of, layer_at, reads, head_reads, IsAt, IsLayers, IsThere, IsWholeTree}
use Rattle.layer_chain.specs.declared.layer.Layer.{Layer}
use Rattle.layer_chain.specs.declared.layer.LayerMeta.{LayerMeta}
use Rattle.layer_chain.proofs.TreeLemmas.{there_at, layer_read}
use Rattle.layer_chain.proofs.TreeShape.{apart, tree_back}
use Rattle.layer_chain.proofs.FoldLaws.{alike_tree}
use Rattle.coalesce.proofs.ChildLemmas.{same_name, other_name}
use Rattle.replica_node.specs.Node.{Kept, Node, node_of, kept_in, disk_in, head_disk, own_in, made_in, has_own, IsInPages, IsNode}
use Rattle.replica_node.specs.Fold.{is_in, HasBlockIn, HasNoBlockIn}
use Rattle.replica_node.specs.Held.{block_of, own_block, block_named, read_below, IsOver, AreChained, IsChained}
use Rattle.replica_node.specs.Held.{IsPageOf, put_block, PutsPage}
use Rattle.replica_node.proofs.CutLemmas.{place_reads, cut_reads}
use Rattle.replica_node.proofs.MadeLemmas.{made_put}
use Rattle.sparse_image.proofs.ListedLemmas.{listed-past}
use Rattle.replica_node.proofs.NodeLemmas.{HasPages, length-none, length-own_in, named_there}
use Rattle.replica_node.proofs.OwnLemmas.{own_at, is_in-same, is_in-other}
use Rattle.replica_node.proofs.ReadLemmas.{joined-block}

-- ---- own blocks

own_some : (o r : Option (List ℕ)) (h : Bool) (d : List ℕ) → h ≡ is_some o → d ≡ bytes_of (option_or o r) → cond h (Some d) None ≡ o
own_some None r h d e f = ap (λ t. cond t (Some d) None) e
own_some (Some b) r h d e f = ap (λ t. cond t (Some d) None) e ∙ ap (λ x. Some x) f

-- what reads as its image's blocks over others has just those itself
image_own : (image : Tables) (count block : ℕ) (f : ℕ → List ℕ) (rest : ℕ → Option (List ℕ)) → length image * 512 ≡ count
    → ((k : ℕ) → length (f k) ≡ 4096)
    → ((k : ℕ) → f k ≡ bytes_of (option_or (block_at image k) (rest k)))
    → own_block (joined f count) (own_in image count) block ≡ block_at image block
image_own image count block f rest pages whole reads_as = ⊎_elim
    (λ inside. own_some (block_at image block) (rest block) (has_own (own_in image count) block) (block_of (joined f count) block)
    (own_at image count block inside) (joined-block f count block inside whole ∙ reads_as block))
    (λ past. ap (λ h. cond h (Some (block_of (joined f count) block)) None) (listed-past (λ k. is_some (block_at image k)) count block past)
    ∙ sym (ChangesBlock-past image block (λ b. b) (omega (arith, pages))).0)
    (cases_lt block count)

module _ (t : Tree) (count : ℕ) (n : IsNode t count) where
  pub own_head : (block : ℕ) → own_block (head_disk t count) (own_in t.head count) block ≡ block_at t.head block
  own_head block = image_own t.head count block (λ k. bytes_of (head_reads t k)) (λ k. reads t.layers t.on k) n.pages n.head (λ k. refl)

  pub own_layer : IsLayers t.layers → (i : ℕ) → i < length t.layers → (block : ℕ)
      → own_block (disk_in t.layers count (name_of (layer_at t.layers i))) (own_in (layer_at t.layers i).image count)
      block ≡ block_at (layer_at t.layers i).image block
  own_layer tree i within block =
      let x = layer_at t.layers i in
      image_own x.image count block (λ k. bytes_of (reads t.layers (Some (name_of x)) k))
      (λ k. reads t.layers (parent_of x) k) (n.images i _ within).pages (n.layers (Some (name_of x)))
      (λ k. ap bytes_of (place_reads t.layers (name_of x) i tree (record { within = within; named = refl }) k))

-- the block of the image of the name
abbrev pub image_block : List Layer → List ℕ → ℕ → Option (List ℕ)
image_block [] name block = None
image_block (x ∷ xs) name block = cond (bytes_eq name (name_of x)) (block_at x.image block) (image_block xs name block)

named_block : (xs layers : List Layer) (count : ℕ) (name : List ℕ) (block : ℕ)
    → ((i : ℕ) → i < length xs → own_block (disk_in layers count (name_of (layer_at xs i)))
    (own_in (layer_at xs i).image count) block ≡ block_at (layer_at xs i).image block)
    → block_named (map (kept_in layers count) xs) name block ≡ image_block xs name block
named_block [] layers count name block own = refl
named_block (x ∷ xs) layers count name block own =
    ap (λ o. cond (bytes_eq name (name_of x)) o (block_named (map (kept_in layers count) xs) name block)) (own zero (omega arith))
    ∙ ap (λ o. cond (bytes_eq name (name_of x)) (block_at x.image block) o)
    (named_block xs layers count name block (λ i h. own (suc i) (omega arith)))

pub block_in_tree : (t : Tree) (count : ℕ) (name : List ℕ) (block : ℕ) → IsNode t count → IsLayers t.layers
    → block_named (node_of t count).layers name block ≡ image_block t.layers name block
block_in_tree t count name block n tree =
    named_block t.layers t.layers count name block (λ i h. own_layer t count n tree i h block)

image_at : (xs : List Layer) (name : List ℕ) (i block : ℕ) → IsLayers xs → IsAt xs name i
    → image_block xs name block ≡ block_at (layer_at xs i).image block
image_at [] name i block tree at = absurd (omega (arith, at.within))
image_at (x ∷ xs) name zero block tree at =
    ap (λ b. cond b (block_at x.image block) (image_block xs name block)) (ap (bytes_eq name) at.named ∙ same_name name)
image_at (x ∷ xs) name (suc i) block tree at =
    let in_i : i < length xs = omega (arith, at.within) in
    ap (λ b. cond b (block_at x.image block) (image_block xs name block))
    (other_name name (name_of x) (λ e. apart name_of parent_of (name_of x) name xs tree.0 (there_at xs i name _ in_i at.named) (sym e)))
    ∙ image_at xs name i block tree.2 (record { within = in_i; named = at.named })

-- ---- a page goes out

pub page_out : (t : Tree) (count : ℕ) (node : Node) (name : List ℕ) (page i : ℕ) (table : Table) → node_of t count ≡ node
    → IsNode t count → IsLayers t.layers
    → IsAt t.layers name i → ((k : ℕ) → k < 512 → place_at table k ≡ block_at (layer_at t.layers i).image (page * 512 + k))
    → IsPageOf node name page table
page_out t count node name page i table view n tree at is = λ k h.
    is k h ∙ sym (image_at t.layers name i (page * 512 + k) tree at) ∙ sym (block_in_tree t count name (page * 512 + k) n tree)
    ∙ ap (λ x. block_named x.layers name (page * 512 + k)) view

pub table_places : (image : Tables) (page k : ℕ) → k < 512 → block_at image (page * 512 + k) ≡ place_at (table_at image page) k
unfolding block_at
table_places image page k h =
    let d : (page * 512 + k) / 512 ≡ page = omega arith in
    let m : (page * 512 + k) % 512 ≡ k = omega arith in
    ap (λ p. place_at (table_at image p) ((page * 512 + k) % 512)) d ∙ ap (place_at (table_at image page)) m

-- whether the page of an image has a block is whether its table has one
pub has_in : (image : Tables) (page : ℕ) → HasBlock (table_at image page) → HasBlockIn image page
has_in image page has =
    let here : (page * 512 + has.0) / 512 ≡ page = omega (arith, has.1) in
    (page * 512 + has.0, is_in-same page (page * 512 + has.0) here, ap is_some (table_places image page has.0 has.1) ∙ has.2)

pub none_in : (image : Tables) (page : ℕ) → HasNoBlock (table_at image page) → HasNoBlockIn image page
unfolding block_at
none_in image page none = λ block inside.
    ap (λ p. is_some (place_at (table_at image p) (block % 512))) (eqb-true (block / 512) page inside) ∙ ap is_some (none (block % 512))

-- ---- a page comes in

cond_twice : (b : Bool) (u v w : Option (List ℕ)) → cond b u w ≡ cond b u (cond b v w)
cond_twice true u v w = refl
cond_twice false u v w = refl

swap_conds : (a b : Bool) (u v w : Option (List ℕ)) → (a ≡ true → b ≡ false) → cond a u (cond b v w) ≡ cond b v (cond a u w)
swap_conds true b u v w h = sym (ap (λ t. cond t v u) (h refl))
swap_conds false b u v w h = refl

-- the blocks of the names, once another layer stands at the place
image_set : (xs : List Layer) (name : List ℕ) (i : ℕ) (y : Layer) (other : List ℕ) (block : ℕ) → IsLayers xs
    → IsAt xs name i → name_of y ≡ name
    → image_block (set xs i y) other block ≡ cond (bytes_eq other name) (block_at y.image block) (image_block xs other block)
image_set [] name i y other block tree at same = absurd (omega (arith, at.within))
image_set (x ∷ xs) name zero y other block tree at same =
    let image_block_here = image_block xs other block in
    ap (λ m. cond (bytes_eq other m) (block_at y.image block) image_block_here) same
    ∙ cond_twice (bytes_eq other name) (block_at y.image block) (block_at x.image block) image_block_here
    ∙ ap (λ m. cond (bytes_eq other name) (block_at y.image block) (cond (bytes_eq other m) (block_at x.image block) image_block_here))
    (sym at.named)
image_set (x ∷ xs) name (suc i) y other block tree at same =
    let in_i : i < length xs = omega (arith, at.within) in
    ap (λ o. cond (bytes_eq other (name_of x)) (block_at x.image block) o)
    (image_set xs name i y other block tree.2 (record { within = in_i; named = at.named }) same)
    ∙ swap_conds (bytes_eq other (name_of x)) (bytes_eq other name) (block_at x.image block) (block_at y.image block)
    (image_block xs other block)
    (λ e. other_name other name (λ f. apart name_of parent_of (name_of x) name xs tree.0
    (there_at xs i name _ in_i at.named) (sym (sym ((bytes_eq-Decides other (name_of x)).0 e) ∙ sym f))))

set_metas : (xs : List Layer) (i : ℕ) (y : Layer) → i < length xs → y.meta ≡ (layer_at xs i).meta
    → map (λ (l : Layer). l.meta) (set xs i y) ≡ map (λ (l : Layer). l.meta) xs
set_metas [] i y h same = absurd (omega arith)
set_metas (x ∷ xs) zero y h same = ap (λ (m : LayerMeta). m ∷ map (λ (l : Layer). l.meta) xs) same
set_metas (x ∷ xs) (suc i) y h same = ap (λ (ms : List LayerMeta). x.meta ∷ ms) (set_metas xs i y (omega arith) same)

pub kept_metas : (xs layers : List Layer) (count : ℕ)
    → map (λ (k : Kept). k.meta) (map (kept_in layers count) xs) ≡ map (λ (l : Layer). l.meta) xs
kept_metas [] layers count = refl
kept_metas (x ∷ xs) layers count = ap (λ (ms : List LayerMeta). x.meta ∷ ms) (kept_metas xs layers count)

pub length-some : (o : Option (List ℕ)) → ((b : List ℕ) → o ≡ Some b → length b ≡ 4096) → length (bytes_of o) ≡ 4096
length-some None whole = length-none
length-some (Some b) whole = whole b refl

-- where the images have whole blocks, what is read is whole
pub whole_or : (a b : Option (List ℕ)) → length (bytes_of a) ≡ 4096 → length (bytes_of b) ≡ 4096 → length (bytes_of (option_or a b)) ≡ 4096
whole_or None b p q = q
whole_or (Some a) b p q = p

pub reads_whole : (xs : List Layer) (k : ℕ) → ((i : ℕ) → i < length xs → length (bytes_of (block_at (layer_at xs i).image k)) ≡ 4096)
    → (want : Option (List ℕ)) → length (bytes_of (reads xs want k)) ≡ 4096
unfolding read_layers
reads_whole [] k whole want = length-none
reads_whole (x ∷ xs) k whole want =
    let rest = reads_whole xs k (λ i h. whole (suc i) (omega arith)) in
    go (is_named want (name_of x)) (whole_or (block_at x.image k) (reads xs (parent_of x) k) (whole zero (omega arith))
    (rest (parent_of x))) (rest want)
  where
    go : (b : Bool) → length (bytes_of (option_or (block_at x.image k) (reads xs (parent_of x) k))) ≡ 4096
        → length (bytes_of (reads xs want k)) ≡ 4096
        → length (bytes_of (cond b (option_or (block_at x.image k) (reads xs (parent_of x) k)) (reads xs want k))) ≡ 4096
    go true p q = p
    go false p q = q

own_whole : (o r : Option (List ℕ)) → length (bytes_of (option_or o r)) ≡ 4096 → length (bytes_of o) ≡ 4096
own_whole None r whole = length-none
own_whole (Some b) r whole = whole

-- the images of a replica have whole blocks
pub image_whole : (t : Tree) (count : ℕ) (i k : ℕ) → IsNode t count → IsLayers t.layers → i < length t.layers
    → length (bytes_of (block_at (layer_at t.layers i).image k)) ≡ 4096
image_whole t count i k n tree within =
    let x = layer_at t.layers i in
    own_whole (block_at x.image k) (reads t.layers (parent_of x) k)
    (ap (λ o. length (bytes_of o)) (sym (place_reads t.layers (name_of x) i tree (record { within = within; named = refl }) k))
    ∙ n.layers (Some (name_of x)) k)

module _ (old new : Tree) (count : ℕ) (name : List ℕ) (i page : ℕ) (table : Table) (w : IsLayers old.layers)
    (at : IsAt old.layers name i) (puts : change.PutsPage old.layers new.layers i page table)
    (rest : new ≡ with_layers old new.layers) (n : IsNode old count) (tab : IsTable table) where
  abbrev x : Layer
  x = layer_at old.layers i

  abbrev y : Layer
  y = with_image x (layer_at new.layers i).image

  other_place : (j : ℕ) → j ≢ i → layer_at (set old.layers i y) j ≡ layer_at old.layers j
  other_place j o = get_or-set_other old.layers i j y _ o

  block_put : (k : ℕ) → length (bytes_of (block_at (layer_at new.layers i).image k)) ≡ 4096
  block_put k = ⊎_elim
      (λ e. ap (λ o. length (bytes_of o)) (puts.image.blocks k e) ∙ length-some (place_at table (k % 512)) (tab.blocks (k % 512)))
      (λ o. ap (λ b. length (bytes_of b)) (puts.image.others k o) ∙ image_whole old count i k n w at.within)
      (cases_eq (k / 512) page)

  new_whole : (k j : ℕ) → j < length new.layers → length (bytes_of (block_at (layer_at new.layers j).image k)) ≡ 4096
  new_whole k j h = ⊎_elim
      (λ e. ap (λ p. length (bytes_of (block_at (layer_at new.layers p).image k))) e ∙ block_put k)
      (λ o. ap (λ (xs : List Layer). length (bytes_of (block_at (layer_at xs j).image k))) puts.rest
      ∙ ap (λ (l : Layer). length (bytes_of (block_at l.image k))) (other_place j o)
      ∙ image_whole old count j k n w (omega (arith, h, ap length puts.rest, length-set old.layers i y)))
      (cases_eq j i)

  pub put_whole : IsNode new count
  put_whole = record {
    pages = ap (λ t. length t.head * 512) rest ∙ n.pages;
    made = subst IsInPages (sym (ap (λ t. t.head) rest)) n.made;
    images = subst (All (HasPages count)) (sym puts.rest)
        (All-set (HasPages count) old.layers i y
        (made_put x.image (layer_at new.layers i).image count page table puts.image tab (n.images i _ at.within))
        n.images);
    layers = λ want k. reads_whole new.layers k (new_whole k) want;
    head = λ k. whole_or (block_at new.head k) (reads new.layers new.on k)
        (ap (λ t. length (bytes_of (block_at t.head k))) rest ∙ own_whole (block_at old.head k) (reads old.layers old.on k) (n.head k))
        (reads_whole new.layers k (new_whole k) new.on);
  }

  new_tree : IsLayers new.layers
  new_tree = subst (λ (xs : List Layer). IsLayers xs) (sym puts.rest)
      (alike_tree name_of parent_of (λ l. block_at l.image 0) old.layers i x y at.within (layer_read old.layers i at.within) refl refl w)

  put_here : (block : ℕ) (b c : Bool) (v u : Option (List ℕ)) → is_in page block ≡ c → (b ≡ true → u ≡ block_at x.image block)
      → cond b (block_at (layer_at new.layers i).image block) u ≡ cond (b && c) (place_at table (block % 512)) u
  put_here block true c v u e same = ⊎_elim
      (λ h. puts.image.blocks block h ∙ ap (λ t. cond t (place_at table (block % 512)) u) (sym (is_in-same page block h) ∙ e))
      (λ o. puts.image.others block o ∙ sym (same refl)
      ∙ ap (λ t. cond t (place_at table (block % 512)) u) (sym (is_in-other page block o) ∙ e))
      (cases_eq (block / 512) page)
  put_here block false c v u e same = refl

  layers_put : (other : List ℕ) (block : ℕ) → block_named (node_of new count).layers other block ≡ put_block
      (node_of old count).layers name page table other block
  layers_put other block =
      block_in_tree new count other block put_whole new_tree
      ∙ ap (λ (xs : List Layer). image_block xs other block) puts.rest
      ∙ image_set old.layers name i y other block w at at.named
      ∙ put_here block (bytes_eq other name) (is_in page block) None (image_block old.layers other block) refl
      (λ e. ap (λ m. image_block old.layers m block) ((bytes_eq-Decides other name).0 e) ∙ image_at old.layers name i block w at)
      ∙ ap (λ u. cond (bytes_eq other name && is_in page block) (place_at table (block % 512)) u)
      (sym (block_in_tree old count other block n w))

  pub put_page : PutsPage (node_of old count) (node_of new count) name page table
  put_page = record {
    layers = layers_put;
    head = λ block. own_head new count put_whole block ∙ ap (λ t. block_at t.head block) rest ∙ sym (own_head old count n block);
    metas = kept_metas new.layers new.layers count ∙ ap (λ (xs : List Layer). map (λ (l : Layer). l.meta) xs) puts.rest
        ∙ set_metas old.layers i y at.within refl ∙ sym (kept_metas old.layers old.layers count);
    size = length-joined (λ k. bytes_of (head_reads new k)) count put_whole.head
        ∙ sym (length-joined (λ k. bytes_of (head_reads old k)) count n.head);
    on = ap (λ t. t.on) rest;
    number = ap (λ t. t.number) rest;
    room = ap (λ t. made_in t.head count) rest;
    own = ap (λ t. own_in t.head count) rest;
  }

-- ---- own blocks make the readings

no_name : (xs : List Layer) (k : ℕ) → reads xs None k ≡ None
unfolding read_layers
no_name [] k = refl
no_name (x ∷ xs) k = no_name xs k

module _ (t : Tree) (count : ℕ) (n : IsNode t count) where
  reads_below : (xs : List Layer) (on : Option (List ℕ)) (block : ℕ) → block < count → IsThere on xs
      → bytes_of (reads t.layers on block) ≡ read_below (map (kept_in t.layers count) xs) on block
  reads_below xs None block inside there = ap bytes_of (no_name t.layers block)
  reads_below xs (Some name) block inside there =
      sym (joined-block (λ k. bytes_of (reads t.layers (Some name) k)) count block inside (n.layers (Some name)))
      ∙ ap (λ d. block_of d block) (sym (named_there xs t.layers count name there))

  over : (image : Tables) (f : ℕ → List ℕ) (on : Option (List ℕ)) (xs : List Layer) → ((k : ℕ) → length (f k) ≡ 4096)
      → ((k : ℕ) → f k ≡ bytes_of (option_or (block_at image k) (reads t.layers on k))) → IsThere on xs
      → IsOver (joined f count) (own_in image count) (map (kept_in t.layers count) xs) on count
  over image f on xs whole reads_as there = record {
    size = length-joined f count whole;
    blocks = length-own_in image count;
    below = λ block inside none.
        joined-block f count block inside whole ∙ reads_as block
        ∙ past (block_at image block) (reads t.layers on block) (sym (own_at image count block inside) ∙ none)
        ∙ reads_below xs on block inside there;
  }
    where
      past : (o r : Option (List ℕ)) → is_some o ≡ false → bytes_of (option_or o r) ≡ bytes_of r
      past None r e = refl
      past (Some b) r e = absurd (false≢true (sym e))

  chained_from : (before xs : List Layer) → t.layers ≡ before ++ xs → IsLayers t.layers → AreChained (map (kept_in t.layers count) xs) count
  chained_from before [] is tree = tt
  chained_from before (x ∷ xs) is tree =
      let cut : IsLayers (before ++ (x ∷ xs)) = subst (λ (ys : List Layer). IsLayers ys) is tree in
      let back : IsLayers (x ∷ xs) = tree_back name_of parent_of before (x ∷ xs) cut in (
        over x.image (λ k. bytes_of (reads t.layers (Some (name_of x)) k)) (parent_of x) xs (n.layers (Some (name_of x)))
            (λ k. ap bytes_of (ap (λ (ys : List Layer). reads ys (Some (name_of x)) k) is ∙ cut_reads before xs x k cut
            ∙ ap (λ (ys : List Layer). option_or (block_at x.image k) (reads ys (parent_of x) k)) (sym is)))
            back.1,
        chained_from (before ++ x ∷ []) xs (is ∙ sym (append_assoc before (x ∷ []) xs)) tree,
      )

  pub chained : IsWholeTree t → IsChained (node_of t count) count
  chained w = record {
    layers = chained_from [] t.layers refl w.layers;
    head = over t.head (λ k. bytes_of (head_reads t k)) t.on t.layers n.head (λ k. refl) w.head;
  }
