-- The layers of a replica by their places are those of its tree, and a tree whose images have a place for each page is
-- a replica.
use Rattle.std.proofs.Common.{◌≡◌, ℕ, ◌*◌, ◌/◌, ◌%◌, ◌<◌, ◌≤◌, ◌^◌, List, length, Option, Some, None, is_some}
use Rattle.std.proofs.Common.{refl, sym, ap, ◌∙◌, arith}
use Rattle.std.specs.Prelude.{All}
use Rattle.std.proofs.lemmas.List.{get_or-map, length-map}
use Rattle.sparse_image.specs.Disk.{bytes_of}
use Rattle.sparse_image.specs.Image.{Tables, block_at, has_page, place_at, table_at}
use Rattle.sparse_image.specs.Whole.{IsImage}
use Rattle.sparse_image.proofs.ImageLemmas.{unmade_none}
use Rattle.layer_chain.specs.Tree.{Tree, layer_at, reads, IsLayers, IsThere, IsWholeTree}
use Rattle.layer_chain.specs.declared.layer.Layer.{Layer}
use Rattle.replica_node.specs.Fold.{HasBlockIn, HasNoBlockIn, HasOwnOf, HasNoOwnOf}
use Rattle.replica_node.specs.Node.{Node, Kept, has_own, node_of, kept_in, IsInPages, IsNode, IsKept, IsOfSize}
use Rattle.replica_node.specs.Held.{own_block}
use Rattle.replica_node.specs.Places.{kept_at, own_at, IsPlace, block_of_place, image_of_place, IsBuiltOf}
use Rattle.replica_node.proofs.HasLemmas.{few_blocks, image_is, own_is}
use Rattle.replica_node.proofs.HeldLemmas.{own_head, own_layer, kept_metas, length-some, reads_whole, whole_or}
use Rattle.replica_node.proofs.NodeLemmas.{is_kept}
use Rattle.replica_node.proofs.ReadLemmas.{length-node}

-- ---- by places

kept_of_place : (t : Tree) (count : ℕ) (node : Node) (i : ℕ) → node_of t count ≡ node → i < length t.layers
    → kept_at node.layers i ≡ kept_in t.layers count (layer_at t.layers i)
kept_of_place t count node i view within =
    ap (λ n. kept_at n.layers i) (sym view) ∙ get_or-map (kept_in t.layers count) t.layers i _ _ within

count_is : (t : Tree) (count : ℕ) (node : Node) → node_of t count ≡ node → length node.layers ≡ length t.layers
count_is t count node view = ap (λ n. length n.layers) (sym view) ∙ length-map t.layers (kept_in t.layers count)

-- what a layer or the head itself has is what its image has
pub own_of_place : (t : Tree) (count : ℕ) (node : Node) (place : Option ℕ) (block : ℕ) → node_of t count ≡ node
    → IsNode t count → IsLayers t.layers → IsPlace node place → block_of_place node place block ≡ block_at (image_of_place t place) block
own_of_place t count node None block view n tree there =
    ap (λ m. own_block m.disk m.own block) (sym view) ∙ own_head t count n block
own_of_place t count node (Some i) block view n tree there =
    let within : i < length t.layers = omega (arith, there, count_is t count node view) in
    ap (λ (k : Kept). own_block k.disk k.own block) (kept_of_place t count node i view within) ∙ own_layer t count n tree i within block

-- of each block whether it itself has it is what its image has
held_of_place : (t : Tree) (count : ℕ) (node : Node) (place : Option ℕ) (block : ℕ) → node_of t count ≡ node → IsNode t count
    → IsPlace node place → has_own (own_at node place) block ≡ is_some (block_at (image_of_place t place) block)
held_of_place t count node None block view n there =
    ap (λ m. has_own m.own block) (sym view) ∙ own_is t.head count block n.pages
held_of_place t count node (Some i) block view n there =
    let within : i < length t.layers = omega (arith, there, count_is t count node view) in
    ap (λ (k : Kept). has_own k.own block) (kept_of_place t count node i view within)
    ∙ own_is (layer_at t.layers i).image count block (image_is t count i n within).pages

-- and so is whether it has one of a page
pub has_of_place : (t : Tree) (count : ℕ) (node : Node) (place : Option ℕ) (page : ℕ) → node_of t count ≡ node → IsNode t count
    → IsPlace node place → HasBlockIn (image_of_place t place) page → HasOwnOf (own_at node place) page
has_of_place t count node place page view n there (block, inside, has) =
    (block, inside, held_of_place t count node place block view n there ∙ has)

pub has_none_of_place : (t : Tree) (count : ℕ) (node : Node) (place : Option ℕ) (page : ℕ) → node_of t count ≡ node → IsNode t count
    → IsPlace node place → HasNoBlockIn (image_of_place t place) page → HasNoOwnOf (own_at node place) page
has_none_of_place t count node place page view n there none = λ block inside.
    held_of_place t count node place block view n there ∙ none block inside

-- whose blocks have numbers of 32 bits
pub few_of_place : (t : Tree) (count : ℕ) (node : Node) (place : Option ℕ) → node_of t count ≡ node → IsNode t count
    → IsPlace node place → length node.disk ≤ 1073741824 → length (image_of_place t place) * 512 < 2 ^ 32
few_of_place t count node None view n there most = omega (arith, n.pages, length-node t count node view n)
few_of_place t count node (Some i) view n there most =
    few_blocks t count node i view n (omega (arith, there, count_is t count node view)) most

pub on_is_kept : (t : Tree) (count : ℕ) (node : Node) (on : Option (List ℕ)) → node_of t count ≡ node → IsThere on t.layers
    → IsKept node on
on_is_kept t count node None view there = tt
on_is_kept t count node (Some name) view there = is_kept t count node name view there

-- ---- what is built of a tree

pages_made : (image : Tables) → IsImage image → IsInPages image
unfolding block_at has_page
pages_made image whole = λ block unmade.
    let page = block / 512 in
    ap (λ t. place_at t (block % 512)) (unmade_none (table_at image page) (whole.tables page) unmade)

block_whole : (image : Tables) (k : ℕ) → IsImage image → length (bytes_of (block_at image k)) ≡ 4096
unfolding block_at
block_whole image k whole =
    length-some (place_at (table_at image (k / 512)) (k % 512)) ((whole.tables (k / 512)).blocks (k % 512))

pub sized_node : (t : Tree) (count : ℕ) → IsOfSize t count → IsImage t.head → All (λ (l : Layer). IsImage l.image) t.layers
    → IsNode t count
sized_node t count sized head layers =
    let reading : (want : Option (List ℕ)) (k : ℕ) → length (bytes_of (reads t.layers want k)) ≡ 4096 =
    λ want k. reads_whole t.layers k (λ i h. block_whole (layer_at t.layers i).image k (layers i _ h)) want in
    record {
      pages = sized.head;
      made = pages_made t.head head;
      images = λ i d h. record { pages = sized.layers i d h; made = pages_made _ (layers i d h) };
      layers = reading;
      head = λ k. whole_or (block_at t.head k) (reads t.layers t.on k) (block_whole t.head k head) (reading t.on k);
    }

pub built : (t : Tree) (count size : ℕ) → IsNode t count → IsWholeTree t → count * 4096 ≡ size → IsBuiltOf t size (node_of t count)
built t count size n w bytes = record {
  metas = kept_metas t.layers t.layers count;
  own = λ place block there. own_of_place t count (node_of t count) place block refl n w.layers there;
  on = refl;
  number = refl;
  disk = length-node t count (node_of t count) refl n ∙ bytes;
}
