-- What each change leaves of the readings and of the tree.
use Rattle.std.proofs.Common.{◌≡◌, ◌≢◌, ℕ, ◌<◌, Bool, List, length, get_or, set, Option, None, Some, sym, refl, ap}
use Rattle.std.proofs.Common.{◌∙◌, arith, length-set, get_or-set_same, subst}
use Rattle.std.specs.Option.{option_or}
use Rattle.sparse_image.specs.Image.{Table, Tables, block_at, PutsTable}
use Rattle.layer_chain.proofs.FoldLaws.{alike_at, alike_tree, alike_on}
use Rattle.layer_chain.proofs.ReadLaws.{read-same, read-other}
use Rattle.layer_chain.specs.Tree.{Tree, name_of, parent_of, IsWholeTree, layer_at, reads, head_reads}
use Rattle.layer_chain.specs.Changes.{marked_layer, marked_at, pushed, snapped_tree, reverted_tree, KeepsReadings}
use Rattle.layer_chain.specs.Changes.{with_image, with_layers, PutsPage}
use Rattle.layer_chain.specs.declared.layer.Layer.{Layer}
use Rattle.layer_chain.proofs.TreeLemmas.{layer_is, layer_read}

pub mark_readings : (t : Tree) (i : ℕ) → i < length t.layers → (want : Option (List ℕ)) (k : ℕ)
    → reads (marked_at t i).layers want k ≡ reads t.layers want k
mark_readings t i h want k = alike_at name_of parent_of (λ l. block_at l.image k) t.layers i (layer_at t.layers i)
    (marked_layer (layer_at t.layers i)) h (layer_read t.layers i h) refl refl refl want

pub mark_whole : (t : Tree) (i : ℕ) → i < length t.layers → IsWholeTree t → IsWholeTree (marked_at t i)
mark_whole t i h w = record {
  layers = alike_tree name_of parent_of (λ l. block_at l.image 0) t.layers i (layer_at t.layers i)
      (marked_layer (layer_at t.layers i)) h (layer_read t.layers i h) refl refl w.layers;
  head = alike_on name_of parent_of (λ l. block_at l.image 0) t.layers i (layer_at t.layers i)
      (marked_layer (layer_at t.layers i)) h (layer_read t.layers i h) refl refl t.on w.head;
  few = omega (arith, length-set {A = Layer}, w.few);
}

pub marked_is : (xs : List Layer) (i : ℕ) (x : Layer) → i < length xs → x ≡ get_or xs i x
    → set xs i (marked_layer x) ≡ set xs i (marked_layer (layer_at xs i))
marked_is xs i x h is = ap (λ (y : Layer). set xs i (marked_layer y)) (sym (layer_is xs i x h is))

pub mark_keeps : (t : Tree) (i : ℕ) → i < length t.layers → KeepsReadings t (marked_at t i)
mark_keeps t i h = record {
  layers = mark_readings t i h;
  head = λ k. ap (option_or (block_at t.head k)) (mark_readings t i h t.on k);
}

-- what a layer on top of the others reads as, and what the others and the head read as below it
pub pushed_reads : (t : Tree) (x : Layer) (k : ℕ)
    → reads (pushed t x).layers (Some (name_of x)) k ≡ option_or (block_at x.image k) (reads t.layers (parent_of x) k)
pushed_reads t x k = read-same name_of parent_of (λ l. block_at l.image k) (Some (name_of x)) x t.layers refl

pub pushed_others : (t : Tree) (x : Layer) (want : Option (List ℕ)) (k : ℕ) → want ≢ Some (name_of x)
    → reads (pushed t x).layers want k ≡ reads t.layers want k
pushed_others t x want k n = read-other name_of parent_of (λ l. block_at l.image k) want x t.layers n

pub pushed_head : (t : Tree) (x : Layer) (k : ℕ) → t.on ≢ Some (name_of x) → head_reads (pushed t x) k ≡ head_reads t k
pushed_head t x k n = ap (option_or (block_at t.head k)) (pushed_others t x t.on k n)

pub snapped_reads : (t : Tree) (name : List ℕ) (user_created : Bool) (spare : Tables) (k : ℕ)
    → reads (snapped_tree t name user_created spare).layers (Some name) k ≡ head_reads t k
snapped_reads t name user_created spare k = read-same name_of parent_of (λ l. block_at l.image k) (Some name) _ t.layers refl

pub snapped_others : (t : Tree) (name : List ℕ) (user_created : Bool) (spare : Tables) (want : Option (List ℕ)) (k : ℕ)
    → want ≢ Some name → reads (snapped_tree t name user_created spare).layers want k ≡ reads t.layers want k
snapped_others t name user_created spare want k n = read-other name_of parent_of (λ l. block_at l.image k) want _ t.layers n

pub snapped_head : (t : Tree) (name : List ℕ) (user_created : Bool) (spare : Tables) (k : ℕ) → block_at spare k ≡ None
    → head_reads (snapped_tree t name user_created spare) k ≡ head_reads t k
snapped_head t name user_created spare k empty =
    ap (λ b. option_or b (reads (snapped_tree t name user_created spare).layers (Some name) k)) empty
    ∙ snapped_reads t name user_created spare k

pub reverted_head : (t : Tree) (name : List ℕ) (spare : Tables) (k : ℕ) → block_at spare k ≡ None
    → head_reads (reverted_tree t name spare) k ≡ reads t.layers (Some name) k
reverted_head t name spare k empty = ap (λ b. option_or b (reads t.layers (Some name) k)) empty

-- ---- other blocks in one layer

pub image_whole : (t : Tree) (i : ℕ) (image : Tables) → i < length t.layers → IsWholeTree t
    → IsWholeTree (with_layers t (set t.layers i (with_image (layer_at t.layers i) image)))
image_whole t i image h w = record {
  layers = alike_tree name_of parent_of (λ l. block_at l.image 0) t.layers i (layer_at t.layers i)
      (with_image (layer_at t.layers i) image) h (layer_read t.layers i h) refl refl w.layers;
  head = alike_on name_of parent_of (λ l. block_at l.image 0) t.layers i (layer_at t.layers i)
      (with_image (layer_at t.layers i) image) h (layer_read t.layers i h) refl refl t.on w.head;
  few = omega (arith, length-set {A = Layer}, w.few);
}

pub image_is : (xs : List Layer) (i : ℕ) (x : Layer) (image : Tables) → i < length xs → x ≡ get_or xs i x
    → set xs i (with_image x image) ≡ set xs i (with_image (layer_at xs i) image)
image_is xs i x image h is = ap (λ (y : Layer). set xs i (with_image y image)) (sym (layer_is xs i x h is))

pub puts_page : (xs : List Layer) (i : ℕ) (x : Layer) (image : Tables) (page : ℕ) (table : Table) → i < length xs
    → x ≡ get_or xs i x → PutsTable x.image image page table → PutsPage xs (set xs i (with_image x image)) i page table
puts_page xs i x image page table h is puts =
    let here : layer_at (set xs i (with_image x image)) i ≡ with_image x image = get_or-set_same xs i (with_image x image) _ h in
    record {
      image = subst (λ (y : Layer). PutsTable y.image (layer_at (set xs i (with_image x image)) i).image page table)
          (sym (layer_is xs i x h is))
          (subst (λ (y : Layer). PutsTable x.image y.image page table) (sym here) puts);
      rest = image_is xs i x image h is ∙ ap (λ (y : Layer). set xs i (with_image (layer_at xs i) y.image)) (sym here);
    }
