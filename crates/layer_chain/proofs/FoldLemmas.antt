-- What moving a page, putting a layer in its parent's place, and taking one out leave of a tree.
use Rattle.std.proofs.Common.{◌≡◌, ◌≢◌, ℕ, ◌-◌, ◌<◌, List, ◌++◌, length, length-set, get_or, set, Option, None, Some}
use Rattle.std.proofs.Common.{sym, refl, ap, ◌∙◌, subst, arith}
use Rattle.std.specs.List.{remove}
use Rattle.std.specs.Option.{option_or}
use Rattle.std.proofs.lemmas.List.{set-append_left, set-append_right, get_or_default}
use Rattle.std.proofs.lemmas.List.Edits.{get_or-remove_below, length-remove}
use Rattle.std.proofs.lemmas.Grind.{elements}
use Rattle.sparse_image.specs.Image.{Tables, block_at, EmptiesPage, LaysPageOver}
use Rattle.layer_chain.specs.Tree.{Tree, name_of, parent_of, layer_at, reads, IsLayers, IsThere, IsWholeTree, IsChild}
use Rattle.vol_units.specs.Chain.{chain_from}
use Rattle.layer_chain.specs.Changes.{with_layers, with_image, with_images, MovesPage, taken_out, in_place_of, replaced}
use Rattle.layer_chain.specs.Found.{ages_from, index_of_age}
use Rattle.layer_chain.specs.Children.{IsLeaf, IsOnlyChild}
use Rattle.layer_chain.specs.declared.layer.Layer.{Layer}
use Rattle.layer_chain.specs.declared.children.Child.TheVariants as child
use Rattle.layer_chain.proofs.ChainLaws.{Goes}
use Rattle.layer_chain.proofs.Cuts.{set_then_remove}
use Rattle.layer_chain.proofs.FoldLaws.{fold_at, replace_at, replace_chain, replace_tree, replace_on}
use Rattle.layer_chain.proofs.FoldLaws.{delete_at, delete_chain, delete_tree, delete_on, alike_tree, alike_on}
use Rattle.layer_chain.proofs.TreeLemmas.{layer_read, layer_got, child_newer}

-- ---- two layers with other blocks

pub other_layer : (xs : List Layer) (p c : ℕ) (x : Layer) → c < p → p < length xs → layer_at (set xs c x) p ≡ layer_at xs p
other_layer xs p c x h in_p = grind (arith, elements)

pub images_tree : (xs : List Layer) (p c : ℕ) (under over : Tables) → c < p → p < length xs → IsLayers xs
    → IsLayers (with_images xs p c under over)
images_tree xs p c under over h in_p tree =
    let in_c : c < length xs = omega (arith, h, in_p) in
    let d : Layer = with_image (layer_at xs c) over in
    let q : Layer = with_image (layer_at xs p) under in
    let in_set : p < length (set xs c d) = omega (arith, length-set {A = Layer}, in_p) in
    alike_tree name_of parent_of (λ l. block_at l.image 0) (set xs c d) p (layer_at (set xs c d) p) q in_set
    (layer_read (set xs c d) p in_set)
    (sym (ap name_of (other_layer xs p c d h in_p))) (sym (ap parent_of (other_layer xs p c d h in_p)))
    (alike_tree name_of parent_of (λ l. block_at l.image 0) xs c (layer_at xs c) d in_c (layer_read xs c in_c) refl refl tree)

pub images_on : (xs : List Layer) (p c : ℕ) (under over : Tables) → c < p → p < length xs → (on : Option (List ℕ))
    → IsThere on xs → IsThere on (with_images xs p c under over)
images_on xs p c under over h in_p on there =
    let in_c : c < length xs = omega (arith, h, in_p) in
    let d : Layer = with_image (layer_at xs c) over in
    let q : Layer = with_image (layer_at xs p) under in
    let in_set : p < length (set xs c d) = omega (arith, length-set {A = Layer}, in_p) in
    alike_on name_of parent_of (λ l. block_at l.image 0) (set xs c d) p (layer_at (set xs c d) p) q in_set
    (layer_read (set xs c d) p in_set)
    (sym (ap name_of (other_layer xs p c d h in_p))) (sym (ap parent_of (other_layer xs p c d h in_p))) on
    (alike_on name_of parent_of (λ l. block_at l.image 0) xs c (layer_at xs c) d in_c (layer_read xs c in_c) refl refl on there)

pub images_length : (xs : List Layer) (p c : ℕ) (under over : Tables) → length (with_images xs p c under over) ≡ length xs
images_length xs p c under over = omega (arith, length-set {A = Layer})

pub images_whole : (t : Tree) (p c : ℕ) (under over : Tables) → c < p → p < length t.layers → IsWholeTree t
    → IsWholeTree (with_layers t (with_images t.layers p c under over))
images_whole t p c under over h in_p w = record {
  layers = images_tree t.layers p c under over h in_p w.layers;
  head = images_on t.layers p c under over h in_p t.on w.head;
  few = omega (arith, images_length t.layers p c under over, w.few);
}

-- ---- the one layer that stands on that at p is at c

module _ (t : Tree) (p c : ℕ) (w : IsWholeTree t) (in_p : p < length t.layers) (only : IsOnlyChild t p c) where
  pub child_in : c < length t.layers
  child_in = only.0.0

  pub child_on : IsChild t.layers c p
  child_on = only.0.1

  pub child_above : c < p
  child_above = child_newer t.layers p c w.layers in_p child_in child_on

  pub head_elsewhere : t.on ≢ Some (name_of (layer_at t.layers p))
  head_elsewhere e = let is : child.Head ≡ child.Layer c = only.1 child.Head e in absurd (cc)

  others_elsewhere : (i : ℕ) → i < p → i ≢ c → parent_of (get_or t.layers i (layer_at t.layers c)) ≢ Some (name_of (layer_at t.layers p))
  others_elsewhere i h n e =
      let in_i : i < length t.layers = omega (arith, h, in_p) in
      let is : child.Layer i ≡ child.Layer c =
      only.1 (child.Layer i) (in_i, ap parent_of (layer_got t.layers i (layer_at t.layers c) in_i) ∙ e) in
      n (cc)

  -- blocks are moved from c onto p, or none: no layer but p reads otherwise
  pub images_reads : (under over : Tables) (block : ℕ)
      → option_or (block_at over block) (block_at under block) ≡ option_or (block_at (layer_at t.layers c).image block)
      (block_at (layer_at t.layers p).image block) → (want : Option (List ℕ)) → want ≢ Some (name_of (layer_at t.layers p))
      → reads (with_images t.layers p c under over) want block ≡ reads t.layers want block
  images_reads under over block moved =
      fold_at name_of parent_of (λ l. block_at l.image block) t.layers c p (layer_at t.layers c) (layer_at t.layers p)
      child_above in_p (layer_read t.layers c child_in) (layer_got t.layers p (layer_at t.layers c) in_p) w.layers
      child_on others_elsewhere
      (with_image (layer_at t.layers c) over) (with_image (layer_at t.layers p) under) refl refl refl refl moved

  abbrev d : Layer
  d = in_place_of (layer_at t.layers c) (layer_at t.layers p)

  swap : set (remove t.layers p) c d ≡ remove (set t.layers c d) p
  swap = set_then_remove t.layers c p d child_above in_p

  pub replaced_reads : (block : ℕ) → block_at (layer_at t.layers c).image block ≡ None → (want : Option (List ℕ))
      → want ≢ Some (name_of (layer_at t.layers p)) → reads (replaced t p c).layers want block ≡ reads t.layers want block
  replaced_reads block empty want n =
      ap (λ (ys : List Layer). reads ys want block) swap
      ∙ replace_at name_of parent_of (λ l. block_at l.image block) t.layers c p (layer_at t.layers c) (layer_at t.layers p)
      child_above in_p (layer_read t.layers c child_in) (layer_got t.layers p (layer_at t.layers c) in_p) w.layers
      child_on others_elsewhere
      d refl refl (sym (ap (λ (o : Option (List ℕ)). option_or o (block_at (layer_at t.layers p).image block)) empty)) want n

  -- c's parent goes from the chain of the head, if c is in it
  pub replaced_chain : Goes (chain_from name_of parent_of t.layers t.on) (chain_from name_of parent_of (replaced t p c).layers t.on)
      (index_of_age (ages_from t.layers t.on) (length t.layers - 1 - c)) (layer_at t.layers c) (layer_at t.layers p) d
  replaced_chain =
      subst (λ (ys : List Layer). Goes (chain_from name_of parent_of t.layers t.on) (chain_from name_of parent_of ys t.on)
      (index_of_age (ages_from t.layers t.on) (length t.layers - 1 - c)) (layer_at t.layers c) (layer_at t.layers p) d) (sym swap)
      (replace_chain name_of parent_of (λ l. block_at l.image 0) t.layers c p (layer_at t.layers c) (layer_at t.layers p)
      child_above in_p (layer_read t.layers c child_in) (layer_got t.layers p (layer_at t.layers c) in_p) w.layers
      child_on others_elsewhere d refl refl t.on head_elsewhere)

  pub replaced_whole : IsWholeTree (replaced t p c)
  replaced_whole =
      let layer_got_here = layer_got t.layers p (layer_at t.layers c) in_p in
      record {
        layers = subst (λ (ys : List Layer). IsLayers ys) (sym swap)
            (replace_tree name_of parent_of (λ l. block_at l.image 0) t.layers c p (layer_at t.layers c) (layer_at t.layers p)
            child_above in_p (layer_read t.layers c child_in) layer_got_here w.layers child_on others_elsewhere d refl refl);
        head = subst (λ (ys : List Layer). IsThere t.on ys) (sym swap)
            (replace_on name_of parent_of (λ l. block_at l.image 0) t.layers c p (layer_at t.layers c) (layer_at t.layers p)
            child_above in_p (layer_read t.layers c child_in) layer_got_here w.layers child_on others_elsewhere d refl t.on
            head_elsewhere w.head);
        few = omega (arith, length-set {A = Layer}, length-remove {X = Layer}, in_p, w.few);
      }

-- ---- nothing stands on the layer at p

module _ (t : Tree) (p : ℕ) (in_p : p < length t.layers) (leaf : IsLeaf t p) where
  leaf_elsewhere : (i : ℕ) → i < p → parent_of (get_or t.layers i (layer_at t.layers p)) ≢ Some (name_of (layer_at t.layers p))
  leaf_elsewhere i h e =
      let in_i : i < length t.layers = omega (arith, h, in_p) in
      leaf (child.Layer i) (in_i, ap parent_of (layer_got t.layers i (layer_at t.layers p) in_i) ∙ e)

  pub leaf_head : t.on ≢ Some (name_of (layer_at t.layers p))
  leaf_head e = leaf child.Head e

  pub without_reads : (block : ℕ) (want : Option (List ℕ)) → want ≢ Some (name_of (layer_at t.layers p))
      → reads (taken_out t p).layers want block ≡ reads t.layers want block
  without_reads block = delete_at name_of parent_of (λ l. block_at l.image block) t.layers p (layer_at t.layers p) in_p
      (layer_read t.layers p in_p) leaf_elsewhere

  pub without_chain : chain_from name_of parent_of (taken_out t p).layers t.on ≡ chain_from name_of parent_of t.layers t.on
  without_chain = delete_chain name_of parent_of (λ l. block_at l.image 0) t.layers p (layer_at t.layers p) in_p
      (layer_read t.layers p in_p) leaf_elsewhere t.on leaf_head

  pub without_whole : IsWholeTree t → IsWholeTree (taken_out t p)
  without_whole w = record {
    layers = delete_tree name_of parent_of (λ l. block_at l.image 0) t.layers p (layer_at t.layers p) in_p
        (layer_read t.layers p in_p) leaf_elsewhere w.layers;
    head = delete_on name_of parent_of (λ l. block_at l.image 0) t.layers p (layer_at t.layers p) in_p
        (layer_read t.layers p in_p) leaf_elsewhere t.on leaf_head w.head;
    few = omega (arith, length-remove {X = Layer}, in_p, w.few);
  }

-- ---- what the code writes

record WritesTwo (xs new : List Layer) (p c : ℕ) (x y : Layer) (under over : Tables) : Type 0 where
  pub at_c : layer_at xs c ≡ x
  pub at_p : layer_at xs p ≡ y
  pub new_c : layer_at new c ≡ with_image x over
  pub new_p : layer_at new p ≡ with_image y under
  pub is : new ≡ set (set xs c (with_image x over)) p (with_image y under)

-- a write in the newer part of a list, and one at the front of the older part
writes_two : (xs f o : List Layer) (p c : ℕ) (x y : Layer) (under over : Tables) → xs ≡ f ++ o → length f ≡ p → c < p
    → 0 < length o → WritesTwo xs (set f c (with_image (get_or f c x) over) ++ set o 0 (with_image (get_or o 0 y) under)) p
    c (get_or f c x) (get_or o 0 y) under over
writes_two xs f o p c x y under over e fl cp ol =
    record {
      at_c = rw e (grind (arith, elements));
      at_p = rw e (grind (arith, elements));
      new_c = grind (arith, elements);
      new_p = grind (arith, elements);
      is =
          let with_image_here = with_image (get_or o 0 y) under in
          let with_image_over = with_image (get_or f c x) over in
          sym (rw e (
          ap (λ (ys : List Layer). set ys p with_image_here) (set-append_left f o c with_image_over (omega arith))
          ∙ set-append_right (set f c with_image_over) o p p with_image_here (omega (arith, length-set {A = Layer})) (omega arith)
          ∙ (let z : p - p ≡ 0 = omega arith in ap (λ (n : ℕ). set f c with_image_over ++ set o n with_image_here) z)));
    }

only_two : (xs new : List Layer) (p c : ℕ) (x y : Layer) (under over : Tables) → WritesTwo xs new p c x y under over
    → new ≡ with_images xs p c (layer_at new p).image (layer_at new c).image
only_two xs new p c x y under over w =
    w.is
    ∙ ap (λ (a : Layer). set (set xs c a) p (with_image y under))
    (ap (λ (a : Layer). with_image a over) (sym w.at_c)
    ∙ ap (λ (a : Layer). with_image (layer_at xs c) a.image) (sym w.new_c))
    ∙ ap (λ (a : Layer). set (set xs c (with_image (layer_at xs c) (layer_at new c).image)) p a)
    (ap (λ (a : Layer). with_image a under) (sym w.at_p)
    ∙ ap (λ (a : Layer). with_image (layer_at xs p) a.image) (sym w.new_p))

pub moves_page : (xs f o : List Layer) (p c page : ℕ) (x y : Layer) (under over : Tables) → xs ≡ f ++ o → length f ≡ p
    → c < p → 0 < length o → EmptiesPage (get_or f c x).image over page
    → LaysPageOver (get_or f c x).image (get_or o 0 y).image under page
    → MovesPage xs (set f c (with_image (get_or f c x) over) ++ set o 0 (with_image (get_or o 0 y) under)) p c page
moves_page xs f o p c page x y under over e fl cp ol empties lays =
    let new : List Layer = set f c (with_image (get_or f c x) over) ++ set o 0 (with_image (get_or o 0 y) under) in
    let w : WritesTwo xs new p c (get_or f c x) (get_or o 0 y) under over = writes_two xs f o p c x y under over e fl cp ol in
    record {
      child =
          subst (λ (i : Tables). EmptiesPage (layer_at xs c).image i page) (sym (ap (λ (l : Layer). l.image) w.new_c))
          (subst (λ (l : Layer). EmptiesPage l.image over page) (sym w.at_c) empties);
      parent =
          subst (λ (i : Tables). LaysPageOver (layer_at xs c).image (layer_at xs p).image i page)
          (sym (ap (λ (l : Layer). l.image) w.new_p))
          (subst (λ (l : Layer). LaysPageOver l.image (layer_at xs p).image under page) (sym w.at_c)
          (subst (λ (l : Layer). LaysPageOver (get_or f c x).image l.image under page) (sym w.at_p) lays));
      rest = only_two xs new p c (get_or f c x) (get_or o 0 y) under over w;
    }

pub replaced_is : (xs new : List Layer) (p c : ℕ) (x q : Layer) → c < p → p < length xs → new ≡ remove xs p
    → x ≡ get_or new c x → q ≡ get_or xs p q
    → set new c (in_place_of x q) ≡ set (remove xs p) c (in_place_of (layer_at xs c) (layer_at xs p))
replaced_is xs new p c x q before h e x_is q_is =
    let in_c : c < length xs = omega (arith, before, h) in
    let at_c : x ≡ layer_at xs c = x_is ∙ ap (λ (ys : List Layer). get_or ys c x) e ∙ get_or-remove_below xs p x c before h
    ∙ get_or_default xs c x _ in_c in
    let at_p : q ≡ layer_at xs p = q_is ∙ get_or_default xs p q _ h in
    ap (λ (ys : List Layer). set ys c (in_place_of x q)) e
    ∙ ap (λ (y : Layer). set (remove xs p) c (in_place_of y q)) at_c
    ∙ ap (λ (y : Layer). set (remove xs p) c (in_place_of (layer_at xs c) y)) at_p
