-- What a layer that goes leaves of the replica that a tree is: its child takes its place, or it had none.
use Rattle.std.proofs.Common.{◌≡◌, ◌≢◌, ⊎_elim, ℕ, zero, suc, ◌*◌, ◌<◌, false, cond, List, [], ◌∷◌, ◌++◌, length, map}
use Rattle.std.proofs.Common.{get_or, Option, None, Some, is_some, refl, sym, ap, subst, ◌∙◌, arith}
use Rattle.std.specs.Prelude.{All}
use Rattle.std.specs.List.{remove}
use Rattle.std.specs.Str.{bytes_eq}
use Rattle.std.proofs.lemmas.Bool.{cases_lt, false≢true}
use Rattle.std.proofs.lemmas.List.{append_assoc, get_or_default}
use Rattle.std.proofs.lemmas.List.Elements.{All-set, All-cons, All-head, All-tail}
use Rattle.sparse_image.specs.Image.{block_at}
use Rattle.sparse_image.specs.Disk.{bytes_of}
use Rattle.sparse_image.proofs.ImageLemmas.{ChangesBlock-past}
use Rattle.layer_chain.specs.Changes as change
use Rattle.layer_chain.specs.Changes.{with_layers, in_place_of}
use Rattle.layer_chain.specs.Tree.{Tree, name_of, parent_of, layer_at, IsAt, IsLayers, IsNew, IsWholeTree, IsParent}
use Rattle.layer_chain.specs.declared.layer.Layer.{Layer}
use Rattle.layer_chain.proofs.TreeLemmas.{one_place, there_at}
use Rattle.layer_chain.proofs.TreeShape.{no_append, apart}
use Rattle.volume_model.specs.Purge.{CanFold, parent_in}
use Rattle.coalesce.specs.Folding.{snapshot_of, AreAt, KeepsOthers, HasNoBlock, Replaces, Drops}
use Rattle.coalesce.proofs.PlaceLemmas.{fold_parent}
use Rattle.coalesce.proofs.ChildLemmas.{same_name, other_name}
use Rattle.replica_node.specs.Node.{Kept, Node, node_of, kept_in, has_own, own_in, IsNode}
use Rattle.replica_node.specs.Fold.{tree_of, own_named, layers_without, put_down, replaced_node, dropped_node}
use Rattle.replica_node.proofs.CutLemmas.{Cut, cut, Pair, pair, absent_reads, map_one}
use Rattle.replica_node.proofs.FoldLemmas.{other_layers, other_whole, other_disks}
use Rattle.replica_node.proofs.NodeLemmas.{HasPages, kept_elsewhere, length-none, same_kept}
use Rattle.replica_node.proofs.OwnLemmas.{own_at, own_of}
use Rattle.replica_node.proofs.TreeOf.{can_fold}

all_remove : {X : Type 0} (P : X → Type 0) (xs : List X) (i : ℕ) → All P xs → All P (remove xs i)
all_remove P [] zero all = all
all_remove P [] (suc i) all = all
all_remove P (x ∷ xs) zero all = All-tail P x xs all
all_remove P (x ∷ xs) (suc i) all = All-cons P x (remove xs i) (All-head P x xs all) (all_remove P xs i (All-tail P x xs all))

-- the layer of the name stands on the parent of its snapshot
parent_at : (xs layers : List Layer) (count : ℕ) (name : List ℕ) (i : ℕ) → IsLayers xs → IsAt xs name i
    → parent_in name (map (λ (k : Kept). snapshot_of k.meta) (map (kept_in layers count) xs)) ≡ (layer_at xs i).meta.parent
parent_at [] layers count name i tree at = absurd (omega (arith, at.within))
parent_at (x ∷ xs) layers count name zero tree at =
    ap (λ b. cond b x.meta.parent (parent_in name (map (λ (k : Kept). snapshot_of k.meta) (map (kept_in layers count) xs))))
    (ap (bytes_eq name) at.named ∙ same_name name)
parent_at (x ∷ xs) layers count name (suc i) tree at =
    let in_i : i < length xs = omega (arith, at.within) in
    ap (λ b. cond b x.meta.parent (parent_in name (map (λ (k : Kept). snapshot_of k.meta) (map (kept_in layers count) xs))))
    (other_name name (name_of x) (λ e. apart name_of parent_of (name_of x) name xs tree.0 (there_at xs i name _ in_i at.named) (sym e)))
    ∙ parent_at xs layers count name i tree.2 (record { within = in_i; named = at.named })

-- the first layer of the name is out
without_past : (xs ys layers : List Layer) (count : ℕ) (x : Layer) (p : List ℕ) → IsNew p xs → name_of x ≡ p
    → layers_without p (map (kept_in layers count) (xs ++ (x ∷ ys))) ≡ map (kept_in layers count) (xs ++ ys)
without_past [] ys layers count x p new is =
    ap (λ b. cond b (map (kept_in layers count) ys) (kept_in layers count x ∷ layers_without p (map (kept_in layers count) ys)))
    (ap (bytes_eq p) is ∙ same_name p)
without_past (l ∷ ls) ys layers count x p new is =
    let map_here = map (kept_in layers count) (ls ++ (x ∷ ys)) in
    ap (λ b. cond b map_here (kept_in layers count l ∷ layers_without p map_here))
    (other_name p (name_of l) new.0)
    ∙ ap (λ (ks : List Kept). kept_in layers count l ∷ ks) (without_past ls ys layers count x p new.1 is)

-- ---- the child takes the place of its parent

-- a layer that is told to have no block has none
none_there : (o : Option (List ℕ)) → is_some o ≡ false → o ≡ None
none_there None e = refl
none_there (Some b) e = absurd (false≢true (sym e))

pub has_no_block : (t : Tree) (count : ℕ) (node : Node) (c : List ℕ) → node_of t count ≡ node → IsNode t count → IsWholeTree t
    → ((block : ℕ) → has_own (own_named node.layers c) block ≡ false) → HasNoBlock t.layers c
has_no_block t count node c view n w empty = λ i l within named block.
    let is : get_or t.layers i l ≡ layer_at t.layers i = get_or_default t.layers i l _ within in
    let at : IsAt t.layers c i = record { within = within; named = ap name_of (sym is) ∙ named } in
    let own : own_in (layer_at t.layers i).image count ≡ own_named node.layers c =
    sym (own_of t.layers t.layers count c i w.layers at) ∙ ap (λ x. own_named x.layers c) view in
    let pages : length (layer_at t.layers i).image * 512 ≡ count = (n.images i _ within).pages in
    ap (λ (y : Layer). block_at y.image block) is ∙ ⊎_elim
    (λ inside. none_there (block_at (layer_at t.layers i).image block)
    (sym (own_at (layer_at t.layers i).image count block inside) ∙ ap (λ o. has_own o block) own ∙ empty block))
    (λ past. (ChangesBlock-past (layer_at t.layers i).image block (λ b. b) (omega (arith, past, pages))).0)
    (cases_lt block count)

module _ (old new : Tree) (p c : List ℕ) (i j : ℕ) (w : IsWholeTree old) (at : AreAt old.layers p c i j)
    (stands : IsParent old.layers i j) (is_new : new ≡ change.replaced old i j) (rest : new ≡ with_layers old new.layers)
    (keeps : KeepsOthers old new p) (count : ℕ) (n : IsNode old count) where
  abbrev x : Layer
  x = layer_at old.layers i

  abbrev y : Layer
  y = layer_at old.layers j

  abbrev moved : Layer
  moved = in_place_of y x

  abbrev was : Layer → Kept
  was = kept_in old.layers count

  abbrev is : Layer → Kept
  is = kept_in new.layers count

  abbrev kept : List Kept
  kept = map was old.layers

  abbrev step : Kept → Kept
  step = put_down c x.meta.parent (own_in x.image count)

  two : Pair old.layers p c i j
  two = pair old.layers p c i j w.layers at.parent at.child stands.older

  layers_are : new.layers ≡ two.before ++ (moved ∷ (two.between ++ two.after))
  layers_are = ap (λ t. t.layers) is_new ∙ two.set_without moved

  names_apart : name_of y ≢ p
  names_apart e =
      let same : j ≡ i = one_place old.layers p j i w.layers (record { within = at.child.within; named = e }) at.parent in
      absurd (omega (arith, same, stands.older))

  p_gone : IsNew p new.layers
  p_gone =
      subst (λ (ls : List Layer). IsNew p ls) (sym layers_are)
      (no_append name_of parent_of p two.before (moved ∷ (two.between ++ two.after)) two.p_before
      (names_apart, no_append name_of parent_of p two.between two.after two.p_between two.p_after))

  pub replaced_whole : IsNode new count
  replaced_whole =
      other_whole old new count p rest keeps n
      (subst (λ (t : Tree). All (HasPages count) t.layers) (sym is_new)
      (All-set (HasPages count) (remove old.layers i) j moved (n.images i _ at.parent.within)
      (all_remove (HasPages count) old.layers i n.images)))
      (λ k. ap (λ o. length (bytes_of o)) (absent_reads new.layers p k p_gone) ∙ length-none)

  untouched : (xs : List Layer) → IsNew c xs → map step (map was xs) ≡ map was xs
  untouched [] no_c = refl
  untouched (l ∷ ls) no_c =
      both (ap (λ b. cond b (put_down_here (was l)) (was l)) (other_name c (name_of l) no_c.0)) (untouched ls no_c.1)
    where
      put_down_here : Kept → Kept
      put_down_here k = record k { meta = record k.meta { parent = x.meta.parent }; own = own_in x.image count }

      both : {a b : Kept} {l m : List Kept} → a ≡ b → l ≡ m → a ∷ l ≡ b ∷ m
      both q r = cc

  elsewhere : (xs : List Layer) → IsNew p xs → IsNew c xs → map is xs ≡ map step (map was xs)
  elsewhere xs no_p no_c =
      kept_elsewhere xs old.layers new.layers count p no_p (λ name other. other_disks old new count p name keeps other)
      ∙ sym (untouched xs no_c)

  the_child : is moved ≡ step (was y)
  the_child =
      same_kept moved.meta _ _ (own_in x.image count) _ (other_disks old new count p (name_of y) keeps names_apart) refl
      ∙ ap (λ b. cond b (record (was y) { meta = moved.meta; own = own_in x.image count }) (was y))
      (sym (ap (bytes_eq c) at.child.named ∙ same_name c))

  p_out : layers_without p kept ≡ map was (two.before ++ (y ∷ (two.between ++ two.after)))
  p_out =
      ap (λ (ls : List Layer). layers_without p (map was ls)) (two.is ∙ sym (append_assoc two.before (y ∷ two.between) (x ∷ two.after)))
      ∙ without_past (two.before ++ (y ∷ two.between)) two.after old.layers count x p
      (no_append name_of parent_of p two.before (y ∷ two.between) two.p_before (names_apart, two.p_between)) at.parent.named
      ∙ ap (map was) (append_assoc two.before (y ∷ two.between) two.after)

  replaced_layers : map is new.layers ≡ map (put_down c (parent_in p (tree_of (node_of old count))) (own_named kept p))
      (layers_without p kept)
  replaced_layers =
      let behind = two.between ++ two.after in
      ap (map is) layers_are
      ∙ map_one is two.before behind moved
      ∙ pieces (elsewhere two.before two.p_before two.c_before) the_child
      (elsewhere behind (no_append name_of parent_of p two.between two.after two.p_between two.p_after)
      (no_append name_of parent_of c two.between two.after two.c_between two.c_after))
      ∙ sym (map_one step (map was two.before) (map was behind) (was y))
      ∙ ap (map step) (sym (map_one was two.before behind y) ∙ sym p_out)
      ∙ ap (λ q. map (put_down c q (own_in x.image count)) (layers_without p kept))
      (sym (parent_at old.layers old.layers count p i w.layers at.parent))
      ∙ ap (λ o. map (put_down c (parent_in p (tree_of (node_of old count))) o) (layers_without p kept))
      (sym (own_of old.layers old.layers count p i w.layers at.parent))
    where
      pieces : {a b d e : List Kept} {l m : Kept} → a ≡ b → l ≡ m → d ≡ e → a ++ (l ∷ d) ≡ b ++ (m ∷ e)
      pieces q r s = cc

  pub node_of_replaced : node_of new count ≡ replaced_node (node_of old count) p c
  node_of_replaced = other_layers old new count _ rest keeps.head replaced_layers

-- the parent is replaced in the tree, and so it is in the replica
pub replace_is : (old new : Tree) (count : ℕ) (node : Node) (p c : List ℕ) → node_of old count ≡ node → IsNode old count → IsWholeTree old
    → CanFold (tree_of node) node.on p c → Replaces old new p c → new ≡ with_layers old new.layers → KeepsOthers old new p
    → (IsNode new count) × (node_of new count ≡ replaced_node node p c)
replace_is old new count node p c view n w can replaces rest keeps =
    let stands = fold_parent old p c replaces.parent replaces.child w replaces.at (can_fold old count node p c view can) in (
      replaced_whole old new p c replaces.parent replaces.child w replaces.at stands replaces.is rest keeps count n,
      node_of_replaced old new p c replaces.parent replaces.child w replaces.at stands replaces.is rest keeps count n
          ∙ ap (λ a. replaced_node a p c) view,
    )

-- ---- a layer is dropped

module _ (old new : Tree) (p : List ℕ) (i : ℕ) (w : IsWholeTree old) (at : IsAt old.layers p i)
    (is_new : new ≡ change.taken_out old i) (rest : new ≡ with_layers old new.layers) (keeps : KeepsOthers old new p)
    (count : ℕ) (n : IsNode old count) where
  one : Cut old.layers p i
  one = cut old.layers p i w.layers at

  left_are : new.layers ≡ one.before ++ one.after
  left_are = ap (λ t. t.layers) is_new ∙ one.without

  no_p : IsNew p (one.before ++ one.after)
  no_p = no_append name_of parent_of p one.before one.after one.none_before one.none_after

  pub dropped_whole : IsNode new count
  dropped_whole =
      other_whole old new count p rest keeps n
      (subst (λ (t : Tree). All (HasPages count) t.layers) (sym is_new) (all_remove (HasPages count) old.layers i n.images))
      (λ k. ap (λ o. length (bytes_of o)) (absent_reads new.layers p k (subst (λ (ls : List Layer). IsNew p ls) (sym left_are) no_p))
      ∙ length-none)

  dropped_layers : map (kept_in new.layers count) new.layers ≡ layers_without p (map (kept_in old.layers count) old.layers)
  dropped_layers =
      ap (map (kept_in new.layers count)) left_are
      ∙ kept_elsewhere (one.before ++ one.after) old.layers new.layers count p no_p
      (λ name other. other_disks old new count p name keeps other)
      ∙ sym (without_past one.before one.after old.layers count (layer_at old.layers i) p one.none_before at.named)
      ∙ sym (ap (λ (ls : List Layer). layers_without p (map (kept_in old.layers count) ls)) one.is)

  pub dropped_is : node_of new count ≡ dropped_node (node_of old count) p
  dropped_is = other_layers old new count _ rest keeps.head dropped_layers

-- a layer is dropped from the tree, and so it is from the replica
pub drop_is : (old new : Tree) (count : ℕ) (node : Node) (p : List ℕ) → node_of old count ≡ node → IsNode old count → IsWholeTree old
    → Drops old new p → new ≡ with_layers old new.layers → KeepsOthers old new p → (IsNode new count)
    × (node_of new count ≡ dropped_node node p)
drop_is old new count node p view n w drops rest keeps = (
  dropped_whole old new p drops.place w drops.at drops.is rest keeps count n,
  dropped_is old new p drops.place w drops.at drops.is rest keeps count n ∙ ap (λ a. dropped_node a p) view,
)
