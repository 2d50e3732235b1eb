-- What folding a page of a child onto its parent makes of the replica that a tree is.
use Rattle.std.proofs.Common.{◌≡◌, ◌≢◌, ⊎_elim, ℕ, ◌+◌, ◌*◌, ◌/◌, ◌<◌, ◌≤◌, Bool, true, false, cond, List, [], ◌∷◌}
use Rattle.std.proofs.Common.{◌++◌, length, map, set, Option, None, Some, refl, sym, ap, subst, ◌∙◌, arith}
use Rattle.std.specs.Prelude.{All}
use Rattle.std.specs.Option.{option_or}
use Rattle.std.specs.Str.{bytes_eq}
use Rattle.std.proofs.lemmas.Bool.{cases_eq}
use Rattle.std.proofs.lemmas.Grind.{elements}
use Rattle.std.proofs.lemmas.List.Elements.{All-set}
use Rattle.sparse_image.specs.Image.{Tables, block_at}
use Rattle.sparse_image.specs.Disk.{bytes_of}
use Rattle.sparse_image.proofs.DiskLemmas.{joined-same}
use Rattle.layer_chain.specs.Changes.{with_layers, with_image, with_images, MovesPage}
use Rattle.layer_chain.specs.Tree.{Tree, name_of, parent_of, layer_at, reads, head_reads, IsAt, IsLayers, IsNew, IsWholeTree, IsParent}
use Rattle.layer_chain.specs.declared.layer.Layer.{Layer}
use Rattle.layer_chain.proofs.FoldLemmas.{images_tree}
use Rattle.layer_chain.proofs.ReadLaws.{cases_named}
use Rattle.layer_chain.proofs.TreeLemmas.{one_place, child_newer, there_at}
use Rattle.volume_model.specs.Purge.{CanFold}
use Rattle.coalesce.specs.Folding.{AreAt, KeepsOthers, FoldsPage}
use Rattle.coalesce.proofs.PlaceLemmas.{fold_parent}
use Rattle.coalesce.proofs.ChildLemmas.{same_name, other_name}
use Rattle.replica_node.specs.Node.{Kept, Node, node_of, kept_in, disk_in, disk_named, own_in, made_in, IsInPages, IsNode}
use Rattle.replica_node.specs.Fold.{own_named, with_page_of, with_page, without_page, own_with_page, page_folded_in, page_folded, tree_of}
use Rattle.replica_node.proofs.CutLemmas.{pair, place_reads, map_two}
use Rattle.replica_node.proofs.MadeLemmas.{made_over, made_emptied}
use Rattle.replica_node.proofs.NodeLemmas.{HasPages, kept_elsewhere, named_there, same_kept, same_parts, some_name}
use Rattle.replica_node.proofs.OwnLemmas.{own_laid_over, own_emptied, own_of}
use Rattle.replica_node.proofs.PageLemmas.{joined-page}
use Rattle.replica_node.proofs.ReadLemmas.{length-node}
use Rattle.replica_node.proofs.TreeOf.{can_fold}

-- ---- other layers, and the same head

-- a tree with other layers, whose head reads as it did, is the replica with other layers
pub other_layers : (old new : Tree) (count : ℕ) (layers : List Kept) → new ≡ with_layers old new.layers
    → ((block : ℕ) → head_reads new block ≡ head_reads old block) → map (kept_in new.layers count) new.layers ≡ layers
    → node_of new count ≡ record (node_of old count) { layers = layers }
other_layers old new count layers rest head kept =
    same_parts kept (ap (λ t. t.on) rest) (ap (λ t. t.number) rest)
    (joined-same (λ k. bytes_of (head_reads old k)) (λ k. bytes_of (head_reads new k)) count (λ k h. ap bytes_of (head k)))
    (ap (λ t. made_in t.head count) rest) (ap (λ t. own_in t.head count) rest)

-- and is whole, where the one layer that may read otherwise has all its bytes
pub other_whole : (old new : Tree) (count : ℕ) (p : List ℕ) → new ≡ with_layers old new.layers → KeepsOthers old new p → IsNode old count
    → All (HasPages count) new.layers → ((block : ℕ) → length (bytes_of (reads new.layers (Some p) block)) ≡ 4096) → IsNode new count
other_whole old new count p rest keeps n images reads_p = record {
  pages = ap (λ t. length t.head * 512) rest ∙ n.pages;
  made = subst (λ t. IsInPages t.head) (sym rest) n.made;
  images = images;
  layers = λ want k. ⊎_elim
      (λ same. ap (λ w. length (bytes_of (reads new.layers w k))) same ∙ reads_p k)
      (λ other. ap (λ b. length (bytes_of b)) (keeps.layers want k other) ∙ n.layers want k)
      (cases_named want p);
  head = λ k. ap (λ b. length (bytes_of b)) (keeps.head k) ∙ n.head k;
}

-- the disks of other layers are as they were
pub other_disks : (old new : Tree) (count : ℕ) (p name : List ℕ) → KeepsOthers old new p → name ≢ p
    → disk_in new.layers count name ≡ disk_in old.layers count name
other_disks old new count p name keeps other =
    joined-same (λ k. bytes_of (reads old.layers (Some name) k)) (λ k. bytes_of (reads new.layers (Some name) k)) count
    (λ k h. ap bytes_of (keeps.layers (Some name) k (λ e. other (some_name name p e))))

-- ---- a page is folded

under_at : (xs : List Layer) (i j : ℕ) (under over : Tables) → i < length xs → j < i
    → layer_at (with_images xs i j under over) i ≡ with_image (layer_at xs i) under
under_at xs i j under over within newer = grind (arith, elements)

option_or_three : (a b c : Option (List ℕ)) → option_or (option_or a b) c ≡ option_or a (option_or b c)
option_or_three None b c = refl
option_or_three (Some a) b c = refl

module _ (old new : Tree) (p c : List ℕ) (i j page : ℕ) (w : IsWholeTree old) (at : AreAt old.layers p c i j)
    (stands : IsParent old.layers i j) (moves : MovesPage old.layers new.layers i j page) (keeps : KeepsOthers old new p)
  where
    abbrev x : Layer
    x = layer_at old.layers i

    abbrev y : Layer
    y = layer_at old.layers j

    abbrev under : Tables
    under = (layer_at new.layers i).image

    abbrev over : Tables
    over = (layer_at new.layers j).image

    below : layer_at new.layers i ≡ with_image x under
    below = ap (λ (ls : List Layer). layer_at ls i) moves.rest ∙ under_at old.layers i j under over at.parent.within stands.older

    new_tree : IsLayers new.layers
    new_tree = subst (λ (ls : List Layer). IsLayers ls) (sym moves.rest)
        (images_tree old.layers i j under over stands.older at.parent.within w.layers)

    new_at : IsAt new.layers p i
    new_at = record {
      within = subst (λ (ls : List Layer). i < length ls) (sym moves.rest) (within_images old.layers under over at.parent.within);
      named = ap name_of below ∙ at.parent.named;
    }
      where
        within_images : (xs : List Layer) (a b : Tables) → i < length xs → i < length (with_images xs i j a b)
        within_images xs a b h = grind (arith, elements)

    -- a layer does not stand on itself
    parent_apart : parent_of x ≢ Some p
    parent_apart e =
        let itself : i < i = child_newer old.layers i i w.layers at.parent.within at.parent.within
        (e ∙ ap (λ n. Some n) (sym at.parent.named)) in
        absurd (omega (arith, itself))

    names_apart : c ≢ p
    names_apart e =
        let same : j ≡ i = one_place old.layers p j i w.layers
        (record { within = at.child.within; named = at.child.named ∙ e }) at.parent in
        absurd (omega (arith, same, stands.older))

    -- what p reads as, behind its own blocks
    abbrev behind : ℕ → Option (List ℕ)
    behind k = reads old.layers (parent_of x) k

    new_reads : (k : ℕ) → reads new.layers (Some p) k ≡ option_or (block_at under k) (behind k)
    new_reads k =
        place_reads new.layers p i new_tree new_at k
        ∙ ap (λ n. option_or (block_at under k) (reads new.layers n k)) (ap parent_of below)
        ∙ ap (option_or (block_at under k)) (keeps.layers (parent_of x) k parent_apart)

    child_reads : (k : ℕ) → reads old.layers (Some c) k ≡ option_or (block_at y.image k) (reads old.layers (Some p) k)
    child_reads k =
        place_reads old.layers c j w.layers at.child k
        ∙ ap (λ n. option_or (block_at y.image k) (reads old.layers n k)) (stands.child ∙ ap (λ n. Some n) at.parent.named)

    reads_in : (k : ℕ) → k / 512 ≡ page → reads new.layers (Some p) k ≡ reads old.layers (Some c) k
    reads_in k e =
        new_reads k ∙ ap (λ o. option_or o (behind k)) (moves.parent.blocks k e)
        ∙ option_or_three (block_at y.image k) (block_at x.image k) (behind k)
        ∙ ap (option_or (block_at y.image k)) (sym (place_reads old.layers p i w.layers at.parent k))
        ∙ sym (child_reads k)

    reads_out : (k : ℕ) → k / 512 ≢ page → reads new.layers (Some p) k ≡ reads old.layers (Some p) k
    reads_out k n =
        new_reads k ∙ ap (λ o. option_or o (behind k)) (moves.parent.others k n) ∙ sym (place_reads old.layers p i w.layers at.parent k)

    module _ (count : ℕ) (n : IsNode old count) (rest : new ≡ with_layers old new.layers) where
      pub folded_whole : IsNode new count
      folded_whole =
          other_whole old new count p rest keeps n
          (subst (All (HasPages count)) (sym moves.rest)
          (All-set (HasPages count) (set old.layers j (with_image y over)) i (with_image x under)
          (made_over y.image x.image under count page moves.parent (n.images j _ at.child.within).made (n.images i _ at.parent.within))
          (All-set (HasPages count) old.layers j (with_image y over)
          (made_emptied y.image over count page moves.child (n.images j _ at.child.within)) n.images)))
          (λ k. ⊎_elim
          (λ e. ap (λ o. length (bytes_of o)) (reads_in k e) ∙ n.layers (Some c) k)
          (λ o. ap (λ b. length (bytes_of b)) (reads_out k o) ∙ n.layers (Some p) k)
          (cases_eq (k / 512) page))

      -- a layer as it is kept, before and after
      abbrev was : Layer → Kept
      was = kept_in old.layers count

      abbrev is : Layer → Kept
      is = kept_in new.layers count

      abbrev kept : List Kept
      kept = map was old.layers

      abbrev step : Kept → Kept
      step = page_folded_in kept p c page

      same_step : (k : Kept) (a b : Bool) → bytes_eq c k.meta.name ≡ a → bytes_eq p k.meta.name ≡ b
          → cond a (without_page page k) (cond b (with_page page (disk_named kept c) (own_named kept c) k) k) ≡ step k
      same_step k a b e f =
          let with_page_here = with_page page (disk_named kept c) (own_named kept c) k in
          ap (λ t. cond t (without_page page k) (cond b with_page_here k)) (sym e)
          ∙ ap (λ t. cond (bytes_eq c k.meta.name) (without_page page k) (cond t with_page_here k)) (sym f)

      untouched : (xs : List Layer) → IsNew p xs → IsNew c xs → map step (map was xs) ≡ map was xs
      untouched [] no_p no_c = refl
      untouched (l ∷ ls) no_p no_c =
          ap (λ (k : Kept). k ∷ map step (map was ls))
          (sym (same_step (was l) false false (other_name c (name_of l) no_c.0) (other_name p (name_of l) no_p.0)))
          ∙ ap (λ (ks : List Kept). was l ∷ ks) (untouched ls no_p.1 no_c.1)

      elsewhere : (xs : List Layer) → IsNew p xs → IsNew c xs → map is xs ≡ map step (map was xs)
      elsewhere xs no_p no_c =
          kept_elsewhere xs old.layers new.layers count p no_p (λ name other. other_disks old new count p name keeps other)
          ∙ sym (untouched xs no_p no_c)

      the_child : is (with_image y over) ≡ step (was y)
      the_child =
          same_kept y.meta _ _ _ _
          (other_disks old new count p (name_of y) keeps (λ e. names_apart (sym at.child.named ∙ e)))
          (own_emptied y.image over count page moves.child)
          ∙ same_step (was y) true (bytes_eq p (name_of y)) (ap (bytes_eq c) at.child.named ∙ same_name c) refl

      module _ (room : page * 512 + 512 ≤ count) where
        the_disk : disk_in new.layers count (name_of x) ≡ with_page_of page (disk_named kept c) (disk_in old.layers count (name_of x))
        the_disk =
            ap (disk_in new.layers count) at.parent.named
            ∙ joined-page (λ k. bytes_of (reads old.layers (Some p) k)) (λ k. bytes_of (reads old.layers (Some c) k))
            (λ k. bytes_of (reads new.layers (Some p) k)) count page room
            (n.layers (Some p)) (n.layers (Some c)) (λ k e. ap bytes_of (reads_in k e)) (λ k o. ap bytes_of (reads_out k o))
            ∙ ap (λ d. with_page_of page d (disk_in old.layers count p))
            (sym (named_there old.layers old.layers count c (there_at old.layers j c _ at.child.within at.child.named)))
            ∙ ap (λ m. with_page_of page (disk_named kept c) (disk_in old.layers count m)) (sym at.parent.named)

        the_parent : is (with_image x under) ≡ step (was x)
        the_parent =
            same_kept x.meta _ _ _ _ the_disk
            (own_laid_over y.image x.image under count page moves.parent
            ∙ ap (λ o. own_with_page page o (own_in x.image count)) (sym (own_of old.layers old.layers count c j w.layers at.child)))
            ∙ same_step (was x) false true (other_name c (name_of x) (λ e. names_apart (sym e ∙ at.parent.named)))
            (ap (bytes_eq p) at.parent.named ∙ same_name p)

        folded_layers : map is new.layers ≡ map step kept
        folded_layers =
            let k = pair old.layers p c i j w.layers at.parent at.child stands.older in
            ap (map is) (moves.rest ∙ k.images under over)
            ∙ map_two is k.before k.between k.after (with_image y over) (with_image x under)
            ∙ pieces (elsewhere k.before k.p_before k.c_before) the_child (elsewhere k.between k.p_between k.c_between)
            the_parent (elsewhere k.after k.p_after k.c_after)
            ∙ sym (map_two step (map was k.before) (map was k.between) (map was k.after) (was y) (was x))
            ∙ ap (map step) (sym (ap (map was) k.is ∙ map_two was k.before k.between k.after y x))
          where
            pieces : {a b d e g h : List Kept} {l m s t : Kept} → a ≡ b → l ≡ m → d ≡ e → s ≡ t → g ≡ h
                → a ++ (l ∷ (d ++ (s ∷ g))) ≡ b ++ (m ∷ (e ++ (t ∷ h)))
            pieces p1 p2 p3 p4 p5 = cc

        pub folded_node : node_of new count ≡ page_folded (node_of old count) p c page
        folded_node = other_layers old new count (map step kept) rest keeps.head folded_layers

-- a page of the tree is folded, and so it is in the replica
pub fold_is : (old new : Tree) (count : ℕ) (node : Node) (p c : List ℕ) (page : ℕ) → node_of old count ≡ node
    → IsNode old count → IsWholeTree old
    → CanFold (tree_of node) node.on p c → page * 2097152 < length node.disk → FoldsPage old new p c page → KeepsOthers old new p
    → (IsNode new count) × (node_of new count ≡ page_folded node p c page)
fold_is old new count node p c page view n w can inside folds keeps =
    let stands = fold_parent old p c folds.parent folds.child w folds.at (can_fold old count node p c view can) in
    let room : page * 512 + 512 ≤ count = omega (arith, length-node old count node view n, n.pages) in (
      folded_whole old new p c folds.parent folds.child page w folds.at stands folds.moved keeps count n folds.rest,
      folded_node old new p c folds.parent folds.child page w folds.at stands folds.moved keeps count n folds.rest room
          ∙ ap (λ x. page_folded x p c page) view,
    )
