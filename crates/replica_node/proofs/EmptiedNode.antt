-- A tree without blocks is the replica without blocks.
use Rattle.std.proofs.Common.{◌≡◌, ℕ, ◌*◌, Bool, true, false, cond, List, [], ◌∷◌, length, map, replicate, Option}
use Rattle.std.proofs.Common.{None, Some, refl, sym, ap, ◌∙◌, arith}
use Rattle.std.specs.Option.{option_or}
use Rattle.std.proofs.lemmas.List.Elements.{All-head, All-tail}
use Rattle.vol_units.specs.Bytes.{zeros}
use Rattle.sparse_image.specs.Image.{IsEmpty, block_at}
use Rattle.sparse_image.specs.Disk.{bytes_of, joined}
use Rattle.sparse_image.proofs.DiskLemmas.{joined-same, length-joined}
use Rattle.vol_units.specs.Chain.{is_named}
use Rattle.layer_chain.specs.Layers.{read_layers}
use Rattle.layer_chain.specs.Changes.{IsEmptied, AreEmpty, metas_in}
use Rattle.layer_chain.specs.Tree.{Tree, name_of, parent_of, reads, head_reads}
use Rattle.layer_chain.specs.declared.layer.Layer.{Layer}
use Rattle.layer_chain.specs.declared.layer.LayerMeta.{LayerMeta}
use Rattle.replica_node.specs.Node.{Kept, node_of, kept_in, disk_in, head_disk, own_in, IsNode, IsOfSize}
use Rattle.replica_node.specs.Held.{emptied, emptied_layer}
use Rattle.replica_node.proofs.NodeLemmas.{kept, same_kept, same_parts, length-own_in, length-made_in}
use Rattle.replica_node.proofs.NodeLemmas.{own_in-empty, made_in-empty, as_disk}

reads_none : (xs : List Layer) (pages : ℕ) (want : Option (List ℕ)) (k : ℕ) → AreEmpty xs pages → reads xs want k ≡ None
unfolding read_layers
reads_none [] pages want k empty = refl
reads_none (x ∷ xs) pages want k empty =
    let here = (All-head (λ (l : Layer). IsEmpty l.image pages) x xs empty).blocks k in
    let rest = All-tail (λ (l : Layer). IsEmpty l.image pages) x xs empty in
    go (is_named want (name_of x)) here (reads_none xs pages (parent_of x) k rest) (reads_none xs pages want k rest)
  where
    go : (b : Bool) → block_at x.image k ≡ None → reads xs (parent_of x) k ≡ None → reads xs want k ≡ None
        → cond b (option_or (block_at x.image k) (reads xs (parent_of x) k)) (reads xs want k) ≡ None
    go true e f g = ap (λ o. option_or o (reads xs (parent_of x) k)) e ∙ f
    go false e f g = g

module _ (old new : Tree) (pages count : ℕ) (e : IsEmptied old new pages) (size : pages * 512 ≡ count) (n : IsNode old count) where
  no_reads : (want : Option (List ℕ)) (k : ℕ) → reads new.layers want k ≡ None
  no_reads want k = reads_none new.layers pages want k e.images

  no_head : (k : ℕ) → head_reads new k ≡ None
  no_head k = ap (λ o. option_or o (reads new.layers new.on k)) (e.head.blocks k) ∙ no_reads new.on k

  zero_disk : (f : ℕ → Option (List ℕ)) → ((k : ℕ) → f k ≡ None) → joined (λ k. bytes_of (f k)) count ≡ zeros (count * 4096)
  zero_disk f none =
      let long : length new.head * 512 ≡ count = ap (λ l. l * 512) e.head.count ∙ size in
      let bytes : pages * 2097152 ≡ count * 4096 = omega (arith, size) in
      joined-same (λ k. bytes_of (block_at new.head k)) (λ k. bytes_of (f k)) count (λ k h. ap bytes_of (none k ∙ sym (e.head.blocks k)))
      ∙ ap (λ m. joined (λ k. bytes_of (block_at new.head k)) m) (sym long)
      ∙ as_disk new.head pages e.head ∙ ap zeros bytes

  one_layer : (x y : Layer) → y.meta ≡ x.meta → IsEmpty y.image pages
      → kept_in new.layers count y ≡ emptied_layer (kept_in old.layers count x)
  one_layer x y same empty =
      let long : length (disk_in old.layers count (name_of x)) ≡ count * 4096 =
      length-joined (λ k. bytes_of (reads old.layers (Some (name_of x)) k)) count (n.layers (Some (name_of x))) in
      same_kept y.meta _ _ _ _
      (zero_disk (λ k. reads new.layers (Some (name_of y)) k) (no_reads (Some (name_of y))) ∙ ap zeros (sym long))
      (own_in-empty y.image pages count empty ∙ ap (λ m. replicate m false) (sym (length-own_in x.image count)))
      ∙ ap (λ (m : LayerMeta). kept m (zeros (length (disk_in old.layers count (name_of x))))
      (replicate (length (own_in x.image count)) false)) same

  all_layers : (xs ys : List Layer) → metas_in ys ≡ metas_in xs → AreEmpty ys pages
      → map (kept_in new.layers count) ys ≡ map emptied_layer (map (kept_in old.layers count) xs)
  all_layers [] [] same empty = refl
  all_layers [] (y ∷ ys) same empty = absurd (cc)
  all_layers (x ∷ xs) [] same empty = absurd (cc)
  all_layers (x ∷ xs) (y ∷ ys) same empty =
      both (one_layer x y (heads same) (All-head (λ (l : Layer). IsEmpty l.image pages) y ys empty))
      (all_layers xs ys (tails same) (All-tail (λ (l : Layer). IsEmpty l.image pages) y ys empty))
    where
      heads : y.meta ∷ metas_in ys ≡ x.meta ∷ metas_in xs → y.meta ≡ x.meta
      heads p = cc

      tails : y.meta ∷ metas_in ys ≡ x.meta ∷ metas_in xs → metas_in ys ≡ metas_in xs
      tails p = cc

      both : {a b : Kept} {l m : List Kept} → a ≡ b → l ≡ m → a ∷ l ≡ b ∷ m
      both p q = cc

  pub emptied_node : node_of new count ≡ emptied (node_of old count)
  emptied_node =
      let long : length (head_disk old count) ≡ count * 4096 = length-joined (λ k. bytes_of (head_reads old k)) count n.head in
      same_parts (all_layers old.layers new.layers e.metas e.images) e.on e.number
      (zero_disk (λ k. head_reads new k) no_head ∙ ap zeros (sym long))
      (made_in-empty new.head pages count e.head ∙ ap (λ m. replicate m false) (sym (length-made_in old.head count)))
      (own_in-empty new.head pages count e.head ∙ ap (λ m. replicate m false) (sym (length-own_in old.head count)))

  pub emptied_sized : IsOfSize new count
  emptied_sized = record {
    head = ap (λ l. l * 512) e.head.count ∙ size;
    layers = λ i l h. ap (λ m. m * 512) (e.images i l h).count ∙ size;
  }
