-- What each change keeps of what the other layers and the head read as.
use Rattle.std.proofs.Common.{◌≡◌, ◌≢◌, ⊎_elim, ℕ, ◌/◌, ◌<◌, false, List, [], length, map, get_or, set, Option, None}
use Rattle.std.proofs.Common.{Some, sym, refl, ap, ◌∙◌, subst, arith}
use Rattle.std.specs.Option.{option_or}
use Rattle.std.proofs.lemmas.Bool.{cases_eq}
use Rattle.std.proofs.lemmas.List.{get_or-set_other, get_or-map, length-map}
use Rattle.std.proofs.Math.Seq.{map-set_same}
use Rattle.sparse_image.specs.Image.{Tables, block_at, EmptiesPage, LaysPageOver}
use Rattle.sparse_image.specs.declared.block.TheConstants.{PAGE_BLOCKS}
use Rattle.layer_chain.specs.Changes.{with_layers, with_image, with_images, MovesPage, taken_out, replaced}
use Rattle.layer_chain.specs.Tree.{Tree, name_of, layer_at, reads, head_reads, IsAt, IsWholeTree}
use Rattle.layer_chain.specs.declared.layer.Layer.{Layer}
use Rattle.layer_chain.proofs.FoldLemmas.{images_reads, replaced_reads, without_reads, child_above}
use Rattle.volume_model.specs.Purge.{CanFold, CanDrop}
use Rattle.volume_model.specs.Snapshots.{Snapshot}
use Rattle.coalesce.specs.Folding.{snapshot_of, snapshots_in, AreAt, MovesBlock, HasNoBlock, KeepsOthers}
use Rattle.coalesce.proofs.ChildLemmas.{told}
use Rattle.coalesce.proofs.PlaceLemmas.{fold_only, drop_leaf}

-- other layers that read alike but for p, on which the head doesn't stand
keeps_others : (t new : Tree) (xs : List Layer) (p : List ℕ) → t.on ≢ Some p → new ≡ with_layers t xs
    → ((other : Option (List ℕ)) (block : ℕ) → other ≢ Some p → reads xs other block ≡ reads t.layers other block)
    → KeepsOthers t new p
keeps_others t new xs p head is same = record {
  layers = λ other block n. ap (λ (u : Tree). reads u.layers other block) is ∙ same other block n;
  head = λ block. ap (λ (u : Tree). head_reads u block) is ∙ ap (option_or (block_at t.head block)) (same t.on block head);
}

other_than : (t : Tree) (p : List ℕ) (i : ℕ) (other : Option (List ℕ)) → IsAt t.layers p i → other ≢ Some p
    → other ≢ Some (name_of (layer_at t.layers i))
other_than t p i other at n e = n (e ∙ ap (λ (m : List ℕ). Some m) at.named)

-- two layers' blocks that together read as before
images_keep : (t new : Tree) (p c : List ℕ) (i j : ℕ) (under over : Tables) → IsWholeTree t → AreAt t.layers p c i j
    → CanFold (snapshots_in t) t.on p c → new ≡ with_layers t (with_images t.layers i j under over)
    → ((block : ℕ) → option_or (block_at over block) (block_at under block) ≡ option_or
    (block_at (layer_at t.layers j).image block) (block_at (layer_at t.layers i).image block)) → KeepsOthers t new p
images_keep t new p c i j under over w at can is moved =
    keeps_others t new (with_images t.layers i j under over) p can.head is (λ other block n.
    images_reads t i j w at.parent.within (fold_only t p c i j w at can) under over block (moved block) other
    (other_than t p i other at.parent n))

page_moved : (upper lower over under : Tables) (page : ℕ) → EmptiesPage upper over page
    → LaysPageOver upper lower under page → (block : ℕ)
    → option_or (block_at over block) (block_at under block) ≡ option_or (block_at upper block) (block_at lower block)
page_moved upper lower over under page own below block =
    ⊎_elim
    (λ e. ap (λ (o : Option (List ℕ)). option_or o (block_at under block)) (own.blocks block e) ∙ below.blocks block e)
    (λ n. ap (λ (o : Option (List ℕ)). option_or o (block_at under block)) (own.others block n)
    ∙ ap (option_or (block_at upper block)) (below.others block n))
    (cases_eq (block / PAGE_BLOCKS) page)

pub page_keeps : (t new : Tree) (p c : List ℕ) (i j page : ℕ) → IsWholeTree t → AreAt t.layers p c i j
    → CanFold (snapshots_in t) t.on p c → MovesPage t.layers new.layers i j page → new ≡ with_layers t new.layers
    → KeepsOthers t new p
page_keeps t new p c i j page w at can moves rest =
    images_keep t new p c i j (layer_at new.layers i).image (layer_at new.layers j).image w at can
    (rest ∙ ap (λ (xs : List Layer). with_layers t xs) moves.rest)
    (page_moved (layer_at t.layers j).image (layer_at t.layers i).image (layer_at new.layers j).image
    (layer_at new.layers i).image page moves.child moves.parent)

block_moved : (t new : Tree) (p c : List ℕ) (block : ℕ) (m : MovesBlock t new p c block) (other : ℕ)
    → option_or (block_at (layer_at new.layers m.child).image other)
    (block_at (layer_at new.layers m.parent).image other) ≡ option_or (block_at (layer_at t.layers m.child).image other)
    (block_at (layer_at t.layers m.parent).image other)
block_moved t new p c block m other =
    let over = (layer_at new.layers m.child).image in
    let under = (layer_at new.layers m.parent).image in
    let upper = (layer_at t.layers m.child).image in
    let lower = (layer_at t.layers m.parent).image in
    ⊎_elim
    (λ e. subst (λ (k : ℕ). option_or (block_at over k) (block_at under k) ≡ option_or (block_at upper k) (block_at lower k)) (sym e)
    (ap (λ (o : Option (List ℕ)). option_or o (block_at under block)) m.own ∙ m.under))
    (λ n. ap (λ (o : Option (List ℕ)). option_or o (block_at under other)) (m.others other n).0
    ∙ ap (option_or (block_at upper other)) (m.others other n).1)
    (cases_eq other block)

pub block_keeps : (t new : Tree) (p c : List ℕ) (block : ℕ) → IsWholeTree t → CanFold (snapshots_in t) t.on p c
    → MovesBlock t new p c block → KeepsOthers t new p
block_keeps t new p c block w can m =
    images_keep t new p c m.parent m.child (layer_at new.layers m.parent).image (layer_at new.layers m.child).image w m.at
    can m.rest (block_moved t new p c block m)

pub replaced_keeps : (t new : Tree) (p c : List ℕ) (i j : ℕ) → IsWholeTree t → AreAt t.layers p c i j
    → CanFold (snapshots_in t) t.on p c → HasNoBlock t.layers c → new ≡ replaced t i j → KeepsOthers t new p
replaced_keeps t new p c i j w at can empty is =
    keeps_others t new (replaced t i j).layers p can.head is (λ other block n.
    replaced_reads t i j w at.parent.within (fold_only t p c i j w at can) block
    (empty j _ at.child.within at.child.named block) other (other_than t p i other at.parent n))

pub dropped_keeps : (t new : Tree) (p : List ℕ) (i : ℕ) → IsAt t.layers p i → CanDrop (snapshots_in t) t.on p
    → new ≡ taken_out t i → KeepsOthers t new p
dropped_keeps t new p i at can is =
    keeps_others t new (taken_out t i).layers p can.head is (λ other block n.
    without_reads t i at.within (drop_leaf t p i at can) block other (other_than t p i other at n))

-- ---- and of what is told of the layers

abbrev no_layer : Layer
no_layer = record {
  meta = record { name = []; parent = None; marked = false; user_created = false; created = None };
  image = [];
}

images_snapshots : (xs : List Layer) (i j : ℕ) (under over : Tables) → j < i
    → map (λ (l : Layer). snapshot_of l.meta) (with_images xs i j under over) ≡ map (λ (l : Layer). snapshot_of l.meta) xs
images_snapshots xs i j under over h =
    let with_image_here = with_image (layer_at xs j) over in
    let apart : i ≢ j = λ e. absurd (omega (arith, h, e)) in
    map-set_same (λ (l : Layer). snapshot_of l.meta) (set xs j with_image_here) i (with_image (layer_at xs i) under) no_layer
    (sym (ap (λ (l : Layer). snapshot_of l.meta) (get_or-set_other xs j i with_image_here no_layer apart)))
    ∙ map-set_same (λ (l : Layer). snapshot_of l.meta) xs j with_image_here no_layer refl

pub page_snapshots : (t new : Tree) (p c : List ℕ) (i j page : ℕ) → IsWholeTree t → AreAt t.layers p c i j
    → CanFold (snapshots_in t) t.on p c → MovesPage t.layers new.layers i j page → snapshots_in new ≡ snapshots_in t
page_snapshots t new p c i j page w at can moves =
    ap told moves.rest
    ∙ images_snapshots t.layers i j (layer_at new.layers i).image (layer_at new.layers j).image
    (child_above t i j w at.parent.within (fold_only t p c i j w at can))

-- where the snapshots stay, each name stays at its place
name_kept : (t new : Tree) (name : List ℕ) (i : ℕ) → snapshots_in new ≡ snapshots_in t → IsAt t.layers name i → IsAt new.layers name i
name_kept t new name i same at =
    let f : Layer → Snapshot = λ l. snapshot_of l.meta in
    let within : i < length new.layers = omega (arith, at.within, length-map t.layers f, length-map new.layers f, ap length same) in
    let s : Snapshot = f (layer_at t.layers i) in
    record {
      within = within;
      named =
          ap (λ (x : Snapshot). x.name)
          (sym (get_or-map f new.layers i _ s within)
          ∙ ap (λ (ss : List Snapshot). get_or ss i s) same
          ∙ get_or-map f t.layers i _ s at.within)
          ∙ at.named;
    }

pub places_kept : (t new : Tree) (p c : List ℕ) (i j : ℕ) → snapshots_in new ≡ snapshots_in t → AreAt t.layers p c i j
    → AreAt new.layers p c i j
places_kept t new p c i j same at = record { parent = name_kept t new p i same at.parent; child = name_kept t new c j same at.child }

pub page_can : (t new : Tree) (p c : List ℕ) → CanFold (snapshots_in t) t.on p c → snapshots_in new ≡ snapshots_in t
    → new ≡ with_layers t new.layers → CanFold (snapshots_in new) new.on p c
page_can t new p c can same rest =
    subst (λ (on : Option (List ℕ)). CanFold (snapshots_in new) on p c) (sym (ap (λ (u : Tree). u.on) rest))
    (subst (λ (ms : List Snapshot). CanFold ms t.on p c) (sym same) can)

rest : (t new : Tree) (xs : List Layer) → new ≡ with_layers t xs → new ≡ with_layers t new.layers
rest t new xs is = is ∙ ap (λ (ys : List Layer). with_layers t ys) (sym (ap (λ (u : Tree). u.layers) is))

pub replaced_rest : (t new : Tree) (i j : ℕ) → new ≡ replaced t i j → new ≡ with_layers t new.layers
replaced_rest t new i j = rest t new (replaced t i j).layers

pub dropped_rest : (t new : Tree) (i : ℕ) → new ≡ taken_out t i → new ≡ with_layers t new.layers
dropped_rest t new i = rest t new (taken_out t i).layers
