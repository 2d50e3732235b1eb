-- What a fold, a replaced parent and a dropped layer leave of a replica, for those above it.
use Rattle.std.proofs.Common.{◌≡◌, ⊎_elim, ℕ, ◌≤◌, Bool, true, false, not, cond, List, [], ◌∷◌, length, map, Option}
use Rattle.std.proofs.Common.{refl, sym, ap, ◌∙◌, arith}
use Rattle.std.specs.Prelude.{All, ◌&&◌}
use Rattle.std.specs.Str.{bytes_eq}
use Rattle.std.proofs.lemmas.Bool.{cases_lt, and_right}
use Rattle.std.proofs.lemmas.List.{get_or_past}
use Rattle.std.proofs.lemmas.List.Elements.{All-head, All-tail}
use Rattle.volume_model.specs.Purge.{dropped, folded, given, parent_in}
use Rattle.volume_model.specs.Snapshots.{Snapshot}
use Rattle.coalesce.specs.Folding.{snapshot_of}
use Rattle.replica_node.specs.Node.{Kept, Node, disk_named, has_own}
use Rattle.replica_node.specs.Fold.{tree_of, own_named, is_in, own_without_page, with_page, without_page}
use Rattle.replica_node.specs.Fold.{page_folded_in, page_folded, layers_without, put_down, replaced_node}
use Rattle.replica_node.specs.Fold.{dropped_node}
use Rattle.sparse_image.proofs.ListedLemmas.{listed-at, listed-past}

abbrev told : List Kept → List Snapshot
told ks = map (λ (k : Kept). snapshot_of k.meta) ks

-- ---- a page is folded

module _ (layers : List Kept) (p c : List ℕ) (page : ℕ) where
  abbrev step : Kept → Kept
  step = page_folded_in layers p c page

  abbrev laid : Kept → Kept
  laid k = with_page page (disk_named layers c) (own_named layers c) k

  abbrev chosen : Kept → Bool → Bool → Kept
  chosen k a b = cond a (without_page page k) (cond b (laid k) k)

  same_meta : (k : Kept) (a b : Bool) → (chosen k a b).meta ≡ k.meta
  same_meta k true b = refl
  same_meta k false true = refl
  same_meta k false false = refl

  step_meta : (k : Kept) → (step k).meta ≡ k.meta
  step_meta k = same_meta k (bytes_eq c k.meta.name) (bytes_eq p k.meta.name)

  step_told : (ks : List Kept) → told (map step ks) ≡ told ks
  step_told [] = refl
  step_told (k ∷ ks) = both (ap snapshot_of (step_meta k)) (step_told ks)
    where
      both : {s t : Snapshot} {ss ts : List Snapshot} → s ≡ t → ss ≡ ts → s ∷ ss ≡ t ∷ ts
      both q r = cc

  -- no block of the page is there, and the others are as they were
  none_of_page : (own : List Bool) (block : ℕ) → has_own (own_without_page page own) block ≡ (not (is_in page block) && has_own own block)
  none_of_page own block = ⊎_elim
      (λ inside. listed-at (λ b. not (is_in page b) && has_own own b) (length own) block inside)
      (λ past. listed-past (λ b. not (is_in page b) && has_own own b) (length own) block past
      ∙ sym (and_right (not (is_in page block)) (has_own own block) (get_or_past own block false past)))
      (cases_lt block (length own))

  step_own : (ks : List Kept) (block : ℕ) → has_own (own_named (map step ks) c)
      block ≡ (not (is_in page block) && has_own (own_named ks c) block)
  step_own [] block = sym (and_right (not (is_in page block)) false refl)
  step_own (k ∷ ks) block =
      ap (λ m. has_own (cond (bytes_eq c m.name) (step k).own (own_named (map step ks) c)) block) (step_meta k)
      ∙ go (step_own ks block) (bytes_eq c k.meta.name) refl
    where
      go : has_own (own_named (map step ks) c) block ≡ (not (is_in page block) && has_own (own_named ks c) block)
          → (b : Bool) → bytes_eq c k.meta.name ≡ b
          → has_own (cond b (step k).own (own_named (map step ks) c)) block
          ≡ (not (is_in page block) && has_own (cond b k.own (own_named ks c)) block)
      go rest true is = ap (λ b. has_own (chosen k b (bytes_eq p k.meta.name)).own block) is ∙ none_of_page k.own block
      go rest false is = rest

-- the same layers, as snapshots
pub page_folded_tree : (node : Node) (p c : List ℕ) (page : ℕ) → tree_of (page_folded node p c page) ≡ tree_of node
page_folded_tree node p c page = step_told node.layers p c page node.layers

-- c has no block of the page, and else those that it had
pub page_folded_own : (node : Node) (p c : List ℕ) (page block : ℕ)
    → has_own (own_named (page_folded node p c page).layers c) block ≡ (not (is_in page block) && has_own (own_named node.layers c) block)
page_folded_own node p c page block = step_own node.layers p c page node.layers block

-- past the blocks of the volume no layer has one
pub own_past : (ks : List Kept) (name : List ℕ) (count block : ℕ) → All (λ (k : Kept). length k.own ≡ count) ks → count ≤ block
    → has_own (own_named ks name) block ≡ false
own_past [] name count block all past = refl
own_past (k ∷ ks) name count block all past =
    go (own_past ks name count block (All-tail (λ (j : Kept). length j.own ≡ count) k ks all) past) (bytes_eq name k.meta.name)
  where
    go : has_own (own_named ks name) block ≡ false → (b : Bool) → has_own (cond b k.own (own_named ks name)) block ≡ false
    go rest true = get_or_past k.own block false (omega (arith, All-head (λ (j : Kept). length j.own ≡ count) k ks all, past))
    go rest false = rest

-- ---- a layer is out

without_told : (p : List ℕ) (ks : List Kept) → told (layers_without p ks) ≡ dropped p (told ks)
without_told p [] = refl
without_told p (k ∷ ks) = go (without_told p ks) (bytes_eq p k.meta.name)
  where
    go : told (layers_without p ks) ≡ dropped p (told ks) → (b : Bool)
        → told (cond b ks (k ∷ layers_without p ks)) ≡ cond b (told ks) (snapshot_of k.meta ∷ dropped p (told ks))
    go rest true = refl
    go rest false = ap (λ (ss : List Snapshot). snapshot_of k.meta ∷ ss) rest

-- the layers without it, as snapshots
pub dropped_tree : (node : Node) (p : List ℕ) → tree_of (dropped_node node p) ≡ dropped p (tree_of node)
dropped_tree node p = without_told p node.layers

-- ---- a child in the place of its parent

module _ (c : List ℕ) (parent : Option (List ℕ)) (own : List Bool) where
  put : (ks : List Kept) → told (map (put_down c parent own) ks) ≡ given c parent (told ks)
  put [] = refl
  put (k ∷ ks) = both (go (bytes_eq c k.meta.name)) (put ks)
    where
      go : (b : Bool) → snapshot_of (cond b (record k { meta = record k.meta { parent = parent }; own = own }) k).meta
          ≡ cond b (record (snapshot_of k.meta) { parent = parent }) (snapshot_of k.meta)
      go true = refl
      go false = refl

      both : {s t : Snapshot} {ss ts : List Snapshot} → s ≡ t → ss ≡ ts → s ∷ ss ≡ t ∷ ts
      both q r = cc

-- the layers, as snapshots
pub replaced_tree : (node : Node) (p c : List ℕ) → tree_of (replaced_node node p c) ≡ folded p c (tree_of node)
replaced_tree node p c =
    put c (parent_in p (tree_of node)) (own_named node.layers p) (layers_without p node.layers)
    ∙ ap (given c (parent_in p (tree_of node))) (without_told p node.layers)
