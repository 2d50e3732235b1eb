-- What the steps of a rebuild keep, and what promotes.
use Rattle.std.proofs.Common.{◌≡◌, ⊎_elim, ◌⊎◌, inl, inr, ℕ, zero, suc, ◌+◌, ◌*◌, ◌/◌, ◌%◌, ◌<◌, Bool, true, false}
use Rattle.std.proofs.Common.{cond, List, [], ◌∷◌, length, map, replicate, get_or, Option, None, Some, refl, sym, ap}
use Rattle.std.proofs.Common.{subst, ◌∙◌, arith}
use Rattle.std.specs.Prelude.{◌&&◌, ◌||◌, Contains}
use Rattle.std.specs.Str.{bytes_eq}
use Rattle.std.proofs.lemmas.Bool.{cases_eq, false≢true}
use Rattle.std.proofs.lemmas.Slice.Eq.{bytes_eq-Decides}
use Rattle.sparse_image.specs.Image.{Table, place_at}
use Rattle.volume_model.specs.Names.{has_name, NamesOnce}
use Rattle.volume_model.specs.Snapshots.{Snapshot}
use Rattle.coalesce.specs.Folding.{snapshot_of}
use Rattle.coalesce.proofs.ChildLemmas.{same_name, other_name}
use Rattle.replica_node.specs.Node.{Kept, Node, disk_named, has_own, snapped_node, layer_names, no_own}
use Rattle.replica_node.specs.Room.{head_block}
use Rattle.replica_node.specs.Fold.{tree_of, snapshots_of, is_in}
use Rattle.replica_node.specs.Held.{block_of, own_block, block_named, read_below, IsOver, AreChained, IsPageOf}
use Rattle.replica_node.specs.Held.{put_block, PutsPage, emptied, emptied_layer}
use Rattle.replica_node.proofs.OwnLemmas.{is_in-same, is_in-other}
use Rattle.open_rebuild.specs.Rebuild.{IsRebuilt, HasNoPage, ListsPage, IsAllCopied, ReadsAs, IsReplica}

abbrev pub told : List Kept → List Snapshot
told ks = map (λ (k : Kept). snapshot_of k.meta) ks

-- ---- names

cond_true : {X : Type 0} (b : Bool) (u v : X) → b ≡ true → cond b u v ≡ u
cond_true b u v e = ap (λ t. cond t u v) e

cond_false : {X : Type 0} (b : Bool) (u v : X) → b ≡ false → cond b u v ≡ v
cond_false b u v e = ap (λ t. cond t u v) e

or_false : (a b : Bool) → (a || b) ≡ false → (a ≡ false) × (b ≡ false)
or_false true b e = absurd (false≢true (sym e))
or_false false b e = (refl, e)

-- a name that no layer has
absent : (ks : List Kept) (n : List ℕ) (block : ℕ) → has_name (told ks) n ≡ false → block_named ks n block ≡ None
absent [] n block e = refl
absent (k ∷ ks) n block e =
    let o = or_false (bytes_eq n k.meta.name) (has_name (told ks) n) e in
    cond_false (bytes_eq n k.meta.name) (own_block k.disk k.own block) (block_named ks n block) o.0 ∙ absent ks n block o.1

-- ---- the same own blocks, the same readings

same_own : (h g : Bool) (d e : List ℕ) → cond h (Some d) None ≡ cond g (Some e) None → (h ≡ false → g ≡ false → d ≡ e) → d ≡ e
same_own true true d e own rest = cc
same_own true false d e own rest = absurd (cc)
same_own false true d e own rest = absurd (cc)
same_own false false d e own rest = rest refl refl

over_same : (count block : ℕ) (d e : List ℕ) (h g : List Bool) (js ks : List Kept) (on : Option (List ℕ))
    → IsOver d h js on count → IsOver e g ks on count
    → block < count → own_block d h block ≡ own_block e g block → read_below js on block ≡ read_below ks on block
    → block_of d block ≡ block_of e block
over_same count block d e h g js ks on p q inside own below =
    same_own (has_own h block) (has_own g block) (block_of d block) (block_of e block) own
    (λ a b. p.below block inside a ∙ below ∙ sym (q.below block inside b))

pub heads : (j k : Kept) (js ks : List Kept) → told (j ∷ js) ≡ told (k ∷ ks) → (j.meta.name ≡ k.meta.name)
    × (j.meta.parent ≡ k.meta.parent) × (told js ≡ told ks)
heads j k js ks e = (ap (λ s. s.name) first, ap (λ s. s.parent) first, cc)
  where
    first : snapshot_of j.meta ≡ snapshot_of k.meta
    first = cc

layers_same : (count block : ℕ) (js ks : List Kept) → told js ≡ told ks → NamesOnce (told ks) → AreChained js count
    → AreChained ks count → block < count
    → ((n : List ℕ) → block_named js n block ≡ block_named ks n block) → (n : List ℕ)
    → block_of (disk_named js n) block ≡ block_of (disk_named ks n) block
layers_same count block [] [] e once p q inside own n = refl
layers_same count block [] (k ∷ ks) e once p q inside own n = absurd (cc)
layers_same count block (j ∷ js) [] e once p q inside own n = absurd (cc)
layers_same count block (j ∷ js) (k ∷ ks) e once p q inside own n =
    let h = heads j k js ks e in
    let tail : (m : List ℕ) → block_named js m block ≡ block_named ks m block = behind h in
    let rest = layers_same count block js ks h.2 once.1 p.1 q.1 inside tail in
    let below : read_below js j.meta.parent block ≡ read_below ks j.meta.parent block = under rest j.meta.parent in
    let here : own_block j.disk j.own block ≡ own_block k.disk k.own block =
    sym (cond_true (bytes_eq k.meta.name j.meta.name) (own_block j.disk j.own block) (block_named js k.meta.name block)
    (ap (bytes_eq k.meta.name) h.0 ∙ same_name k.meta.name))
    ∙ own k.meta.name
    ∙ cond_true (bytes_eq k.meta.name k.meta.name) (own_block k.disk k.own block) (block_named ks k.meta.name block)
    (same_name k.meta.name) in
    let top : block_of j.disk block ≡ block_of k.disk block =
    over_same count block j.disk k.disk j.own k.own js ks j.meta.parent p.0
    (subst (λ o. IsOver k.disk k.own ks o count) (sym h.1) q.0) inside here below in
    ap (λ m. block_of (cond (bytes_eq n m) j.disk (disk_named js n)) block) h.0
    ∙ choose (bytes_eq n k.meta.name) top (rest n)
  where
    under : ((n : List ℕ) → block_of (disk_named js n) block ≡ block_of (disk_named ks n) block) → (on : Option (List ℕ))
        → read_below js on block ≡ read_below ks on block
    under rest None = refl
    under rest (Some name) = rest name

    choose : (b : Bool) → block_of j.disk block ≡ block_of k.disk block
        → block_of (disk_named js n) block ≡ block_of (disk_named ks n) block
        → block_of (cond b j.disk (disk_named js n)) block ≡ block_of (cond b k.disk (disk_named ks n)) block
    choose true x y = x
    choose false x y = y

    behind : (j.meta.name ≡ k.meta.name) × (j.meta.parent ≡ k.meta.parent) × (told js ≡ told ks) → (m : List ℕ)
        → block_named js m block ≡ block_named ks m block
    behind h m = go (bytes_eq m k.meta.name) refl
      where
        go : (b : Bool) → bytes_eq m k.meta.name ≡ b → block_named js m block ≡ block_named ks m block
        go true is =
            let same : m ≡ k.meta.name = (bytes_eq-Decides m k.meta.name).0 is in
            let none : has_name (told ks) m ≡ false = ap (has_name (told ks)) same ∙ once.0 in
            absent js m block (ap (λ (ss : List Snapshot). has_name ss m) h.2 ∙ none) ∙ sym (absent ks m block none)
        go false is =
            sym (cond_false (bytes_eq m j.meta.name) (own_block j.disk j.own block) (block_named js m block) (ap (bytes_eq m) h.0 ∙ is))
            ∙ own m ∙ cond_false (bytes_eq m k.meta.name) (own_block k.disk k.own block) (block_named ks m block) is

-- ---- promotion

-- whether the list has the name
has : (xs : List (List ℕ)) (name : List ℕ) → (Contains xs name → ⊥) ⊎ Contains xs name
has [] name = inl (λ c. absurd (omega (arith, c.1)))
has (x ∷ xs) name = go (bytes_eq name x) refl (has xs name)
  where
    go : (b : Bool) → bytes_eq name x ≡ b → (Contains xs name → ⊥) ⊎ Contains xs name → (Contains (x ∷ xs) name → ⊥)
        ⊎ Contains (x ∷ xs) name
    go true is rest = inr (0, omega arith, sym ((bytes_eq-Decides name x).0 is))
    go false is (inr c) = inr (suc c.0, omega (arith, c.1), c.2)
    go false is (inl none) = inl (λ c. not_here c.0 c.1 c.2)
      where
        not_here : (i : ℕ) → i < length (x ∷ xs) → get_or (x ∷ xs) i name ≡ name → ⊥
        not_here zero h e = absurd (false≢true (sym is ∙ (bytes_eq-Decides name x).1 (sym e)))
        not_here (suc i) h e = none (i, omega arith, e)

pub copied_reads : (count : ℕ) (frozen : List (List ℕ)) (is_listed : List ℕ → ℕ → Bool) (Free : ℕ → Type 0)
    (source target : Node) → IsReplica source count → IsReplica target count
    → IsRebuilt frozen is_listed Free source target → IsAllCopied count frozen is_listed → ReadsAs count Free source target
copied_reads count frozen is_listed Free source target s t r all =
    let own : (block : ℕ) → block < count → (n : List ℕ) → block_named target.layers n block ≡ block_named source.layers n block =
    λ block inside n. ⊎_elim (λ none. r.newer n block none) (λ c. r.listed n block c (all n block c inside)) (has frozen n) in
    let layers : (block : ℕ) → block < count → (n : List ℕ)
    → block_of (disk_named target.layers n) block ≡ block_of (disk_named source.layers n) block =
    λ block inside. layers_same count block target.layers source.layers (ap (λ s. s.tree) r.alike) s.once t.chained.layers
    s.chained.layers inside (own block inside) in
    record {
      layers = λ n block inside. layers block inside n;
      head = λ block inside is.
          over_same count block target.disk source.disk target.own source.own target.layers source.layers source.on
          (subst (λ o. IsOver target.disk target.own target.layers o count) (ap (λ s. s.on) r.alike) t.chained.head)
          s.chained.head inside (r.head block is)
          (below block (layers block inside) source.on);
    }
  where
    below : (block : ℕ) → ((n : List ℕ) → block_of (disk_named target.layers n) block ≡ block_of (disk_named source.layers n) block)
        → (on : Option (List ℕ))
        → read_below target.layers on block ≡ read_below source.layers on block
    below block same None = refl
    below block same (Some name) = same name

same_snapshots : (a b : Node) → tree_of a ≡ tree_of b → a.on ≡ b.on → a.number ≡ b.number → snapshots_of a ≡ snapshots_of b
same_snapshots a b p q r = cc

-- ---- a page is copied

pub page_copied : (frozen : List (List ℕ)) (is_listed after_listed : List ℕ → ℕ → Bool) (Free : ℕ → Type 0)
    (source target after : Node) (name : List ℕ) (page : ℕ) (table : Table)
    → IsRebuilt frozen is_listed Free source target → Contains frozen name → IsPageOf source name page table
    → PutsPage target after name page table
    → ListsPage is_listed after_listed name page → IsRebuilt frozen after_listed Free source after
page_copied frozen is_listed after_listed Free source target after name page table r inside of puts lists = record {
  alike = same_snapshots after source (metas_tree after target puts.metas ∙ ap (λ s. s.tree) r.alike)
      (puts.on ∙ ap (λ s. s.on) r.alike) (puts.number ∙ ap (λ s. s.number) r.alike);
  listed = λ other block f c.
      puts.layers other block
      ∙ go other block (bytes_eq other name) (is_in page block) refl refl (λ n. r.listed other block f (was other block c n));
  newer = λ other block none.
      puts.layers other block
      ∙ ap (λ b. cond (b && is_in page block) (place_at table (block % 512)) (block_named target.layers other block))
      (other_name other name (λ e. none (subst (λ n. Contains frozen n) e inside)))
      ∙ r.newer other block none;
  head = λ block is. puts.head block ∙ r.head block is;
}
  where
    metas_tree : (a b : Node) → map (λ (k : Kept). k.meta) a.layers ≡ map (λ (k : Kept). k.meta) b.layers → tree_of a ≡ tree_of b
    metas_tree a b same = sym (through a.layers) ∙ ap (map snapshot_of) same ∙ through b.layers
      where
        through : (ks : List Kept) → map snapshot_of (map (λ (k : Kept). k.meta) ks) ≡ told ks
        through [] = refl
        through (k ∷ ks) = ap (λ (ss : List Snapshot). snapshot_of k.meta ∷ ss) (through ks)

    was : (other : List ℕ) (block : ℕ) → after_listed other (block / 512) ≡ true
        → ((bytes_eq other name && is_in page block) ≡ true → ⊥) → is_listed other (block / 512) ≡ true
    was other block c not = ⊎_elim (λ b. b) (λ e. absurd (not (both e.0 e.1))) (lists other (block / 512) c)
      where
        both : other ≡ name → block / 512 ≡ page → (bytes_eq other name && is_in page block) ≡ true
        both e f = ap (λ b. b && is_in page block) (ap (bytes_eq other) (sym e) ∙ same_name other) ∙ is_in-same page block f

    go : (other : List ℕ) (block : ℕ) (b c : Bool) → bytes_eq other name ≡ b → is_in page block ≡ c
        → (((bytes_eq other name && is_in page block) ≡ true → ⊥)
        → block_named target.layers other block ≡ block_named source.layers other block)
        → put_block target.layers name page table other block ≡ block_named source.layers other block
    go other block true true e f rest =
        let same : other ≡ name = (bytes_eq-Decides other name).0 e in
        let here : block / 512 ≡ page = in_page f in
        let place : page * 512 + block % 512 ≡ block = omega (arith, here) in
        cond_true (bytes_eq other name && is_in page block) (place_at table (block % 512))
        (block_named target.layers other block) (ap (λ x. x && is_in page block) e ∙ f)
        ∙ of (block % 512) (omega arith)
        ∙ ap (λ k. block_named source.layers name k) place
        ∙ ap (λ n. block_named source.layers n block) (sym same)
      where
        in_page : is_in page block ≡ true → block / 512 ≡ page
        in_page is = ⊎_elim (λ e. e) (λ n. absurd (false≢true (sym (is_in-other page block n) ∙ is))) (cases_eq (block / 512) page)
    go other block true false e f rest =
        let no : (bytes_eq other name && is_in page block) ≡ false = ap (λ x. x && is_in page block) e ∙ f in
        cond_false (bytes_eq other name && is_in page block) (place_at table (block % 512)) (block_named target.layers other block) no
        ∙ rest (λ yes. false≢true (sym no ∙ yes))
    go other block false c e f rest =
        let no : (bytes_eq other name && is_in page block) ≡ false = ap (λ x. x && is_in page block) e in
        cond_false (bytes_eq other name && is_in page block) (place_at table (block % 512)) (block_named target.layers other block) no
        ∙ rest (λ yes. false≢true (sym no ∙ yes))

-- ---- the barrier, and a snapshot

pub none_own : (n : ℕ) (disk : List ℕ) (block : ℕ) → own_block disk (replicate n false) block ≡ None
none_own n disk block = cond_false (has_own (replicate n false) block) (Some (block_of disk block)) None (no n block)
  where
    no : (m k : ℕ) → get_or (replicate m false) k false ≡ false
    no zero k = refl
    no (suc m) zero = refl
    no (suc m) (suc k) = no m k

emptied_told : (ks : List Kept) → told (map emptied_layer ks) ≡ told ks
emptied_told [] = refl
emptied_told (k ∷ ks) = ap (λ (ss : List Snapshot). snapshot_of k.meta ∷ ss) (emptied_told ks)

-- a name that is not among those of the layers
no_layer : (ks : List Kept) (name : List ℕ) (block : ℕ) → (Contains (map (λ (k : Kept). k.meta.name) ks) name → ⊥)
    → block_named ks name block ≡ None
no_layer [] name block none = refl
no_layer (k ∷ ks) name block none =
    cond_false (bytes_eq name k.meta.name) (own_block k.disk k.own block) (block_named ks name block)
    (other_name name k.meta.name (λ e. none (0, omega arith, e)))
    ∙ no_layer ks name block (λ c. none (suc c.0, omega (arith, c.1), c.2))

same_names : (ks : List Kept) → map (λ (k : Kept). k.meta.name) (map emptied_layer ks) ≡ map (λ (k : Kept). k.meta.name) ks
same_names [] = refl
same_names (k ∷ ks) = ap (λ (ns : List (List ℕ)). k.meta.name ∷ ns) (same_names ks)

pub rebuild_begins : (frozen : List (List ℕ)) (is_listed : List ℕ → ℕ → Bool) (Free : ℕ → Type 0) (source : Node) (name : List ℕ)
    → ((n : List ℕ) → Contains (layer_names (snapped_node source name).layers) n → Contains frozen n) → HasNoPage is_listed
    → IsRebuilt frozen is_listed Free (snapped_node source name) (snapped_node (emptied source) name)
rebuild_begins frozen is_listed Free source name all bare = record {
  alike = same_snapshots (snapped_node (emptied source) name) (snapped_node source name)
      (ap (λ (ss : List Snapshot). record { name = name; parent = source.on; marked = false } ∷ ss) (emptied_told source.layers)) refl refl;
  listed = λ other block f c. absurd (bare other (block / 512) c);
  newer = λ other block none.
      no_layer (snapped_node (emptied source) name).layers other block
      (λ c. none (all other (subst (λ (ns : List (List ℕ)). Contains (name ∷ ns) other) (same_names source.layers) c)))
      ∙ sym (no_layer (snapped_node source name).layers other block (λ c. none (all other c)));
  head = λ block is. none_own (length (no_own source)) (emptied source).disk block ∙ sym (none_own (length source.own) source.disk block);
}

pub snapshot_keeps : (frozen : List (List ℕ)) (is_listed : List ℕ → ℕ → Bool) (Free : ℕ → Type 0) (source target : Node)
    (name : List ℕ) → ((block : ℕ) → Free block)
    → IsRebuilt frozen is_listed Free source target → IsRebuilt frozen is_listed Free (snapped_node source name) (snapped_node target name)
snapshot_keeps frozen is_listed Free source target name calm r = record {
  alike = same_snapshots (snapped_node target name) (snapped_node source name)
      (both (ap (λ s. s.on) r.alike) (ap (λ s. s.tree) r.alike)) refl (ap (λ s. s.number + 1) r.alike);
  listed = λ other block f c. step other block (r.listed other block f c);
  newer = λ other block none. step other block (r.newer other block none);
  head = λ block is. none_own (length target.own) target.disk block ∙ sym (none_own (length source.own) source.disk block);
}
  where
    both : target.on ≡ source.on → tree_of target ≡ tree_of source → tree_of (snapped_node target name) ≡ tree_of (snapped_node source name)
    both p q = cc

    step : (other : List ℕ) (block : ℕ) → block_named target.layers other block ≡ block_named source.layers other block
        → block_named (snapped_node target name).layers other block ≡ block_named (snapped_node source name).layers other block
    step other block same = ap (λ o. cond (bytes_eq other name) o (block_named target.layers other block)) (r.head block (calm block))
        ∙ ap (λ o. cond (bytes_eq other name) (head_block source block) o) same

-- ---- other heads

-- the same layers and snapshots with other blocks of the heads
pub head_keeps : (frozen : List (List ℕ)) (is_listed : List ℕ → ℕ → Bool) (Free After : ℕ → Type 0) (source target s t : Node)
    → s.layers ≡ source.layers → s.on ≡ source.on → s.number ≡ source.number → t.layers ≡ target.layers → t.on ≡ target.on
    → t.number ≡ target.number
    → ((block : ℕ) → After block → head_block t block ≡ head_block s block)
    → IsRebuilt frozen is_listed Free source target → IsRebuilt frozen is_listed After s t
head_keeps frozen is_listed Free After source target s t sl so sn tl to tn heads_same r = record {
  alike = same_snapshots t s (ap told tl ∙ ap (λ x. x.tree) r.alike ∙ sym (ap told sl))
      (to ∙ ap (λ x. x.on) r.alike ∙ sym so) (tn ∙ ap (λ x. x.number) r.alike ∙ sym sn);
  listed = λ name block f c. layers name block (r.listed name block f c);
  newer = λ name block none. layers name block (r.newer name block none);
  head = heads_same;
}
  where
    layers : (name : List ℕ) (block : ℕ) → block_named target.layers name block ≡ block_named source.layers name block
        → block_named t.layers name block ≡ block_named s.layers name block
    layers name block same = ap (λ (ks : List Kept). block_named ks name block) tl ∙ same
        ∙ sym (ap (λ (ks : List Kept). block_named ks name block) sl)
