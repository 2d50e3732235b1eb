-- A replica of which all is copied agrees with the volume as its source does.
use Rattle.std.proofs.Common.{◌≡◌, ◌≢◌, ⊎_elim, ℕ, ◌-◌, ◌*◌, ◌/◌, ◌<◌, Bool, true, false, cond, List, [], ◌∷◌, length}
use Rattle.std.proofs.Common.{set, length-set, get_or, refl, sym, ap, subst, ◌∙◌, arith}
use Rattle.std.specs.Prelude.{◌||◌}
use Rattle.std.specs.Str.{bytes_eq}
use Rattle.std.proofs.lemmas.Bool.{cases_lt, false≢true}
use Rattle.std.proofs.lemmas.List.{get_or_past, length-replicate}
use Rattle.std.proofs.lemmas.Slice.Eq.{bytes_eq-Decides}
use Rattle.volume_model.specs.Names.{has_name, NamesOnce}
use Rattle.volume_model.specs.PlainState.{Copy, Volume}
use Rattle.volume_model.specs.Snapshots.{Snapshot}
use Rattle.volume_model.specs.Modes.{mode_of}
use Rattle.volume_model.specs.declared.mode.Mode.{Mode}
use Rattle.volume_model.specs.declared.mode.Mode.TheVariants.{Rw, Err}
use Rattle.range_turns.specs.declared.ticket.Ticket.{Ticket}
use Rattle.coalesce.specs.Folding.{snapshot_of}
use Rattle.coalesce.proofs.ChildLemmas.{same_name}
use Rattle.replica_node.specs.Node.{Kept, Node, disk_named, snapped_node}
use Rattle.replica_node.specs.Fold.{tree_of}
use Rattle.replica_node.specs.Held.{block_of, AreChained}
use Rattle.replica_node.specs.Volume.{copies_in}
use Rattle.open_calls.specs.Calls.{node_at}
use Rattle.open_calls.specs.Clients.{Agree, IsUnheld, byte_of}
use Rattle.open_calls.proofs.ListLemmas.{at_set}
use Rattle.open_rebuild.specs.Rebuild.{IsRebuilt, IsFreeBlock, IsAllCopied, ReadsAs, IsReplica}
use Rattle.open_rebuild.proofs.RebuildLemmas.{copied_reads, told, heads}
use Rattle.open_rebuild.proofs.WriteLemmas.{block_byte, same_disk}

-- the same layers with the same disks have the same copies
copies_same : (js ks : List Kept) (count : ℕ) → told js ≡ told ks → NamesOnce (told ks) → AreChained js count → AreChained ks count
    → ((n : List ℕ) (block : ℕ) → block < count → block_of (disk_named js n) block ≡ block_of (disk_named ks n) block)
    → copies_in js ≡ copies_in ks
copies_same [] [] count e once p q same = refl
copies_same [] (k ∷ ks) count e once p q same = absurd (cc)
copies_same (j ∷ js) [] count e once p q same = absurd (cc)
copies_same (j ∷ js) (k ∷ ks) count e once p q same =
    let h = heads j k js ks e in
    let disk : j.disk ≡ k.disk = same_disk j.disk k.disk count p.0.size q.0.size (λ block inside.
    sym (ap (λ b. block_of (cond b j.disk (disk_named js k.meta.name)) block) (ap (bytes_eq k.meta.name) h.0 ∙ same_name k.meta.name))
    ∙ same k.meta.name block inside
    ∙ ap (λ b. block_of (cond b k.disk (disk_named ks k.meta.name)) block) (same_name k.meta.name)) in
    one h.0 (marks e) disk (copies_same js ks count h.2 once.1 p.1 q.1 (behind h.0 h.2))
  where
    marks : told (j ∷ js) ≡ told (k ∷ ks) → j.meta.marked ≡ k.meta.marked
    marks f = ap (λ (s : Snapshot). s.marked) (first f)
      where
        first : told (j ∷ js) ≡ told (k ∷ ks) → snapshot_of j.meta ≡ snapshot_of k.meta
        first g = cc

    one : j.meta.name ≡ k.meta.name → j.meta.marked ≡ k.meta.marked → j.disk ≡ k.disk → copies_in js ≡ copies_in ks
        → copies_in (j ∷ js) ≡ copies_in (k ∷ ks)
    one a b c d = ap (λ m. cond m (copies_in js) (record { name = j.meta.name; disk = j.disk } ∷ copies_in js)) b
        ∙ ap (λ (l : List Copy). cond k.meta.marked l (record { name = j.meta.name; disk = j.disk } ∷ l)) d
        ∙ ap (λ (y : Copy). cond k.meta.marked (copies_in ks) (y ∷ copies_in ks)) (copy a c)
      where
        make : List ℕ → List ℕ → Copy
        make n d = record { name = n; disk = d }

        copy : j.meta.name ≡ k.meta.name → j.disk ≡ k.disk → make j.meta.name j.disk ≡ make k.meta.name k.disk
        copy x y = cc

    behind : j.meta.name ≡ k.meta.name → told js ≡ told ks → (n : List ℕ) (block : ℕ) → block < count
        → block_of (disk_named js n) block ≡ block_of (disk_named ks n) block
    behind a t n block inside = go (bytes_eq n k.meta.name) refl
      where
        gone : (ls : List Kept) → has_name (told ls) n ≡ false → disk_named ls n ≡ []
        gone [] f = refl
        gone (l ∷ ls) f = step (bytes_eq n l.meta.name) (λ g. gone ls g) f
          where
            step : (b : Bool) → (has_name (told ls) n ≡ false → disk_named ls n ≡ []) → (b || has_name (told ls) n) ≡ false
                → cond b l.disk (disk_named ls n) ≡ []
            step true rest f = absurd (false≢true (sym f))
            step false rest f = rest f

        go : (b : Bool) → bytes_eq n k.meta.name ≡ b → block_of (disk_named js n) block ≡ block_of (disk_named ks n) block
        go true is =
            let none : has_name (told ks) n ≡ false = ap (has_name (told ks)) ((bytes_eq-Decides n k.meta.name).0 is) ∙ once.0 in
            ap (λ d. block_of d block) (gone js (ap (λ (ss : List Snapshot). has_name ss n) t ∙ none) ∙ sym (gone ks none))
        go false is =
            sym (ap (λ b. block_of (cond b j.disk (disk_named js n)) block) (ap (bytes_eq n) a ∙ is))
            ∙ same n block inside
            ∙ ap (λ b. block_of (cond b k.disk (disk_named ks n)) block) is

-- ---- promotion

module _ (count : ℕ) (frozen : List (List ℕ)) (is_listed : List ℕ → ℕ → Bool) (Free : ℕ → Type 0) (source target : Node)
    (s : IsReplica source count) (t : IsReplica target count) (r : IsRebuilt frozen is_listed Free source target)
    (all : IsAllCopied count frozen is_listed) where
  abbrev reads : ReadsAs count Free source target
  reads = copied_reads count frozen is_listed Free source target s t r all

  pub same_copies : copies_in target.layers ≡ copies_in source.layers
  same_copies = copies_same target.layers source.layers count (ap (λ x. x.tree) r.alike) s.once t.chained.layers
      s.chained.layers reads.layers

  pub same_byte : (k : ℕ) → Free (k / 4096) → byte_of target.disk k ≡ byte_of source.disk k
  same_byte k free = ⊎_elim
      (λ h.
      let block : k / 4096 < count = omega (arith, h, t.chained.head.size) in
      block_byte target.disk count k t.chained.head.size h
      ∙ ap (λ d. get_or d (k - k / 4096 * 4096) 0) (reads.head (k / 4096) block free)
      ∙ sym (block_byte source.disk count k s.chained.head.size (omega (arith, h, t.chained.head.size, s.chained.head.size))))
      (λ past. get_or_past target.disk k 0 past
      ∙ sym (get_or_past source.disk k 0 (omega (arith, past, t.chained.head.size, s.chained.head.size))))
      (cases_lt k (length target.disk))

-- where no write holds a byte, none holds its block
unheld_block : (tickets : List Ticket) (k : ℕ) → IsUnheld tickets k → IsFreeBlock tickets (k / 4096)
unheld_block tickets k free i h w from =
    let until = free i h w (omega (arith, from)) in
    omega (arith, until)

-- the replica at r is read and written from now on
pub promoted_agree : (count : ℕ) (frozen : List (List ℕ)) (is_listed : List ℕ → ℕ → Bool) (volume : Volume) (size : ℕ)
    (modes : List Mode) (tickets : List Ticket) (nodes : List Node) (s r : ℕ)
    → Agree volume size modes tickets nodes → mode_of modes s ≡ Rw → r < length modes → mode_of modes r ≢ Err
    → IsReplica (node_at nodes s) count → IsReplica (node_at nodes r) count
    → IsRebuilt frozen is_listed (IsFreeBlock tickets) (node_at nodes s) (node_at nodes r) → IsAllCopied count frozen is_listed
    → Agree volume size (set modes r Rw) tickets nodes
promoted_agree count frozen is_listed volume size modes tickets nodes s r a read inside up source target rebuilt all = record {
  disk = a.disk;
  as_many = length-set modes r Rw ∙ a.as_many;
  sizes = λ q n. a.sizes q (up_after q n);
  tree = λ q n. a.tree q (up_after q n);
  copies = λ q e. at_set (λ (m : Mode). m ≡ Rw → copies_in (node_at nodes q).layers ≡ volume.copies) modes r q Rw Err inside
      (λ same _. subst (λ n. copies_in (node_at nodes n).layers ≡ volume.copies) (sym same)
      (same_copies count frozen is_listed (IsFreeBlock tickets) (node_at nodes s) (node_at nodes r) source target rebuilt
      all ∙ a.copies s read))
      (λ _ f. a.copies q f) e;
  bytes = λ q k e. at_set (λ (m : Mode). m ≡ Rw → IsUnheld tickets k
      → byte_of (node_at nodes q).disk k ≡ byte_of volume.disk k) modes r q Rw Err inside
      (λ same _ free. subst (λ n. byte_of (node_at nodes n).disk k ≡ byte_of volume.disk k) (sym same)
      (same_byte count frozen is_listed (IsFreeBlock tickets) (node_at nodes s) (node_at nodes r) source target rebuilt all
      k (unheld_block tickets k free) ∙ a.bytes s k read free))
      (λ _ f. a.bytes q k f) e;
}
  where
    up_after : (q : ℕ) → mode_of (set modes r Rw) q ≢ Err → mode_of modes q ≢ Err
    up_after q = at_set (λ (m : Mode). m ≢ Err → mode_of modes q ≢ Err) modes r q Rw Err inside
        (λ same _. subst (λ n. mode_of modes n ≢ Err) (sym same) up) (λ _ n. n)

-- ---- a replica in due form of a snapshot

pub replica_snapped_node : (node : Node) (count : ℕ) (name : List ℕ) → has_name (tree_of node) name ≡ false
    → IsReplica node count → IsReplica (snapped_node node name) count
replica_snapped_node node count name new r = record {
  chained = record {
    layers = (r.chained.head, r.chained.layers);
    head = record {
      size = r.chained.head.size;
      blocks = length-replicate (length node.own) false ∙ r.chained.head.blocks;
      below = λ block inside none. sym (ap (λ b. block_of (cond b node.disk (disk_named node.layers name)) block) (same_name name));
    };
  };
  once = (new, r.once);
}
