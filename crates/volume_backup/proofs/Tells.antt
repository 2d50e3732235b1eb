-- What a replica tells of a name, beside a volume that has the same snapshots and copies, or has them but for one.
use Rattle.std.proofs.Common.{◌≡◌, true, false, cond, List, ℕ, ◌∷◌, refl, sym, ap, ◌∙◌}
use Rattle.std.specs.Prelude.{Some}
use Rattle.std.specs.Str.{bytes_eq}
use Rattle.volume_model.specs.PlainState.{Copy, Volume, snapped, copy_of}
use Rattle.volume_model.specs.Snapshots.{Snapshot, Snapshots, is_live}
use Rattle.replica_node.specs.Node.{Node, disk_named, snapped_node}
use Rattle.replica_node.specs.Fold.{tree_of, snapshots_of}
use Rattle.replica_node.specs.Volume.{copies_in}
use Rattle.replica_node.proofs.VolumeLemmas.{reverted_volume}
use Rattle.layer_pages.specs.Chains.{chain_in}

-- what the replica has under the name is what the volume has
pub record Tells (v : Volume) (n : Node) (name : List ℕ) : Type 0 where
  pub live : is_live (tree_of n) name ≡ is_live v.snapshots.tree name
  pub chain : chain_in (tree_of n) (Some name) ≡ chain_in v.snapshots.tree (Some name)
  pub copy : is_live v.snapshots.tree name ≡ true → disk_named n.layers name ≡ copy_of v.copies name

-- what a live layer reads as is its copy
live_disk : (n : Node) (name : List ℕ) → is_live (tree_of n) name ≡ true → disk_named n.layers name ≡ copy_of (copies_in n.layers) name
live_disk n name live = ap (λ (v : Volume). v.disk) (reverted_volume n name live)

pub tells_same : (v : Volume) (n : Node) (name : List ℕ) → snapshots_of n ≡ v.snapshots → copies_in n.layers ≡ v.copies → Tells v n name
tells_same v n name tree copies = record {
  live = ap (λ (x : Snapshots). is_live x.tree name) tree;
  chain = ap (λ (x : Snapshots). chain_in x.tree (Some name)) tree;
  copy = λ live. live_disk n name (ap (λ (x : Snapshots). is_live x.tree name) tree ∙ live)
      ∙ ap (λ (x : List Copy). copy_of x name) copies;
}

-- one that is newer, under another name, is none of the chain
skip : (tree : List Snapshot) (new : Snapshot) (name : List ℕ) → bytes_eq name new.name ≡ false
    → chain_in (new ∷ tree) (Some name) ≡ chain_in tree (Some name)
skip tree new name apart = rw apart refl

-- a snapshot of the volume more, under another name, tells nothing else
pub of_snapped_volume : (v : Volume) (n : Node) (name new : List ℕ) → bytes_eq name new ≡ false → Tells (snapped v new) n name
    → Tells v n name
of_snapped_volume v n name new apart t = record {
  live = t.live ∙ ap (λ b. cond b true (is_live v.snapshots.tree name)) apart;
  chain = t.chain ∙ skip v.snapshots.tree (record { name = new; parent = v.snapshots.on; marked = false }) name apart;
  copy = λ live. t.copy (ap (λ b. cond b true (is_live v.snapshots.tree name)) apart ∙ live)
      ∙ ap (λ b. cond b v.disk (copy_of v.copies name)) apart;
}

-- nor does one of the replica
pub of_snapped_node : (v : Volume) (n : Node) (name new : List ℕ) → bytes_eq name new ≡ false → Tells v (snapped_node n new) name
    → Tells v n name
of_snapped_node v n name new apart t = record {
  live = sym (ap (λ b. cond b true (is_live (tree_of n) name)) apart) ∙ t.live;
  chain = sym (skip (tree_of n) (record { name = new; parent = n.on; marked = false }) name apart) ∙ t.chain;
  copy = λ live. sym (ap (λ b. cond b n.disk (disk_named n.layers name)) apart) ∙ t.copy live;
}
