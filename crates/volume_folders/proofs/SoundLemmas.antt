-- What each replica keeps, as the laws on folders take it.
use Rattle.std.proofs.Common.{◌≡◌, ℕ, ◌*◌, List, [], ◌∷◌, length, map, ap, sym, ◌∙◌, refl, arith}
use Rattle.std.specs.Prelude.{All, ◌||◌, false}
use Rattle.std.proofs.lemmas.List.Elements.{All-nil, All-cons}
use Rattle.volume_model.specs.Names.{has_name, NamesOnce}
use Rattle.volume_model.specs.Snapshots.{Snapshot}
use Rattle.layer_chain.specs.Layers.{HasNo}
use Rattle.coalesce.specs.Folding.{snapshot_of}
use Rattle.coalesce.proofs.ChildLemmas.{other_name}
use Rattle.replica_node.specs.Node.{Node, Kept}
use Rattle.replica_node.specs.Held.{AreChained}
use Rattle.replica_node.specs.Shape.{AreLayers}
use Rattle.folder_laws.proofs.NodeLemmas.{IsSoundNode}
use Rattle.folder_laws.proofs.PairLemmas.{IsSound}
use Rattle.volume_folders.specs.Sound.{IsSoundReplica}

abbrev told : List Kept → List Snapshot
told ks = map (λ k. snapshot_of k.meta) ks

-- a name that no layer has is no snapshot's
no_name : (n : List ℕ) (ks : List Kept) → HasNo (λ (k : Kept). k.meta.name) (λ (k : Kept). k.meta.parent) n ks
    → has_name (told ks) n ≡ false
no_name n [] none = refl
no_name n (k ∷ ks) none = ap (λ b. b || has_name (told ks) n) (other_name n k.meta.name none.0) ∙ no_name n ks none.1

pub names_once : (ks : List Kept) → AreLayers ks → NamesOnce (told ks)
names_once [] tree = tt
names_once (k ∷ ks) tree = (no_name k.meta.name ks tree.0, names_once ks tree.2)

-- each layer has so many blocks
own_lengths : (ks : List Kept) (count : ℕ) → AreChained ks count → All (λ (k : Kept). length k.own ≡ count) ks
own_lengths [] count chained = All-nil (λ (k : Kept). length k.own ≡ count)
own_lengths (k ∷ ks) count chained =
    All-cons (λ (k : Kept). length k.own ≡ count) k ks chained.0.blocks (own_lengths ks count chained.1)

disk_lengths : (ks : List Kept) (count size : ℕ) → count * 4096 ≡ size → AreChained ks count
    → All (λ (k : Kept). length k.disk ≡ size) ks
disk_lengths [] count size is chained = All-nil (λ (k : Kept). length k.disk ≡ size)
disk_lengths (k ∷ ks) count size is chained =
    All-cons (λ (k : Kept). length k.disk ≡ size) k ks (chained.0.size ∙ is) (disk_lengths ks count size is chained.1)

pub sound_pair : (node : Node) (sound : IsSoundReplica node) → IsSound node sound.count
sound_pair node sound =
    let size = sound.chained.head.size in
    record {
      once = names_once node.layers sound.tree;
      small = omega (arith, size, sound.most);
      size = sym size;
      own = own_lengths node.layers sound.count sound.chained.layers;
      chained = sound.chained;
    }

pub sound_node : (node : Node) (sound : IsSoundReplica node) → IsSoundNode node sound.count
sound_node node sound =
    let size = sound.chained.head.size in
    record {
      few = omega (arith, sound.few);
      small = omega (arith, size, sound.most);
      size = sym size;
      own = own_lengths node.layers sound.count sound.chained.layers;
      disks = disk_lengths node.layers sound.count (length node.disk) (sym size) sound.chained.layers;
      head_own = sound.chained.head.blocks;
      head_kept = sound.on;
      layers = sound.tree;
    }
