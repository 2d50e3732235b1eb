-- Replicas that are alike.
use Rattle.std.proofs.Common.{◌≡◌, ℕ, false, Some, None, refl, ap, ◌∙◌, ⊎_elim}
use Rattle.folder_names.specs.Files.{Folder}
use Rattle.replica_node.specs.Node.{Node}
use Rattle.replica_node.specs.Held.{block_of}
use Rattle.replica_node.specs.Volume.{volume_of_node}
use Rattle.replica_compare.specs.Comparing.{AreAlike, IsFirstDifference}
use Rattle.replica_compare.specs.Order.{IsInOrder}
use Rattle.replica_compare.specs.declared.comparing.Difference.{Difference}
use Rattle.replica_compare.specs.declared.comparing.Difference.TheVariants as difference
use Rattle.replica_compare.proofs.ShapeLemmas.{kept_other}
use Rattle.replica_compare.proofs.OrderLemmas.{one_tree, one_reading, one_volume}
use Rattle.folder_laws.proofs.PairLemmas.{one_folder}
use Rattle.volume_folders.specs.Sound.{IsSoundReplica}
use Rattle.volume_folders.specs.Opened.{IsCleanOf}
use Rattle.volume_folders.proofs.SoundLemmas.{names_once, sound_pair}

pub alike_itself : (a : Node) → AreAlike a a
alike_itself a = record {
  shape = record { layers = λ name. refl; on = refl; number = refl; size = refl };
  readings = λ layer kept. refl;
}

pub alike_then : (a b c : Node) → AreAlike a b → AreAlike b c → AreAlike a c
alike_then a b c x y = record {
  shape = record {
    layers = λ name. x.shape.layers name ∙ y.shape.layers name;
    on = x.shape.on ∙ y.shape.on;
    number = x.shape.number ∙ y.shape.number;
    size = x.shape.size ∙ y.shape.size;
  };
  readings = λ layer kept. x.readings layer kept ∙ y.readings layer (kept_other a b layer x.shape.layers kept);
}

-- replicas that differ are not alike
pub not_alike : (a b : Node) (how : Difference) → IsFirstDifference a b how → AreAlike a b → ⊥
not_alike a b (difference.Shape None) first alike =
    ⊎_elim (λ on. on alike.shape.on) (λ rest. ⊎_elim (λ n. n alike.shape.number) (λ s. s alike.shape.size) rest) first.1
not_alike a b (difference.Shape (Some name)) first alike = first.differs (alike.shape.layers name)
not_alike a b (difference.Reads layer block) first alike =
    first.reads.differs (ap (λ d. block_of d block) (alike.readings layer first.kept))

pub alike_volume : (a b : Node) → IsSoundReplica a → IsSoundReplica b → IsInOrder a → IsInOrder b → AreAlike a b
    → volume_of_node a ≡ volume_of_node b
alike_volume a b x y p q alike =
    let once = names_once a.layers x.tree in
    let other = names_once b.layers y.tree in
    one_volume a b (one_tree a b once other p q alike.shape.layers) (one_reading a b once other p q alike) alike

-- two replicas that one clean folder is
pub one_clean : (folder : Folder) (size : ℕ) (a b : Node) → IsCleanOf folder size a → IsCleanOf folder size b → AreAlike a b
one_clean folder size a b x y =
    (one_folder folder x.stamps y.stamps false false a b x.sound.count y.sound.count (sound_pair a x.sound) (sound_pair b y.sound)
    x.is y.is).0
