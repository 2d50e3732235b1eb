-- Two openings of the same folders.
use Rattle.std.proofs.Common.{◌≡◌, ℕ, List, Option, sym, ap, ◌∙◌}
use Rattle.volume_model.specs.declared.mode.Mode.{Mode}
use Rattle.volume_model.specs.History.{Spot}
use Rattle.volume_model.specs.Names.{names_in}
use Rattle.volume_model.specs.PlainState.{Volume}
use Rattle.shelf_traits.specs.Files.{Files}
use Rattle.replica_node.specs.Node.{Node}
use Rattle.replica_node.specs.Volume.{volume_of_node}
use Rattle.open_calls.specs.Calls.{node_at}
use Rattle.volume_folders.specs.declared.reason.Reason.{Reason}
use Rattle.volume_folders.specs.Opened.{AreOpened, AreKnownOpened}
use Rattle.volume_folders.proofs.TwiceLemmas.{are_one}
use Rattle.opened_world.specs.Names.{names_of}
use Rattle.opened_world.specs.Opening.{disk_of, opened_spot}
use Rattle.opened_world.proofs.OpensLemmas.{disk_is}

-- ---- one spot

abbrev spot_with : Volume → List Mode → Spot
spot_with volume modes =
    record { state = record { volume = volume; used = names_in (names_of volume.snapshots.tree) }; modes = modes }

same_spot : {v w : Volume} {ms ns : List Mode} → v ≡ w → ms ≡ ns → spot_with v ms ≡ spot_with w ns
same_spot a b = cc

pub begin_alike : (files : Files) (size replicas source other : ℕ) (nodes others : List Node) (reasons told : List (Option Reason))
    → AreOpened files size nodes reasons source → AreKnownOpened size replicas nodes reasons source
    → AreOpened files size others told other → AreKnownOpened size replicas others told other
    → opened_spot others told ≡ opened_spot nodes reasons
begin_alike files size replicas source other nodes others reasons told x known y also =
    let one = are_one files size replicas source other nodes others reasons told x known y also in
    same_spot
    (ap volume_of_node (disk_is size replicas other others told also) ∙ one.volume
    ∙ sym (ap volume_of_node (disk_is size replicas source nodes reasons known)))
    one.modes
