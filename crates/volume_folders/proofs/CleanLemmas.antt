-- A folder that is refused is not clean.
use Rattle.std.proofs.Common.{inl, inr, ℕ, ◌<◌, List, length, map, Option, Some, None, sym, subst}
use Rattle.shelf_traits.specs.Files.{Files}
use Rattle.folder_names.specs.Files.{Folder}
use Rattle.replica_node.specs.Node.{Node}
use Rattle.folder_laws.proofs.FitLemmas.{fit}
use Rattle.folder_laws.proofs.OpensLemmas.{unflagged, undamaged}
use Rattle.volume_folders.specs.declared.reason.Reason.{Reason}
use Rattle.volume_folders.specs.declared.reason.Reason.TheVariants as reason
use Rattle.volume_folders.specs.Reasons.{reason_at}
use Rattle.volume_folders.specs.Opened.{IsCleanOf, IsClean, IsRefusedFor, IsToldRefused, NoneIsClean, AreOpened}
use Rattle.volume_folders.proofs.SoundLemmas.{sound_node}

at_size : (folder : Folder) (node : Node) (why : Reason) → IsCleanOf folder (length node.disk) node
    → IsRefusedFor folder (length node.disk) why → ⊥
at_size folder node (reason.Unclean flag) clean refused =
    unflagged folder clean.stamps node refused.0 flag clean.is refused.1 refused.2
at_size folder node (reason.Damaged damage) clean (inl fault) =
    undamaged folder clean.stamps node clean.sound.count _ _ (sound_node node clean.sound) clean.is fault
at_size folder node (reason.Damaged damage) clean (inr misfit) =
    fit folder clean.stamps node clean.sound.count _ _ (sound_node node clean.sound) clean.is clean.earlier misfit
at_size folder node (reason.Differs how) clean refused = refused

pub refused_of : (folder : Folder) (size : ℕ) (why : Reason) (node : Node) → IsRefusedFor folder size why
    → IsCleanOf folder size node → ⊥
refused_of folder size why node refused clean =
    at_size folder node why (subst (λ n. IsCleanOf folder n node) (sym clean.size_is) clean)
    (subst (λ n. IsRefusedFor folder n why) (sym clean.size_is) refused)

pub told_refused_of : (folder : Folder) (size : ℕ) (why : Option Reason) (node : Node) → IsToldRefused folder size why
    → IsCleanOf folder size node → ⊥
told_refused_of folder size None node refused clean = refused
told_refused_of folder size (Some why) node refused clean = refused_of folder size why node refused clean

pub none_of : (files : Files) (size r : ℕ) (reasons : List Reason) → NoneIsClean files size reasons → r < length reasons
    → IsClean (files r) size → ⊥
none_of files size r reasons none within clean =
    told_refused_of (files r) size (reason_at (map Some reasons) r) clean.0 (none r within) clean.1

pub before_of : (files : Files) (size r source : ℕ) (nodes : List Node) (reasons : List (Option Reason))
    → AreOpened files size nodes reasons source → r < source → IsClean (files r) size → ⊥
before_of files size r source nodes reasons opened less clean =
    told_refused_of (files r) size (reason_at reasons r) clean.0 (opened.before r less) clean.1
