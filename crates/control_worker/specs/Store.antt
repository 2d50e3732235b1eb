-- What a stream's backups and the target that they go to have to do with each other, where the target tells what it holds.
use Rattle.std.specs.Prelude.{◌≡◌, ◌≢◌, ◌⊎◌, ℕ, ◌<◌, ◌≤◌, Bool, true, false, List, [], ◌∷◌, ◌++◌, Any, Some, IsSome, Option, None}
use Rattle.outer_traits.specs.Causes.{Rose, one_more}
use Rattle.target_traits.specs.Objects.{Objects}
use Rattle.backup_units.specs.Blocks.{KeepsBlocks}
use Rattle.backup_units.specs.Names.{block_name, cfg_name, volume_name}
use Rattle.backup_make.specs.Made.{HasBackup}
use Rattle.backup_make.specs.Making.{HoldsAnotherPage}
use Rattle.volume_model.specs.declared.call.Call.TheVariants as call
use Rattle.volume_model.specs.declared.call.Refusal.TheVariants.{BackupExists, BlockDiffers, TargetFault}
use Rattle.volume_model.specs.declared.call.Reply.{Reply}
use Rattle.volume_model.specs.declared.call.Reply.TheVariants as reply
use Rattle.volume_model.specs.declared.command.Command.{Command}
use Rattle.volume_model.specs.declared.command.Command.TheVariants as command
use Rattle.volume_model.specs.declared.entry.Entry.{Entry}
use Rattle.volume_model.specs.declared.entry.Entry.TheVariants as entry
use Rattle.volume_model.specs.declared.entry.Answer.{Answer}
use Rattle.volume_model.specs.History.{Spot}
use Rattle.volume_model.specs.OneWorker.{Against, Exists, Differs, Fails}
use Rattle.volume_model.specs.PlainState.{copy_of}
use Rattle.volume_model.specs.PlainStep.{refusal_of}
use Rattle.stream_steps.specs.Mine.{Placed, entries_in}

-- what the store has against a call that is answered so
abbrev pub told_by : Reply → Option Against
told_by (reply.Refused BackupExists) = Some Exists
told_by (reply.Refused BlockDiffers) = Some Differs
told_by (reply.Refused TargetFault) = Some Fails
told_by r = None

-- ---- which backups there are

-- the entry answers that the backup of that name was made
abbrev pub MakesBackup : List ℕ → Entry → Type 0
MakesBackup backup (entry.Answer a) =
    (snapshot : List ℕ) × (a.call ≡ call.Command (command.Backup backup snapshot)) × (a.reply ≡ reply.Done)
MakesBackup backup (entry.Mark m) = ⊥

-- there is one of the name behind these entries: the store had its cfg at first, or it was made since
abbrev pub IsThere : Objects → List ℕ → List Entry → List ℕ → Type 0
IsThere first volume before backup = IsSome (first (cfg_name volume backup)) ⊎ Any (MakesBackup backup) before

-- ---- what an answer tells

-- Of a backup that is answered so behind these entries, by a store that had that at first and has this now. One that was
-- made is of the copy that its snapshot had there. While the target has not failed it exists exactly where there was one.
pub record IsToldBy (first now : Objects) (volume : List ℕ) (well : Type 0) (before : List Entry) (spot : Spot)
    (backup snapshot : List ℕ) (r : Reply) : Type 0 where
  pub made : r ≡ reply.Done → HasBackup now volume backup (copy_of spot.state.volume.copies snapshot)
  pub exists : well → r ≡ reply.Refused BackupExists → IsThere first volume before backup
  pub there : refusal_of spot.modes spot.state (call.Command (command.Backup backup snapshot)) ≡ None
      → IsThere first volume before backup → (r ≡ reply.Refused BackupExists) ⊎ (r ≡ reply.Refused TargetFault)
  pub differs : r ≡ reply.Refused BlockDiffers
      → (checksum : List ℕ) × HoldsAnotherPage now volume (Some (copy_of spot.state.volume.copies snapshot)) checksum
  pub failed : r ≡ reply.Refused TargetFault → well → ⊥

-- the same of an entry, if it answers a backup
abbrev pub IsToldAt : Objects → Objects → List ℕ → Type 0 → List Entry → Placed → Type 0
IsToldAt first now volume well before p =
    (a : Answer) (backup snapshot : List ℕ) → p.entry ≡ entry.Answer a
    → a.call ≡ call.Command (command.Backup backup snapshot)
    → IsToldBy first now volume well before p.spot backup snapshot a.reply

-- of each of these, which stand behind those
abbrev pub AreToldFrom : Objects → Objects → List ℕ → Type 0 → List Entry → List Placed → Type 0
AreToldFrom first now volume well before [] = Unit {0}
AreToldFrom first now volume well before (p ∷ ps) =
    IsToldAt first now volume well before p × AreToldFrom first now volume well (before ++ p.entry ∷ []) ps

-- ---- what becomes of the target

-- objects that are neither blocks of the volume nor its cfg nor one of a backup of it hold what they held
abbrev pub OthersStay : List ℕ → Objects → Objects → Type 0
OthersStay volume first now = (name : List ℕ) → ((checksum : List ℕ) → name ≢ block_name volume checksum)
    → ((backup : List ℕ) → name ≢ cfg_name volume backup) → name ≢ volume_name volume → now name ≡ first name

-- the target has not failed since it had failed so often; a count at its type's end cannot show that
abbrev pub IsWell : ℕ → ℕ → Type 0
IsWell from count = count < one_more from

-- From what the target held at first, when it had failed so often, it has come to this, and to so many faults, behind these
-- entries of the stream. Each block stays that was held, and so does the cfg of each backup that was there.
pub record StoreSoFar (first : Objects) (from : ℕ) (now : Objects) (count : ℕ) (volume : List ℕ) (entries : List Placed)
    : Type 0 where
  pub told : AreToldFrom first now volume (IsWell from count) [] entries
  pub cfgs : IsWell from count → (backup : List ℕ) → IsSome (now (cfg_name volume backup))
      → IsThere first volume (entries_in entries) backup
  pub blocks : KeepsBlocks volume first now
  pub kept : (backup bytes : List ℕ) → first (cfg_name volume backup) ≡ Some bytes → now (cfg_name volume backup) ≡ Some bytes
  pub others : OthersStay volume first now
  pub later : from ≤ count

-- whether the target has failed, by its counts
abbrev pub TellsFault : Bool → ℕ → ℕ → Type 0
TellsFault true before now = Rose before now
TellsFault false before now = now ≡ before

-- the command asks nothing of a target
abbrev pub IsNoBackup : Command → Type 0
IsNoBackup (command.Backup backup snapshot) = ⊥
IsNoBackup c = Unit {0}
