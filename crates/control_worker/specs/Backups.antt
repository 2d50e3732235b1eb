-- How a backup goes, from its turn to its answer.
use Rattle.std.specs.Prelude.{◌≡◌, ◌≢◌, ℕ, ◌≤◌, Bool, true, false, List, Contains, Option, None, Some, IsSome, IfSome}
use Rattle.std.specs.Prelude.{option_map, Result, Ok, Err, IfOk, IfErr}
use Rattle.outer_traits.specs.Causes.{one_more}
use Rattle.target_traits.specs.Objects.{Objects}
use Rattle.backup_units.specs.Backups.{IsBackup, KeepsBackups}
use Rattle.backup_units.specs.Names.{cfg_name}
use Rattle.backup_config.specs.Lists.{Listing}
use Rattle.backup_make.specs.declared.error.MakeError.{MakeError}
use Rattle.backup_make.specs.declared.error.MakeError.TheVariants as make_error
use Rattle.backup_make.specs.Made.{AnswersMake, HasCopyOf, OnlyBackup, is_refusal}
use Rattle.backup_make.specs.Making.{HoldsAnotherPage, IfDiffers, OnlyBlocks}
use Rattle.volume_model.specs.declared.call.Refusal.TheVariants.{NoSuchSnapshot, NoReplica, BackupExists, BlockDiffers, TargetFault}
use Rattle.volume_model.specs.declared.call.Reply.{Reply}
use Rattle.volume_model.specs.declared.call.Reply.TheVariants as reply
use Rattle.volume_model.specs.Copies.{IsCopyOf}
use Rattle.volume_model.specs.Modes.{HasSource}
use Rattle.volume_model.specs.PlainState.{copy_of}
use Rattle.stream_steps.specs.Mine.{Mine, OwnCall, Placed}
use Rattle.stream_steps.specs.Steps.{AreMarks}
use Rattle.stream_steps.specs.Maint.{AnswersWhole}
use Rattle.stream_steps.specs.Backup.{MayEndBackup}
use Rattle.control_worker.specs.declared.backup.Tried.{Tried}
use Rattle.control_worker.specs.declared.backup.Tried.TheVariants as tried
use Rattle.control_worker.specs.Whole.{GoesOn}

-- ---- the base

-- The list is that of a backup that an entry of the stream answered: of the copy that its snapshot had there.
pub record IsLast (tells : Bool) (objects : Objects) (volume : List ℕ) (entries : List Placed) (list : Listing) : Type 0 where
  pub disk : List ℕ
  pub at : Placed
  pub among : Contains entries at
  pub copy : IsCopyOf at.spot.state.volume list.snapshot disk
  pub backup : IsBackup tells objects volume disk list.blocks

-- its snapshot, where that can be used
abbrev pub base_in : (List ℕ → Option (List ℕ)) → Option Listing → Option (List ℕ)
base_in copies None = None
base_in copies (Some list) = option_map (λ copy. list.snapshot) (copies list.snapshot)

-- ---- a try

-- what a try is answered
abbrev pub reply_of : Tried → Reply
reply_of (tried.Made list) = reply.Done
reply_of (tried.Refused why) = reply.Refused why

-- what becomes of a backup that was made, or was not
abbrev pub IsTriedOf : Result Listing MakeError → Tried → Type 0
IsTriedOf (Ok list) t = t ≡ tried.Made list
IsTriedOf (Err make_error.Exists) t = t ≡ tried.Refused BackupExists
IsTriedOf (Err make_error.NoReplica) t = t ≡ tried.Refused NoReplica
IsTriedOf (Err (make_error.BlockDiffers c)) t = t ≡ tried.Refused BlockDiffers
IsTriedOf (Err make_error.TargetFault) t = t ≡ tried.Refused TargetFault
IsTriedOf (Err make_error.NoMemory) t = ⊥

-- what a backup of that copy that was made, or was not, has left of the target
pub record MakesOf (volume backup : List ℕ) (copy : Option (List ℕ)) (result : Result Listing MakeError) (old new : Objects)
    : Type 0 where
  pub has : IfOk result (λ list. HasCopyOf new volume backup copy)
  pub answer : AnswersMake (old (cfg_name volume backup)) result
  pub there : IsSome (old (cfg_name volume backup)) → new ≡ old
  pub keeps : KeepsBackups volume backup old new
  pub others : OnlyBackup volume backup old new
  pub unmade : IfErr result (λ e. is_refusal e ≡ true → OnlyBlocks volume old new)
  pub differs : IfErr result (IfDiffers (HoldsAnotherPage new volume copy))

-- a backup that is there may be answered so: that it exists, that the target failed, or that the snapshot cannot be used
abbrev pub MayBeThere : Reply → Type 0
MayBeThere (reply.Refused BackupExists) = Unit {0}
MayBeThere (reply.Refused TargetFault) = Unit {0}
MayBeThere (reply.Refused NoSuchSnapshot) = Unit {0}
MayBeThere r = ⊥

-- What an answer tells of the target that had that before and has this now. Only a backup that was made, and a target that
-- failed, leave more than blocks.
pub record StoreTells (volume backup : List ℕ) (copy : Option (List ℕ)) (r : Reply) (old new : Objects) : Type 0 where
  pub made : r ≡ reply.Done → HasCopyOf new volume backup copy
  pub exists : r ≡ reply.Refused BackupExists → IsSome (old (cfg_name volume backup))
  pub found : IsSome (old (cfg_name volume backup)) → MayBeThere r
  pub differs : r ≡ reply.Refused BlockDiffers → (checksum : List ℕ) × HoldsAnotherPage new volume copy checksum
  pub there : IsSome (old (cfg_name volume backup)) → new (cfg_name volume backup) ≡ old (cfg_name volume backup)
  pub keeps : KeepsBackups volume backup old new
  pub others : OnlyBackup volume backup old new
  pub unmade : r ≢ reply.Done → r ≢ reply.Refused TargetFault → OnlyBlocks volume old new

-- the count of the target's faults, by what was answered
abbrev pub count_for : Reply → ℕ → ℕ
count_for (reply.Refused TargetFault) before = one_more before
count_for r before = before

abbrev pub tells_fault : Reply → Bool
tells_fault (reply.Refused TargetFault) = true
tells_fault r = false

-- the snapshot can be used, unless it is told that it cannot
abbrev pub LiveFor : Reply → Option (List ℕ) → Type 0
LiveFor (reply.Refused NoSuchSnapshot) copy = Unit {0}
LiveFor r copy = IsSome copy

-- the list that was made is of that copy
abbrev pub IsListOf : Bool → Objects → List ℕ → List ℕ → Option (List ℕ) → Tried → Type 0
IsListOf tells objects volume snapshot copy (tried.Made list) =
    (list.snapshot ≡ snapshot) × ((disk : List ℕ) → copy ≡ Some disk → IsBackup tells objects volume disk list.blocks)
IsListOf tells objects volume snapshot copy (tried.Refused why) = Unit {0}

-- what was done for one try, where the snapshot has that copy
pub record Tries (tells : Bool) (volume backup snapshot : List ℕ) (copy : Option (List ℕ)) (t : Tried) (old new : Objects)
    (before now : ℕ) (m : Mine) : Type 0 where
  pub live : LiveFor (reply_of t) copy
  pub store : tells ≡ true → StoreTells volume backup copy (reply_of t) old new
  pub count : now ≡ count_for (reply_of t) before
  pub later : before ≤ now
  pub list : IsListOf tells new volume snapshot copy t
  pub source : reply_of t ≡ reply.Done → IfSome m.log (λ log. HasSource log.spot.modes)

-- the backup that a try made is the last, and else that before
abbrev pub last_of : Tried → Option Listing → Option Listing
last_of (tried.Made list) last = Some list
last_of (tried.Refused why) last = last

-- ---- its end

-- Lines of the stream failed, and then it was answered as it may be, by what the target told. Where no line failed, it is
-- done only where a replica is read.
pub record BacksUp (tells : Bool) (volume backup snapshot : List ℕ) (o : OwnCall) (failed : Bool) (old new : Objects)
    (before now : ℕ) (m m2 : Mine) : Type 0 where
  pub said : Reply
  pub mid : Mine
  pub goes : GoesOn m mid
  pub answers : AnswersWhole o said mid m2
  pub may : MayEndBackup answers.spot o.call said
  pub store : tells ≡ true
      → StoreTells volume backup (Some (copy_of answers.spot.state.volume.copies snapshot)) said old new
  pub count : now ≡ count_for said before
  pub later : before ≤ now
  pub failed_is : failed ≡ tells_fault said
  pub source : said ≡ reply.Done → IfSome m.log (λ log. AreMarks goes.marks → HasSource log.spot.modes)
