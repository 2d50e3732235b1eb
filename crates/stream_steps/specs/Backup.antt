-- What the core's steps of a backup say to the stream for which they are taken.
use Rattle.std.specs.Prelude.{◌≡◌, ◌≢◌, ℕ, ◌*◌, List, Contains, Option, None, Some, IsSome, IfSome}
use Rattle.vol_units.specs.Bytes.{bytes_at}
use Rattle.vol_units.specs.declared.size.TheConstants.{PAGE_BYTES}
use Rattle.volume_model.specs.declared.command.Command.TheVariants as command
use Rattle.volume_model.specs.declared.call.Call.{Call}
use Rattle.volume_model.specs.declared.call.Refusal.{Refusal}
use Rattle.volume_model.specs.declared.call.Refusal.TheVariants as refusal
use Rattle.volume_model.specs.declared.call.Reply.{Reply}
use Rattle.volume_model.specs.declared.call.Reply.TheVariants as reply
use Rattle.volume_model.specs.declared.mode.Mode.{Mode}
use Rattle.volume_model.specs.declared.mode.Mode.TheVariants.{Rw}
use Rattle.volume_model.specs.Copies.{IsCopyOf}
use Rattle.volume_model.specs.History.{Spot}
use Rattle.volume_model.specs.Modes.{mode_of, HasSource}
use Rattle.volume_model.specs.OneWorker.{Against, refused_by}
use Rattle.volume_model.specs.PlainStep.{refusal_of}
use Rattle.step_answers.specs.declared.answers.NotThis.{NotThis}
use Rattle.step_answers.specs.declared.answers.NotThis.TheVariants as against
use Rattle.stream_steps.specs.Mine.{Mine, OwnCall, Placed}
use Rattle.stream_steps.specs.Maint.{HasTurn, AnswersWhole}

-- the backup of that snapshot is the stream's open call: it has the turn
abbrev pub HasBackup : ℕ → List ℕ → List ℕ → OwnCall → Mine → Type 0
HasBackup t backup snapshot o m = HasTurn t (command.Backup backup snapshot) o m

-- of the backup that is
abbrev pub ForBackup : ℕ → Mine → (List ℕ → List ℕ → OwnCall → Type 0) → Type 0
ForBackup t m fact = (backup snapshot : List ℕ) (o : OwnCall) → HasBackup t backup snapshot o m → fact backup snapshot o

-- ---- copies

-- each snapshot that could be used can be used still, and has the copy that it had
abbrev pub KeepsCopies : (List ℕ → Option (List ℕ)) → (List ℕ → Option (List ℕ)) → Type 0
KeepsCopies copies copies2 = (name disk : List ℕ) → copies name ≡ Some disk → copies2 name ≡ Some disk

-- each that can be used now has the copy that it had where an entry of the stream stands, if it could be used there
abbrev pub KeepsTold : Mine → (List ℕ → Option (List ℕ)) → Type 0
KeepsTold m copies = (p : Placed) → Contains m.entries p → (name disk : List ℕ) → IsCopyOf p.spot.state.volume name disk
    → IfSome (copies name) (λ now. now ≡ disk)

-- ---- a page

-- these are the bytes of that page of the copy, and the replica is read
pub record GivesPage (modes : List Mode) (r : ℕ) (copy : Option (List ℕ)) (page : ℕ) (given : List ℕ) : Type 0 where
  pub read : mode_of modes r ≡ Rw
  pub bytes : IfSome copy (λ disk. given ≡ bytes_at disk (page * PAGE_BYTES) PAGE_BYTES)

-- the replica does not give it: it is not read
abbrev pub AgainstGiving : List Mode → ℕ → NotThis → Type 0
AgainstGiving modes r (against.Mode mode) = (mode ≡ mode_of modes r) × (mode ≢ Rw)
AgainstGiving modes r why = ⊥

-- ---- its end

-- The call may be answered so there: as the volume, the store or the replicas stand against it, whatever the store tells,
-- and that it is done where the volume does not.
abbrev pub MayEndBackup : Spot → Call → Reply → Type 0
MayEndBackup spot c (reply.Refused why) = (told : Option Against) × (refused_by told spot c ≡ Some why)
MayEndBackup spot c reply.Done = refusal_of spot.modes spot.state c ≡ None
MayEndBackup spot c r = ⊥

-- It is answered so, as it may be there. If its snapshot could be used, the answer stands where that has its copy.
pub record EndsBackup (snapshot : List ℕ) (o : OwnCall) (r : Reply) (copies : List ℕ → Option (List ℕ)) (m m2 : Mine)
    : Type 0 where
  pub answers : AnswersWhole o r m m2
  pub may : MayEndBackup answers.spot o.call r
  pub copy : (disk : List ℕ) → copies snapshot ≡ Some disk → IsCopyOf answers.spot.state.volume snapshot disk

-- it is not answered that the snapshot cannot be used, since it can; nor that there is no replica, since one is read; and
-- nothing else, since the snapshot cannot be used
abbrev pub AgainstRefusal : Refusal → Option (List ℕ) → List Mode → Type 0
AgainstRefusal refusal.NoSuchSnapshot copy modes = IsSome copy
AgainstRefusal refusal.NoReplica copy modes = IsSome copy → HasSource modes
AgainstRefusal refusal.BackupExists copy modes = copy ≡ None
AgainstRefusal refusal.BlockDiffers copy modes = copy ≡ None
AgainstRefusal refusal.TargetFault copy modes = copy ≡ None
AgainstRefusal why copy modes = Unit {0}

abbrev pub RefusesEndBackup : List ℕ → Reply → (List ℕ → Option (List ℕ)) → List Mode → Type 0
RefusesEndBackup snapshot (reply.Refused why) copies modes = AgainstRefusal why (copies snapshot) modes
RefusesEndBackup snapshot reply.Done copies modes = copies snapshot ≡ None
RefusesEndBackup snapshot r copies modes = Unit {0}
