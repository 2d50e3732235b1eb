-- How far a control stream's calls and marks have come, what stands behind a front of a journal that has come so far, and
-- what is left of it.
use Rattle.std.proofs.Common.{◌≡◌, ◌⊎◌, ℕ, ◌<◌, eqb, cond, List, [], ◌∷◌, ◌++◌, length, codes, All}
use Rattle.volume_model.specs.declared.command.Command.TheVariants as command
use Rattle.volume_model.specs.declared.call.Call.{Call}
use Rattle.volume_model.specs.declared.call.Call.TheVariants as call
use Rattle.volume_model.specs.declared.call.Reply.{Reply}
use Rattle.volume_model.specs.declared.call.Reply.TheVariants as reply
use Rattle.volume_model.specs.declared.entry.Entry.{Entry}
use Rattle.volume_model.specs.declared.entry.Entry.TheVariants as entry
use Rattle.volume_model.specs.declared.mark.FoldOrDrop.TheVariants as part
use Rattle.volume_model.specs.declared.mark.Mark.{Mark}
use Rattle.volume_model.specs.declared.mark.Rebuild.{Rebuild}
use Rattle.volume_model.specs.declared.mark.Rebuild.TheVariants as rebuild
use Rattle.volume_model.specs.declared.mode.Mode.{Mode}
use Rattle.volume_model.specs.declared.mode.Mode.TheVariants.{Rw, Wo, Err}
use Rattle.volume_model.specs.Snapshots.{Snapshots, no_snapshots, with_snapshot, with_mark}
use Rattle.volume_model.specs.Purge.{with_part}
use Rattle.volume_model.specs.PlainState.{Copy, PlainState}
use Rattle.volume_model.specs.Modes.{modes_after}
use Rattle.volume_model.specs.Replay.{replay}
use Rattle.volume_model.specs.Rebuilds.{rebuild_of, EndsWith, AddComes, Fells}
use Rattle.volume_model.specs.History.{FailsNext}
use Rattle.load_laws.specs.Load.{slice_at, fresh, IsFrameIn, user_name}
use Rattle.load_laws.specs.Result.{reply_on, disk_after}

-- ---- how far the control stream is

-- In turn: nothing has come; the snapshot; replica 1 fell; that was answered; its rebuild began; it was promoted; its add
-- was answered; the snapshot is to be removed; it was folded; all calls are answered.
pub data Phase : Type 0 where
  Begins Taken Falls Fallen Opened Promoted Rebuilt Removed Folded Ends : Phase

-- the name of the rebuild's own snapshot
abbrev pub own_name : List ℕ
own_name = codes "sys-1"

-- the last calls of the control stream
abbrev pub last_one : List Call
last_one = call.Command command.Purge ∷ []

abbrev pub last_two : List Call
last_two = call.Command (command.Remove user_name) ∷ last_one

abbrev pub last_three : List Call
last_three = call.Command (command.Add 1) ∷ last_two

abbrev pub last_four : List Call
last_four = call.Command (command.Fail 1) ∷ last_three

-- the calls that are left
abbrev pub calls_left : Phase → List Call
calls_left Begins = call.Command (command.Snapshot user_name) ∷ last_four
calls_left Taken = last_four
calls_left Falls = last_four
calls_left Fallen = last_three
calls_left Opened = last_three
calls_left Promoted = last_three
calls_left Rebuilt = last_two
calls_left Removed = last_one
calls_left Folded = last_one
calls_left Ends = []

-- the mode of replica 1, and how far its rebuild is
abbrev pub mode_in : Phase → Mode
mode_in Begins = Rw
mode_in Taken = Rw
mode_in Falls = Err
mode_in Fallen = Err
mode_in Opened = Wo
mode_in Promoted = Rw
mode_in Rebuilt = Rw
mode_in Removed = Rw
mode_in Folded = Rw
mode_in Ends = Rw

abbrev pub rebuild_in : Phase → Rebuild
rebuild_in Begins = rebuild.Unasked
rebuild_in Taken = rebuild.Unasked
rebuild_in Falls = rebuild.Unasked
rebuild_in Fallen = rebuild.Unasked
rebuild_in Opened = rebuild.Open 0
rebuild_in Promoted = rebuild.Promoted
rebuild_in Rebuilt = rebuild.Unasked
rebuild_in Removed = rebuild.Unasked
rebuild_in Folded = rebuild.Unasked
rebuild_in Ends = rebuild.Unasked

-- the snapshots: none, the user's, the rebuild's over it, and that one alone
abbrev pub one_taken : Snapshots
one_taken = with_snapshot no_snapshots user_name

abbrev pub two_taken : Snapshots
two_taken = with_snapshot one_taken own_name

abbrev pub one_marked : Snapshots
one_marked = with_mark two_taken user_name

abbrev pub one_left : Snapshots
one_left = with_part one_marked (part.Fold user_name own_name)

abbrev pub snapshots_in : Phase → Snapshots
snapshots_in Begins = no_snapshots
snapshots_in Taken = one_taken
snapshots_in Falls = one_taken
snapshots_in Fallen = one_taken
snapshots_in Opened = two_taken
snapshots_in Promoted = two_taken
snapshots_in Rebuilt = two_taken
snapshots_in Removed = one_marked
snapshots_in Folded = one_left
snapshots_in Ends = one_left

-- the names that were taken
abbrev pub names_in : Phase → List (List ℕ)
names_in Begins = []
names_in Taken = user_name ∷ []
names_in Falls = user_name ∷ []
names_in Fallen = user_name ∷ []
names_in Opened = own_name ∷ user_name ∷ []
names_in Promoted = own_name ∷ user_name ∷ []
names_in Rebuilt = own_name ∷ user_name ∷ []
names_in Removed = own_name ∷ user_name ∷ []
names_in Folded = own_name ∷ user_name ∷ []
names_in Ends = own_name ∷ user_name ∷ []

-- a replica has just been told to fail
abbrev pub IsFalling : Phase → Type 0
IsFalling Falls = Unit {0}
IsFalling p = ⊥

-- ---- what stands behind the entries before

abbrev pub state_in : Phase → List ℕ → List Copy → PlainState
state_in p disk copies = record {
  volume = record { disk = disk; copies = copies; snapshots = snapshots_in p };
  used = names_in p;
}

abbrev pub modes_in : Phase → List Mode
modes_in p = Rw ∷ mode_in p ∷ []

-- how far the rebuild of r is: of replica 0 none is asked
abbrev pub rebuild_at : Phase → ℕ → Rebuild
rebuild_at p r = cond (eqb 1 r) (rebuild_in p) rebuild.Unasked

-- the last entry is no fall, but where a replica was just told to fail
abbrev pub IsCalm : Phase → List Entry → Type 0
IsCalm p before = (m : Mark) (r : ℕ) → EndsWith before m → Fells m r → IsFalling p

-- the entries before have come so far, on a volume that began with the disk `blank` and has this one now
pub record Is (blank : List ℕ) (p : Phase) (disk : List ℕ) (before : List Entry) : Type 0 where
  pub copies : List Copy
  pub state : replay (fresh blank).state before ≡ state_in p disk copies
  pub modes : modes_after (fresh blank).modes before ≡ modes_in p
  pub rebuilds : (r : ℕ) → rebuild_of r before ≡ rebuild_at p r
  pub calm : IsCalm p before

-- ---- what is left

-- the calls that a stream's answers are of
abbrev pub calls_in : ℕ → List Entry → List Call
calls_in stream [] = []
calls_in stream (entry.Mark m ∷ es) = calls_in stream es
calls_in stream (entry.Answer a ∷ es) = cond (eqb a.stream stream) (a.call ∷ calls_in stream es) (calls_in stream es)

-- and its replies
abbrev pub replies_in : ℕ → List Entry → List Reply
replies_in stream [] = []
replies_in stream (entry.Mark m ∷ es) = replies_in stream es
replies_in stream (entry.Answer a ∷ es) = cond (eqb a.stream stream) (a.reply ∷ replies_in stream es) (replies_in stream es)

-- the calls that these entries answer are frames in their slices, and what is left of the control stream
pub record AreLeft (slices : ℕ) (p : Phase) (es : List Entry) : Type 0 where
  pub frames : (stream : ℕ) → stream < slices → All (IsFrameIn stream) (calls_in stream es)
  pub control : calls_in slices es ≡ calls_left p
  pub others : (stream : ℕ) → slices < stream → calls_in stream es ≡ []

-- what a mark asks of the entries behind it
abbrev pub AreOwed : Phase → List Entry → Type 0
AreOwed Begins es = Unit {0}
AreOwed Taken es = Unit {0}
AreOwed Falls es = FailsNext 1 es
AreOwed Fallen es = Unit {0}
AreOwed Opened es = Unit {0}
AreOwed Promoted es = AddComes es 1
AreOwed Rebuilt es = Unit {0}
AreOwed Removed es = Unit {0}
AreOwed Folded es = Unit {0}
AreOwed Ends es = Unit {0}

-- ---- a step

-- the entry answers a frame as a disk does that nobody else writes, and the disk that it leaves
abbrev pub IsFrame : ℕ → List ℕ → Entry → Type 0
IsFrame slices disk (entry.Answer a) = (a.stream < slices) × IsFrameIn a.stream a.call × (a.reply ≡ reply_on disk a.call)
IsFrame slices disk (entry.Mark m) = ⊥

abbrev pub disk_behind : List ℕ → Entry → List ℕ
disk_behind disk (entry.Answer a) = disk_after disk a.call
disk_behind disk (entry.Mark m) = disk

-- the entry is a mark, or tells that a control call was done
abbrev pub IsControl : ℕ → Entry → Type 0
IsControl slices (entry.Answer a) = (a.stream ≡ slices) × (a.reply ≡ reply.Done)
IsControl slices (entry.Mark m) = Unit {0}

-- where a journal stands between its entries
pub record Stands (slices : ℕ) (blank : List ℕ) (p : Phase) (disk : List ℕ) (before es : List Entry) : Type 0 where
  pub is : Is blank p disk before
  pub size : length disk ≡ slice_at slices
  pub left : AreLeft slices p es
  pub owed : AreOwed p es

-- behind the next entry it stands further on: a frame has come, or the control stream has
abbrev pub GoesOn : ℕ → List ℕ → Phase → List ℕ → List Entry → Entry → List Entry → Type 0
GoesOn slices blank p disk before e es =
    (IsFrame slices disk e × Stands slices blank p (disk_behind disk e) (before ++ e ∷ []) es)
    ⊎ (IsControl slices e × (q : Phase) × Stands slices blank q disk (before ++ e ∷ []) es)
