-- What the answers of the steps say.
use Rattle.std.specs.Prelude.{◌≡◌, ◌≢◌, ◌⊎◌, ℕ, ◌<◌, ◌≤◌, List, length, Option, None, Some, true, false, All}
use Rattle.vol_units.specs.Name.{begins_sys}
use Rattle.sparse_image.specs.Image.{Tables}
use Rattle.volume_model.specs.declared.command.Command.{Command}
use Rattle.volume_model.specs.declared.command.Command.TheVariants as command
use Rattle.volume_model.specs.declared.call.Call.TheVariants as call
use Rattle.volume_model.specs.declared.call.Refusal.{Refusal}
use Rattle.volume_model.specs.declared.call.Refusal.TheVariants.{NoReplica, InUse, ChainFull}
use Rattle.volume_model.specs.declared.call.Reply.{Reply}
use Rattle.volume_model.specs.declared.call.Reply.TheVariants as reply
use Rattle.volume_model.specs.declared.mark.FoldOrDrop.{FoldOrDrop}
use Rattle.volume_model.specs.declared.mark.FoldOrDrop.TheVariants as part
use Rattle.volume_model.specs.declared.mode.Mode.{Mode}
use Rattle.volume_model.specs.declared.mode.Mode.TheVariants.{Rw, Wo, Err}
use Rattle.volume_model.specs.Modes.{mode_of, HasSource, HasNoSource, IsSource}
use Rattle.volume_model.specs.OneWorker.{Against, refused_at, refused_by}
use Rattle.volume_model.specs.PlainStep.{live_refusal}
use Rattle.volume_model.specs.Purge.{CanFold, next_of}
use Rattle.volume_model.specs.Snapshots.{Snapshots}
use Rattle.range_turns.specs.declared.turns.MayStart.{MayStart}
use Rattle.range_turns.specs.declared.turns.MayStart.TheVariants as may
use Rattle.range_turns.specs.Order.{ticket_at, IsFresh, IsClear, IsFirstInWay}
use Rattle.replica_node.specs.Node.{Node, Kept}
use Rattle.replica_node.specs.Fold.{tree_of, HasBlockOf}
use Rattle.step_answers.specs.declared.parts.Part.TheVariants.{Owed}
use Rattle.step_answers.specs.declared.whole_op.WholeOp.{WholeOp}
use Rattle.step_answers.specs.declared.whole_op.WholeOp.TheVariants as whole
use Rattle.step_answers.specs.Asked.{command_of}
use Rattle.open_calls.specs.Calls.{open_at, node_at}
use Rattle.open_calls.specs.Clients.{IsIdle}
use Rattle.step_answers.specs.Parts.{part_at, is_pending_at, IsTaken}
use Rattle.open_calls.specs.declared.whole.Whole.{Whole}
use Rattle.open_calls.specs.Maint.{HasNoCommand, HasTurn, CanGo, command_at}
use Rattle.open_calls.specs.Whole.{AreSpared}
use Rattle.open_rebuild.specs.declared.rebuilding.Rebuilding.{Rebuilding}
use Rattle.open_rebuild.specs.Claim as claim
use Rattle.step_answers.specs.declared.answers.NotThis.{NotThis}
use Rattle.step_answers.specs.declared.answers.NotThis.TheVariants as against
use Rattle.volume_core.specs.State.{State, told_of, modes_in, spot_of}
use Rattle.volume_core.specs.Steps.{with_place}
use Rattle.step_answers.specs.declared.answers.AdmitWhole.{AdmitWhole}
use Rattle.step_answers.specs.declared.answers.AdmitWhole.TheVariants as admit
use Rattle.step_answers.specs.declared.answers.NextPart.{NextPart}
use Rattle.step_answers.specs.declared.answers.NextPart.TheVariants as next
use Rattle.volume_core.specs.Turn.{turn_ended, IsFreeTurn}
use Rattle.volume_maint.specs.Steps.{turn_begun, whole_enrolled, whole_begun, whole_parted, whole_acked}
use Rattle.volume_maint.specs.Steps.{whole_ended, whole_marked, without_whole, barrier_name, barrier_modes}
use Rattle.volume_maint.specs.Steps.{barrier_nodes, barrier_begun, barrier_ended, folded_on}
use Rattle.volume_maint.specs.Places.{AwaitsTurn, IsTurnOf, AwaitsWhole, IsWholeOn}

-- the snapshots as the journal tells them
abbrev pub snapshots_told : State → Snapshots
snapshots_told s = (told_of s).volume.snapshots

-- what stands against the command
abbrev pub refused_in : State → Command → Option Refusal
refused_in s c = refused_at (spot_of s) (call.Command c)

-- ---- the maintenance turn

-- asked for, the turn is given to the first, and any other waits for the first
abbrev pub TurnsTo : State → ℕ → MayStart → State → Type 0
TurnsTo s t may.Yes s2 = AwaitsTurn s t 0 × (s2 ≡ turn_begun s)
TurnsTo s t (may.After number) s2 = (k : ℕ) × AwaitsTurn s t k × (0 < k)
    × ((ticket_at s.maint 0).number ≡ number) × (s2 ≡ s)

-- no rebuild of the command was begun, if it is an add
abbrev pub HasNoRebuild : State → Command → Type 0
HasNoRebuild s (command.Add r) = (s.rebuild ≡ None) × (s.ended ≡ None)
HasNoRebuild s c = Unit {0}

-- a command is refused so there, whatever a store of backups has against a backup
abbrev pub MayRefuse : State → Command → Refusal → Type 0
MayRefuse s c why = (told : Option Against) × (refused_by told (spot_of s) (call.Command c) ≡ Some why)

-- a backup of a snapshot that can be used
abbrev pub IsGoodBackup : State → Command → Type 0
IsGoodBackup s (command.Backup backup snapshot) = live_refusal (told_of s).volume snapshot ≡ None
IsGoodBackup s c = ⊥

-- a purge that nothing stands against is done where nothing can go, and such a backup is
abbrev pub MayBeDone : State → Command → Type 0
MayBeDone s command.Purge = (refused_in s command.Purge ≡ None) × (next_of (snapshots_told s) ≡ None)
MayBeDone s c = IsGoodBackup s c

-- A command that has the turn may be answered so: as it is refused there, of an add only where no rebuild was begun; that
-- it is done; and of an add whose rebuild was aborted, the place of that mark.
abbrev pub MayEnd : State → Command → Reply → Type 0
MayEnd s c (reply.Refused why) = MayRefuse s c why × HasNoRebuild s c
MayEnd s c reply.Done = MayBeDone s c
MayEnd s c (reply.Aborted place) =
    (r : ℕ) × (c ≡ command.Add r) × (s.ended ≡ Some (record { target = r; place = place }))
MayEnd s c r = ⊥

-- it is so now, as far as that shows: while a call on the whole volume is started, not that a purge is done
pub record EndsTurn (s : State) (t : ℕ) (r : Reply) (s2 : State) : Type 0 where
  pub turn : IsFreeTurn s t
  pub may : MayEnd s (command_at s.commands 0).command r
  pub state : s2 ≡ turn_ended s r

-- ---- why it does not

-- a command that ends as done, once it has done all: a purge or a backup
abbrev pub EndsDone : Command → Type 0
EndsDone command.Purge = Unit {0}
EndsDone (command.Backup backup snapshot) = Unit {0}
EndsDone c = ⊥

-- the first command of the turn is in the state that the reply needs: no rebuild of it was begun, or it ends as done, or its
-- rebuild was aborted in the mark at that place
abbrev pub IsReadyFor : State → Command → Reply → Type 0
IsReadyFor s c (reply.Refused why) = HasNoRebuild s c
IsReadyFor s c reply.Done = EndsDone c
IsReadyFor s c (reply.Aborted place) =
    (r : ℕ) × (c ≡ command.Add r) × (s.ended ≡ Some (record { target = r; place = place }))
IsReadyFor s c r = ⊥

-- the modes stand against that refusal of the command, whatever the volume is
abbrev pub AreModesAgainst : State → Command → Refusal → Type 0
AreModesAgainst s c NoReplica = HasSource (modes_in s)
AreModesAgainst s (command.Add r) InUse = mode_of (modes_in s) r ≡ Err
AreModesAgainst s (command.Add r) ChainFull = mode_of (modes_in s) r ≢ Err
AreModesAgainst s c why = ⊥

-- and so against the reply: a purge is not done without a replica
abbrev pub FailsByModes : State → Command → Reply → Type 0
FailsByModes s c (reply.Refused why) = AreModesAgainst s c why
FailsByModes s command.Purge reply.Done = HasNoSource (modes_in s)
FailsByModes s c r = ⊥

-- what is left of the replicas: `RW` where one is read, and else `ERR`
abbrev pub IsModeLeft : List Mode → Mode → Type 0
IsModeLeft modes Rw = HasSource modes
IsModeLeft modes Wo = ⊥
IsModeLeft modes Err = HasNoSource modes

-- a purge that would be done waits for the call on the whole volume that is started
pub record WaitsToEnd (s : State) (c : Command) (r : Reply) : Type 0 where
  pub purge : c ≡ command.Purge
  pub done : r ≡ reply.Done
  pub whole : s.whole ≢ None

-- It cannot end so: it has not the turn, or something enrolled, or may not be answered so. While a call on the whole volume
-- is started, neither can a purge that would be done.
abbrev pub CannotEnd : State → ℕ → Reply → Type 0
CannotEnd s t r = IsFreeTurn s t → MayEnd s (command_at s.commands 0).command r → WaitsToEnd s (command_at s.commands 0).command r

-- the modes stand against the reply, or what it says of the volume, and the modes do not
abbrev pub IsAgainstReply : State → Command → Reply → NotThis → Type 0
IsAgainstReply s c r (against.Mode m) = FailsByModes s c r × IsModeLeft (modes_in s) m
IsAgainstReply s c r against.Page = FailsByModes s c r → ⊥
IsAgainstReply s c r why = ⊥

-- the ticket does, or, where it does not, one of those
abbrev pub IsEndReason : State → ℕ → Command → Reply → NotThis → Type 0
IsEndReason s t c r against.Ticket = IsFreeTurn s t → IsReadyFor s c r → ⊥
IsEndReason s t c r why = IsFreeTurn s t × IsReadyFor s c r × IsAgainstReply s c r why

pub record AgainstEndTurn (s : State) (t : ℕ) (r : Reply) (why : NotThis) : Type 0 where
  pub cannot : CannotEnd s t r
  pub reason : IsEndReason s t (command_at s.commands 0).command r why

-- ---- the whole volume

-- an operation may be enrolled by that stream: a snapshot under a user's name, or what the command does that has the turn
abbrev pub MayAsk : State → ℕ → WholeOp → Type 0
MayAsk s stream (whole.Snapshot name) = (begins_sys name ≡ false) × HasNoCommand stream s.commands
MayAsk s stream (whole.Remove name) = HasTurn s.maint s.commands stream (command.Remove name)
MayAsk s stream (whole.Revert name) = HasTurn s.maint s.commands stream (command.Revert name)
MayAsk s stream (whole.Purge f) = HasTurn s.maint s.commands stream command.Purge
MayAsk s stream (whole.Barrier r) = HasTurn s.maint s.commands stream (command.Add r)

-- what its caller saw: of what the command does that has the turn, what that saw
abbrev pub seen_by : State → WholeOp → ℕ
seen_by s (whole.Snapshot name) = length s.book.entries
seen_by s (whole.Remove name) = (command_at s.commands 0).saw
seen_by s (whole.Revert name) = (command_at s.commands 0).saw
seen_by s (whole.Purge f) = (command_at s.commands 0).saw
seen_by s (whole.Barrier r) = (command_at s.commands 0).saw

-- a part of a purge that cannot go now: it cannot be done, a replica that is read has not folded it, or none is read
abbrev pub CannotGo : State → WholeOp → Type 0
CannotGo s (whole.Purge f) = HasSource (modes_in s) → CanGo (snapshots_told s) (modes_in s) s.nodes f → ⊥
CannotGo s op = ⊥

abbrev pub EnrolsWhole : State → ℕ → WholeOp → Option ℕ → State → Type 0
EnrolsWhole s stream op (Some number) s2 =
    IsFresh s.tickets number × (s2 ≡ whole_enrolled s number stream (seen_by s op) op)
EnrolsWhole s stream op None s2 = CannotGo s op × (s2 ≡ s)

-- a barrier may begin a rebuild: none is open or was aborted of the command that has the turn, and the replica is there
pub record MayBeginOf (s : State) (r : ℕ) : Type 0 where
  pub closed : s.rebuild ≡ None
  pub first : s.ended ≡ None
  pub there : r < length s.nodes

abbrev pub MayBegin : State → WholeOp → Type 0
MayBegin s (whole.Barrier r) = MayBeginOf s r
MayBegin s op = Unit {0}

-- or it may not: that rebuild was begun already, or there is no such replica
abbrev pub MayNotBegin : State → WholeOp → Type 0
MayNotBegin s (whole.Barrier r) = (s.rebuild ≢ None) ⊎ ((s.ended ≢ None) ⊎ (length s.nodes ≤ r))
MayNotBegin s op = ⊥

-- The barrier at i starts: a rebuild is open of r from the first replica that is read, of whose layers no page is copied,
-- with spare heads for the replicas, r among them.
pub record BeginsBarrier (s : State) (i r : ℕ) (s2 : State) : Type 0 where
  pub b : Rebuilding
  pub spares : List (Option Tables)
  pub source : IsSource (modes_in s) b.source
  pub target : b.target ≡ r
  pub new : claim.IsNew s.size (node_at s.nodes b.source) (barrier_name s b.source) b
  pub spared : AreSpared (whole.Barrier r) (barrier_modes s r) (barrier_nodes s b) spares
  pub state : s2 ≡ barrier_begun s i b spares

-- the operation at i starts, with spare heads for the replicas
abbrev pub BeginsWith : State → ℕ → WholeOp → State → Type 0
BeginsWith s i op s2 = (spares : List (Option Tables)) × AreSpared op (modes_in s) s.nodes spares
    × (s2 ≡ whole_begun s i op spares)

abbrev pub BeginsWhole : State → ℕ → WholeOp → State → Type 0
BeginsWhole s i (whole.Barrier r) s2 = BeginsBarrier s i r s2
BeginsWhole s i op s2 = BeginsWith s i op s2

-- an operation that waits there with nothing earlier in its way
pub record IsWaiting (s : State) (t i : ℕ) (op : WholeOp) : Type 0 where
  pub awaits : AwaitsWhole s t i
  pub asks : (open_at s.calls i).op ≡ Some op
  pub clear : IsClear s.tickets i

-- what asking to start is answered
abbrev pub AdmitsWhole : State → ℕ → AdmitWhole → State → Type 0
AdmitsWhole s t admit.Go s2 = (i : ℕ) × (op : WholeOp) × IsWaiting s t i op × MayBegin s op
    × (refused_in s (command_of op) ≡ None) × BeginsWhole s i op s2
AdmitsWhole s t (admit.After number) s2 = (i : ℕ) × AwaitsWhole s t i
    × ((j : ℕ) × IsFirstInWay s.tickets i j × ((ticket_at s.tickets j).number ≡ number)) × (s2 ≡ s)
AdmitsWhole s t admit.Never s2 = (i : ℕ) × (op : WholeOp) × IsWaiting s t i op × MayNotBegin s op × (s2 ≡ s)
AdmitsWhole s t (admit.Refused why place) s2 = (i : ℕ) × (op : WholeOp) × IsWaiting s t i op × MayBegin s op
    × (refused_in s (command_of op) ≡ Some why) × (place ≡ length s.book.entries)
    × (s2 ≡ whole_ended (with_place s) i op (reply.Refused why))

-- a replica that is read, whose layers are as long as its head
pub record IsLongSource (s : State) (r : ℕ) : Type 0 where
  pub read : mode_of (modes_in s) r ≡ Rw
  pub long : All (λ (k : Kept). length k.disk ≡ length (node_at s.nodes r).disk) (node_at s.nodes r).layers

-- a replica takes its part
pub record TakesPart (s : State) (t r : ℕ) (s2 : State) : Type 0 where
  pub w : Whole
  pub i : ℕ
  pub at : IsWholeOn s t w i
  pub up : mode_of (modes_in s) r ≢ Err
  pub owed : part_at w.parts r ≡ Owed
  pub state : s2 ≡ whole_parted s w r

-- it does not: it is no started call on the whole volume, or the replica owes no part, or it has failed
abbrev pub AgainstPart : State → ℕ → ℕ → NotThis → Type 0
AgainstPart s t r against.Ticket = (w : Whole) (i : ℕ) → IsWholeOn s t w i → part_at w.parts r ≢ Owed
AgainstPart s t r (against.Mode m) = (m ≡ mode_of (modes_in s) r) × (m ≡ Err)
AgainstPart s t r why = ⊥

-- a replica acknowledges its part
pub record AcksPart (s : State) (t r : ℕ) (s2 : State) : Type 0 where
  pub w : Whole
  pub i : ℕ
  pub at : IsWholeOn s t w i
  pub taken : IsTaken (part_at w.parts r)
  pub state : s2 ≡ whole_acked s w r

-- it does not: it is no started call on the whole volume, or the replica had no part of it
abbrev pub AgainstAckPart : State → ℕ → ℕ → NotThis → Type 0
AgainstAckPart s t r against.Ticket = (w : Whole) (i : ℕ) → IsWholeOn s t w i → ⊥
AgainstAckPart s t r (against.Pending q) = (q ≡ r) × ((w : Whole) (i : ℕ) → IsWholeOn s t w i → ¬ IsTaken (part_at w.parts r))
AgainstAckPart s t r why = ⊥

-- each replica has acknowledged its part or has failed
abbrev pub AreDone : State → Whole → Type 0
AreDone s w = (r : ℕ) → r < length s.nodes → is_pending_at (mode_of (modes_in s) r) (part_at w.parts r) ≡ false

-- What it ends with, where a replica is read and written, and where there is none: its command is answered, its part of a
-- purge marked, or, of a barrier, its rebuild goes on.
abbrev pub whole_done : State → ℕ → WholeOp → State
whole_done s i (whole.Purge f) = whole_marked s i f
whole_done s i (whole.Barrier r) = barrier_ended s i
whole_done s i (whole.Snapshot name) = whole_ended s i (whole.Snapshot name) reply.Done
whole_done s i (whole.Remove name) = whole_ended s i (whole.Remove name) reply.Done
whole_done s i (whole.Revert name) = whole_ended s i (whole.Revert name) reply.Done

abbrev pub whole_lost : State → ℕ → WholeOp → State
whole_lost s i (whole.Purge f) = without_whole s i
whole_lost s i (whole.Barrier r) = barrier_ended s i
whole_lost s i (whole.Snapshot name) = whole_ended s i (whole.Snapshot name) (reply.Refused NoReplica)
whole_lost s i (whole.Remove name) = whole_ended s i (whole.Remove name) (reply.Refused NoReplica)
whole_lost s i (whole.Revert name) = whole_ended s i (whole.Revert name) (reply.Refused NoReplica)

pub record EndsWhole (s : State) (t : ℕ) (s2 : State) : Type 0 where
  pub w : Whole
  pub i : ℕ
  pub at : IsWholeOn s t w i
  pub acknowledged : AreDone s w
  pub done : HasSource (modes_in s) → s2 ≡ whole_done s i w.op
  pub lost : HasNoSource (modes_in s) → s2 ≡ whole_lost s i w.op

-- it does not: it is no started call on the whole volume, or that replica has still to acknowledge its part
abbrev pub AgainstEndWhole : State → ℕ → NotThis → Type 0
AgainstEndWhole s t against.Ticket = (w : Whole) (i : ℕ) → IsWholeOn s t w i → ⊥
AgainstEndWhole s t (against.Pending r) = (w : Whole) × (i : ℕ) × IsWholeOn s t w i
    × (is_pending_at (mode_of (modes_in s) r) (part_at w.parts r) ≡ true)
AgainstEndWhole s t why = ⊥

-- ---- a purge

-- a started snapshot makes the layer of that name, which is not yet the volume's
abbrev pub IsNew : State → List ℕ → Type 0
IsNew s name = (w : Whole) × (s.whole ≡ Some w) × (w.op ≡ whole.Snapshot name)

-- the part folds a layer into that
abbrev pub IsOntoNew : State → FoldOrDrop → Type 0
IsOntoNew s (part.Fold p c) = IsNew s c
IsOntoNew s (part.Drop p) = ⊥

-- the layer into which the part folds another
abbrev pub child_of : FoldOrDrop → Option (List ℕ)
child_of (part.Fold p c) = Some c
child_of (part.Drop p) = None

-- the layer can be folded into none, on that replica
abbrev pub HasNoChild : Node → List ℕ → Type 0
HasNoChild node p = (c : List ℕ) → CanFold (tree_of node) node.on p c → ⊥

-- what a purge does next
abbrev pub IsNextPart : State → NextPart → Type 0
IsNextPart s (next.Part f) = (s.whole ≡ None) × (next_of (snapshots_told s) ≡ Some f)
IsNextPart s next.Nothing = (s.whole ≡ None) × HasSource (modes_in s) × (next_of (snapshots_told s) ≡ None)
IsNextPart s next.NoReplica = HasNoSource (modes_in s)
IsNextPart s (next.After number) = (w : Whole) × (s.whole ≡ Some w) × (w.number ≡ number)

-- a replica is read, and has a block of the page in c, into which p can be folded as it stands there
pub record WantsFold (s : State) (r : ℕ) (p : List ℕ) (page : ℕ) : Type 0 where
  pub read : mode_of (modes_in s) r ≡ Rw
  pub c : List ℕ
  pub can : CanFold (tree_of (node_at s.nodes r)) (node_at s.nodes r).on p c
  pub has : HasBlockOf (node_at s.nodes r) c page

-- a purge has the turn, and nothing enrolled for the whole volume
abbrev pub IsFreePurge : State → Type 0
IsFreePurge s = IsTurnOf s command.Purge × IsIdle (command_at s.commands 0).stream s.calls

-- a replica folds the page: a purge has the turn with nothing enrolled, and p can be folded into c in the volume
pub record FoldsPage (s : State) (r : ℕ) (p : List ℕ) (page : ℕ) (s2 : State) : Type 0 where
  pub c : List ℕ
  pub turn : IsTurnOf s command.Purge
  pub idle : IsIdle (command_at s.commands 0).stream s.calls
  pub read : mode_of (modes_in s) r ≡ Rw
  pub can : CanFold (snapshots_told s).tree (snapshots_told s).on p c
  pub state : s2 ≡ folded_on s r p c page

-- it does not: there is no such purge, or the replica is not read, or p can be folded into none in the volume; that is told
-- first which stands first
abbrev pub AgainstFold : State → ℕ → List ℕ → NotThis → Type 0
AgainstFold s r p against.Ticket = IsFreePurge s → ⊥
AgainstFold s r p (against.Mode m) = IsFreePurge s × (m ≡ mode_of (modes_in s) r) × (m ≢ Rw)
AgainstFold s r p against.Page = IsFreePurge s × (mode_of (modes_in s) r ≡ Rw)
    × ((c : List ℕ) → CanFold (snapshots_told s).tree (snapshots_told s).on p c → ⊥)
AgainstFold s r p why = ⊥
