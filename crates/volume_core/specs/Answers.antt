-- What the answers of the steps say.
use Rattle.std.specs.Prelude.{◌≡◌, ◌≢◌, ℕ, ◌+◌, ◌<◌, ◌≤◌, ◌⊎◌, List, [], length, Option, None, Some, All, is_some, true, false}
use Rattle.vol_units.specs.declared.range.BlockRange.{BlockRange}
use Rattle.volume_model.specs.declared.command.Command.TheVariants as command
use Rattle.volume_model.specs.declared.call.Call.{Call}
use Rattle.volume_model.specs.declared.call.Call.TheVariants as call
use Rattle.volume_model.specs.declared.call.Refusal.TheVariants.{NoReplica, OutOfRange}
use Rattle.volume_model.specs.declared.call.Reply.{Reply}
use Rattle.volume_model.specs.declared.call.Reply.TheVariants as reply
use Rattle.volume_model.specs.declared.mode.Mode.{Mode}
use Rattle.volume_model.specs.declared.mode.Mode.TheVariants.{Err}
use Rattle.volume_model.specs.Modes.{mode_of, HasSource, HasNoSource, IsSource}
use Rattle.volume_model.specs.PlainStep.{refusal_of, plain_step}
use Rattle.packed_entries.specs.Plain.{data_in}
use Rattle.range_turns.specs.declared.ticket.Kind.{Kind}
use Rattle.range_turns.specs.declared.ticket.Kind.TheVariants as kind
use Rattle.range_turns.specs.declared.ticket.Ticket.{Ticket}
use Rattle.range_turns.specs.Order.{ticket_at, from_of, until_of, IsFresh, IsClear, IsFirstInWay}
use Rattle.replica_node.specs.Node.{Node}
use Rattle.sparse_image.specs.Listed.{bytes_in}
use Rattle.open_calls.specs.declared.open_call.OpenCall.{OpenCall}
use Rattle.step_answers.specs.declared.parts.Part.TheVariants.{Acked}
use Rattle.step_answers.specs.Parts.{part_at, is_pending_at}
use Rattle.open_calls.specs.Calls.{open_at, node_at, call_asked, whole_of}
use Rattle.open_calls.specs.Starts.{KeepsNodes, HaveRoom, AreEdges}
use Rattle.step_answers.specs.declared.answers.Admit.{Admit}
use Rattle.step_answers.specs.declared.answers.Admit.TheVariants as admit
use Rattle.step_answers.specs.declared.answers.Enrolled.{Enrolled}
use Rattle.step_answers.specs.declared.answers.Enrolled.TheVariants as enrol
use Rattle.step_answers.specs.declared.answers.Job.{Job}
use Rattle.volume_core.specs.Places.{IsWriteAt, IsReadAt, IsWaitingAt}
use Rattle.volume_core.specs.State.{State, modes_in, told_of}
use Rattle.volume_core.specs.Steps.{with_place, with_rooms, with_data, answered, failed, enrolled, started, ended}

-- ---- enrolled

-- the call of that stream stands behind all others, under a number that none of them has, with place for its bytes
pub record IsBehind (s : State) (stream : ℕ) (c : Call) (number : ℕ) (s2 : State) : Type 0 where
  pub range : BlockRange
  pub kind : Kind
  pub new : OpenCall
  pub fresh : IsFresh s.tickets number
  pub is : call_asked kind new ≡ c
  pub by : new.stream ≡ stream
  pub saw : new.saw ≡ length s.book.entries
  pub state : s2 ≡ enrolled (with_data s (length new.bytes))
      (record { number = number; range = range; kind = kind; started = false }) new

-- a place more for that call, refused, and for its data
abbrev pub placed_for : State → Call → State
placed_for s c = with_data (with_place s) (length (data_in c (reply.Refused OutOfRange)))

-- what an enrolment comes to
abbrev pub EnrolsAs : State → ℕ → Call → Enrolled → State → Type 0
EnrolsAs s stream c (enrol.Ticket number) s2 =
    (refusal_of (modes_in s) (told_of s) c ≡ None) × IsBehind s stream c number s2
EnrolsAs s stream c (enrol.OutOfRange place) s2 = (refusal_of (modes_in s) (told_of s) c ≡ Some OutOfRange)
    × (place ≡ length s.book.entries) × (s2 ≡ answered (placed_for s c) stream place c (reply.Refused OutOfRange))

-- ---- more places

-- the same World with more places made, in the replicas and in the journal
pub record IsRoomier (s s2 : State) : Type 0 where
  pub nodes : List Node
  pub spare : ℕ
  pub spare_data : ℕ
  pub keeps : KeepsNodes s.nodes nodes
  pub more : s.book.spare ≤ spare
  pub more_data : s.book.spare_data ≤ spare_data
  pub state : s2 ≡ record (with_rooms s spare spare_data) { nodes = nodes }

-- ---- started

-- the job tells of the call at i what is carried of it
pub record IsJobOf (s : State) (i : ℕ) (job : Job) : Type 0 where
  pub range : job.range ≡ (ticket_at s.tickets i).range
  pub parts : job.parts ≡ (open_at s.calls i).parts
  pub front : job.front ≡ (open_at s.calls i).front
  pub back : job.back ≡ (open_at s.calls i).back

-- these are the edges of the write at i, in that replica
abbrev pub HasEdges : State → ℕ → ℕ → List ℕ → List ℕ → Type 0
HasEdges s i source front back =
    AreEdges (from_of (ticket_at s.tickets i)) (until_of (ticket_at s.tickets i)) (open_at s.calls i).at
    (length (open_at s.calls i).bytes) (node_at s.nodes source).disk front back

-- the read at i starts, with a buffer for its bytes, and with place for them in the journal
pub record BeginsRead (s : State) (i : ℕ) (s2 : State) : Type 0 where
  pub buffer : List ℕ
  pub count : length buffer ≡ (open_at s.calls i).length
  pub state : s2 ≡ started (with_data s (open_at s.calls i).length) i s.nodes [] [] buffer

-- the write at i starts, with places on each replica that has not failed, and with edges from that one
pub record BeginsWrite (s : State) (i source : ℕ) (s2 : State) : Type 0 where
  pub nodes : List Node
  pub front : List ℕ
  pub back : List ℕ
  pub keeps : KeepsNodes s.nodes nodes
  pub room : HaveRoom (modes_in s) nodes (ticket_at s.tickets i).range
  pub edges : HasEdges s i source front back
  pub state : s2 ≡ started s i nodes front back []

-- the call at i starts
abbrev pub BeginsBy : Kind → State → ℕ → ℕ → State → Type 0
BeginsBy kind.Read s i source s2 = BeginsRead s i s2
BeginsBy kind.Write s i source s2 = BeginsWrite s i source s2
BeginsBy kind.Whole s i source s2 = ⊥

abbrev pub Begins : State → ℕ → ℕ → State → Type 0
Begins s i source s2 = BeginsBy (ticket_at s.tickets i).kind s i source s2

-- the same from the first replica that is read, with a place for the call's answer
pub record IsBegun (s : State) (i : ℕ) (s2 : State) : Type 0 where
  pub source : ℕ
  pub first : IsSource (modes_in s) source
  pub begins : Begins (with_place s) i source s2

-- what asking the ticket to start is answered
abbrev pub IsAdmit : State → ℕ → Admit → State → Type 0
IsAdmit s t (admit.Go job) s2 = (i : ℕ) × IsWaitingAt s t i × IsClear s.tickets i × IsBegun s i s2 × IsJobOf s2 i job
IsAdmit s t (admit.After number) s2 = (i : ℕ) × IsWaitingAt s t i
    × ((j : ℕ) × IsFirstInWay s.tickets i j × ((ticket_at s.tickets j).number ≡ number)) × (s2 ≡ s)
IsAdmit s t (admit.NoReplica place) s2 = (i : ℕ) × IsWaitingAt s t i × IsClear s.tickets i × HasNoSource (modes_in s)
    × (place ≡ length s.book.entries) × (s2 ≡ ended (with_place s) i (reply.Refused NoReplica))

-- the blocks are those of the write of that ticket
pub record AreBlocksOfWrite (t : Ticket) (c : OpenCall) (blocks : List (Option (List ℕ))) : Type 0 where
  pub full : All (λ b. is_some b ≡ true) blocks
  pub count : t.range.first + length blocks ≡ t.range.end
  pub bytes : bytes_in blocks ≡ whole_of c

-- ---- ended

-- a write is answered that it is done where a replica is read, and else that there is none
abbrev pub IsWriteReply : List Mode → Reply → Type 0
IsWriteReply modes reply.Done = HasSource modes
IsWriteReply modes (reply.Refused why) = (why ≡ NoReplica) × HasNoSource modes
IsWriteReply modes r = ⊥

-- each replica of the write at i has acknowledged it or has failed
pub record EndsWrite (s : State) (i : ℕ) (answer : Reply) : Type 0 where
  pub acknowledged : (r : ℕ) → r < length s.nodes
      → is_pending_at (mode_of (modes_in s) r) (part_at (open_at s.calls i).parts r) ≡ false
  pub reply : IsWriteReply (modes_in s) answer

-- the read at i is answered its bytes where a replica acknowledged, and else that there is none
pub record EndsRead (s : State) (i : ℕ) (answer : Reply) : Type 0 where
  pub bytes : (r : ℕ) → part_at (open_at s.calls i).parts r ≡ Acked → answer ≡ reply.Read (open_at s.calls i).buffer
  pub none : ((r : ℕ) → part_at (open_at s.calls i).parts r ≢ Acked)
      → (answer ≡ reply.Refused NoReplica) × HasNoSource (modes_in s)

-- the started write or read of that ticket ends so
abbrev pub Completes : State → ℕ → State → Type 0
Completes s t s2 = (i : ℕ) × (answer : Reply) × (s2 ≡ ended s i answer)
    × ((IsWriteAt s t i × EndsWrite s i answer) ⊎ (IsReadAt s t i × EndsRead s i answer))

-- ---- answered at once

-- the replica that the call lets fail, if it does
abbrev pub failed_by : Call → Option ℕ
failed_by (call.Command (command.Fail r)) = Some r
failed_by c = None

-- the World once that replica failed, unless it had
abbrev pub failed_in : Mode → State → ℕ → State
failed_in Err s r = s
failed_in m s r = failed s r

abbrev pub after_fail : State → Option ℕ → State
after_fail s None = s
after_fail s (Some r) = failed_in (mode_of (modes_in s) r) s r

-- the call is answered as the plain disk answers it, behind the mark of a replica that it lets fail
pub record IsAnsweredNow (s : State) (stream : ℕ) (c : Call) (place : ℕ) (s2 : State) : Type 0 where
  pub behind : place ≡ length (after_fail s (failed_by c)).book.entries
  pub state : s2 ≡ answered (after_fail (with_place s) (failed_by c)) stream (length s.book.entries) c
      (plain_step (modes_in s) (told_of s) c).1
