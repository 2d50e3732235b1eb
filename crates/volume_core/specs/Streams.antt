-- What a step for one stream leaves to the others, and what its own stream sees of it.
use Rattle.std.specs.Prelude.{◌≡◌, ◌≢◌, ◌⊎◌, ℕ, ◌==◌, true, List, [], ◌∷◌, ◌++◌, length, map, Any, if◌then◌else◌}
use Rattle.vol_units.specs.declared.range.BlockRange.{BlockRange}
use Rattle.volume_model.specs.declared.call.Call.{Call}
use Rattle.volume_model.specs.declared.entry.Answer.{Answer}
use Rattle.volume_model.specs.declared.entry.Entry.{Entry}
use Rattle.volume_model.specs.declared.entry.Entry.TheVariants as entry
use Rattle.volume_model.specs.declared.mark.Mark.{Mark}
use Rattle.volume_model.specs.declared.mark.Mark.TheVariants as mark
use Rattle.volume_model.specs.Copies.{RemovesNone}
use Rattle.journal_book.specs.declared.opening.Opening.{Opening}
use Rattle.range_turns.specs.declared.ticket.Ticket.{Ticket}
use Rattle.replica_node.specs.Node.{Node}
use Rattle.open_calls.specs.declared.open_call.OpenCall.{OpenCall}
use Rattle.open_calls.specs.Calls.{call_asked, whole_of}
use Rattle.open_calls.specs.declared.maint.MaintCall.{MaintCall}
use Rattle.step_answers.specs.declared.answers.Admit.{Admit}
use Rattle.step_answers.specs.declared.answers.Admit.TheVariants as admit
use Rattle.step_answers.specs.declared.answers.Enrolled.{Enrolled}
use Rattle.step_answers.specs.declared.answers.Enrolled.TheVariants as enrol
use Rattle.volume_core.specs.State.{State, gave_up_at}
use Rattle.volume_core.specs.Sound.{IsSound}

-- ---- the open calls of a stream

-- each with its ticket, in the order of enrolment
abbrev pub calls_in : ℕ → List Ticket → List OpenCall → List (Ticket × OpenCall)
calls_in stream [] cs = []
calls_in stream (t ∷ ts) [] = []
calls_in stream (t ∷ ts) (c ∷ cs) =
    if c.stream == stream then (t, c) ∷ calls_in stream ts cs else calls_in stream ts cs

abbrev pub running : State → ℕ → List (Ticket × OpenCall)
running s stream = calls_in stream s.tickets s.calls

-- an open call, as its stream sees it: how far its replicas are does not show
pub record Open : Type 0 where
  pub number : ℕ
  pub range : BlockRange
  pub call : Call
  pub whole : List ℕ

abbrev pub open_of : Ticket × OpenCall → Open
open_of p = record { number = p.0.number; range = p.0.range; call = call_asked p.0.kind p.1; whole = whole_of p.1 }

abbrev pub opens : State → ℕ → List Open
opens s stream = map open_of (running s stream)

-- the stream has that call open, under that ticket, and no other
pub record IsOpen (stream t : ℕ) (c : Call) (s : State) : Type 0 where
  pub range : BlockRange
  pub whole : List ℕ
  pub is : opens s stream ≡ record { number = t; range = range; call = c; whole = whole } ∷ []

-- the commands of a stream that have the maintenance turn or wait for it, each with its ticket
abbrev pub commands_in : ℕ → List Ticket → List MaintCall → List (Ticket × MaintCall)
commands_in stream [] cs = []
commands_in stream (t ∷ ts) [] = []
commands_in stream (t ∷ ts) (c ∷ cs) =
    if c.stream == stream then (t, c) ∷ commands_in stream ts cs else commands_in stream ts cs

abbrev pub turning : State → ℕ → List (Ticket × MaintCall)
turning s stream = commands_in stream s.maint s.commands

-- ---- what a step owes to the others

-- what no step changes: how the volume began, its size, and how many streams and replicas there are
pub record Origin : Type 0 where
  pub first : Node
  pub opening : Opening
  pub size : ℕ
  pub streams : ℕ
  pub replicas : ℕ

abbrev pub origin_of : State → Origin
origin_of s = record {
  first = s.first;
  opening = s.book.opening;
  size = s.size;
  streams = length s.indices;
  replicas = length s.nodes;
}

-- a step for the stream may append it: an answer of its own, a fault of a line of its own, or another mark
abbrev pub MayAppendMark : ℕ → Mark → Type 0
MayAppendMark stream (mark.Fault w r count) = w ≡ stream
MayAppendMark stream m = Unit {0}

abbrev pub MayAppend : ℕ → List Entry → Type 0
MayAppend stream [] = Unit {0}
MayAppend stream (entry.Answer a ∷ es) = (a.stream ≡ stream) × MayAppend stream es
MayAppend stream (entry.Mark m ∷ es) = MayAppendMark stream m × MayAppend stream es

-- a command of the stream has the maintenance turn
abbrev pub IsInTurn : ℕ → State → Type 0
IsInTurn stream s = Any (λ (p : Ticket × MaintCall). p.0.started ≡ true) (turning s stream)

-- What a step for the stream may make of a World. While another stream's command has the turn it removes no snapshot.
pub record MayGo (stream : ℕ) (s s2 : State) : Type 0 where
  pub sound : IsSound s2
  pub origin : origin_of s2 ≡ origin_of s
  pub added : (es : List Entry) × (s2.book.entries ≡ s.book.entries ++ es) × MayAppend stream es
  pub others : (other : ℕ) → other ≢ stream → running s2 other ≡ running s other
  pub turns : (other : ℕ) → other ≢ stream → turning s2 other ≡ turning s other
  pub gave_up : (other : ℕ) → other ≢ stream → gave_up_at s2.gave_up other ≡ gave_up_at s.gave_up other
  pub removes : (other : ℕ) → other ≢ stream → IsInTurn other s → (name : List ℕ) → RemovesNone name added.0

-- ---- what its own stream sees

-- nothing
pub record Stays (stream : ℕ) (s s2 : State) : Type 0 where
  pub entries : s2.book.entries ≡ s.book.entries
  pub same : opens s2 stream ≡ opens s stream

-- its call is open now, under that ticket
pub record Begun (stream t : ℕ) (c : Call) (s s2 : State) : Type 0 where
  pub entries : s2.book.entries ≡ s.book.entries
  pub is_open : IsOpen stream t c s2

-- its call is answered, behind these entries, and none is open
pub record IsAnsweredTo (stream : ℕ) (c : Call) (s s2 : State) : Type 0 where
  pub marks : List Entry
  pub answer : Answer
  pub call : answer.call ≡ c
  pub by : answer.stream ≡ stream
  pub entries : s2.book.entries ≡ s.book.entries ++ (marks ++ entry.Answer answer ∷ [])
  pub idle : opens s2 stream ≡ []

-- its call is taken back, and none is open
pub record IsTakenBack (stream : ℕ) (s s2 : State) : Type 0 where
  pub entries : s2.book.entries ≡ s.book.entries
  pub idle : opens s2 stream ≡ []

-- behind a fall stands at most the end of one rebuild
abbrev pub IsBehindMark : List Entry → Type 0
IsBehindMark ends = (ends ≡ []) ⊎ ((q : ℕ) × (ends ≡ entry.Mark (mark.Aborted q) ∷ []))

-- a line of its own has shown a fault, behind which a rebuild may have ended
pub record HasFault (stream r count : ℕ) (s s2 : State) : Type 0 where
  pub ends : List Entry
  pub most : IsBehindMark ends
  pub entries : s2.book.entries ≡ s.book.entries ++ entry.Mark (mark.Fault stream r count) ∷ ends
  pub same : opens s2 stream ≡ opens s stream

-- ---- and of each answer

-- for a stream that has the ticket's call open
abbrev pub ForOwner : ℕ → State → (ℕ → Call → Type 0) → Type 0
ForOwner t s fact = (stream : ℕ) (c : Call) → IsOpen stream t c s → fact stream c

abbrev pub SeesEnrolled : ℕ → Call → Enrolled → State → State → Type 0
SeesEnrolled stream c (enrol.Ticket t) s s2 = Begun stream t c s s2
SeesEnrolled stream c (enrol.OutOfRange place) s s2 = IsAnsweredTo stream c s s2

abbrev pub SeesAdmit : ℕ → ℕ → Call → Admit → State → State → Type 0
SeesAdmit stream t c (admit.Go job) s s2 = Begun stream t c s s2
SeesAdmit stream t c (admit.After other) s s2 = Stays stream s s2
SeesAdmit stream t c (admit.NoReplica place) s s2 = IsAnsweredTo stream c s s2
