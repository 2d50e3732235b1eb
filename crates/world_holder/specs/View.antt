-- What a stream knows of a World that it saw, what it finds of it later, and what it owes when it leaves it.
use Rattle.std.specs.Prelude.{◌≡◌, ◌≢◌, ℕ, ◌==◌, ◌<◌, Bool, true, false, List, [], ◌∷◌, ◌++◌, length, map, Option}
use Rattle.std.specs.Prelude.{Some, None, if◌then◌else◌}
use Rattle.range_turns.specs.declared.ticket.Kind.{Kind}
use Rattle.range_turns.specs.declared.ticket.Kind.TheVariants as kind
use Rattle.range_turns.specs.declared.ticket.Ticket.{Ticket}
use Rattle.volume_model.specs.declared.call.Call.TheVariants as call
use Rattle.volume_model.specs.declared.entry.Entry.{Entry}
use Rattle.volume_model.specs.declared.entry.Entry.TheVariants as entry
use Rattle.volume_model.specs.declared.mark.Mark.{Mark}
use Rattle.volume_model.specs.declared.mark.Mark.TheVariants as mark
use Rattle.volume_model.specs.History.{Spot}
use Rattle.volume_model.specs.OneWorker.{behind_entries}
use Rattle.open_calls.specs.declared.open_call.OpenCall.{OpenCall}
use Rattle.step_answers.specs.declared.parts.Part.{Part}
use Rattle.open_calls.specs.Calls.{call_asked, whole_of}
use Rattle.open_calls.specs.declared.maint.MaintCall.{MaintCall}
use Rattle.open_calls.specs.declared.whole.Whole.{Whole}
use Rattle.volume_core.specs.State.{State, gave_up_at}
use Rattle.volume_core.specs.Sound.{IsSound}
use Rattle.volume_core.specs.Streams.{running, turning, MayGo}
use Rattle.volume_core.specs.State.{opening_of, spot_of}
use Rattle.world_holder.specs.Laid.{parts_for, parts_of, IsLater}
use Rattle.world_holder.specs.Counted.{AreOthersCounted}
use Rattle.stream_steps.specs.Mine.{Mine, OwnCall, Placed, Log}

-- ---- the view

-- a ticket and its call, as their stream's worker sees them
abbrev pub own_call : Ticket × OpenCall → OwnCall
own_call p = record {
  number = p.0.number;
  range = p.0.range;
  started = p.0.started;
  call = call_asked p.0.kind p.1;
  saw = p.1.saw;
  whole = whole_of p.1;
  buffer = p.1.buffer;
  parts = p.1.parts;
  op = p.1.op;
}

-- a command that has the maintenance turn or waits for it
abbrev pub own_turn : Ticket × MaintCall → OwnCall
own_turn p = record {
  number = p.0.number;
  range = p.0.range;
  started = p.0.started;
  call = call.Command p.1.command;
  saw = p.1.saw;
  whole = [];
  buffer = [];
  parts = [];
  op = None;
}

-- how far each replica is: of a read or a write as its call tells, and of an operation on the whole volume as the World
-- keeps it of the one that has started
abbrev pub parts_by : Kind → List Part → List Part → List Part
parts_by kind.Read own kept = own
parts_by kind.Write own kept = own
parts_by kind.Whole own kept = kept

-- a ticket and its call, with how far each replica is
abbrev pub own_with : Ticket × OpenCall → List Part → OwnCall
own_with p kept = record (own_call p) { parts = parts_by p.0.kind p.1.parts kept }

abbrev pub own_at : Option Whole → Ticket × OpenCall → OwnCall
own_at w p = own_with p (parts_for w p.0)

-- what the stream has open: its command of the turn, and then its call
abbrev pub runs : ℕ → State → List OwnCall
runs stream s = map own_turn (turning s stream) ++ map (own_at s.whole) (running s stream)

-- the mark is a fault of a line of the stream
abbrev pub is_own_mark : ℕ → Mark → Bool
is_own_mark stream (mark.Fault s r count) = s == stream
is_own_mark stream m = false

-- the entry is an answer of the stream, or a fault of its lines
abbrev pub is_own : ℕ → Entry → Bool
is_own stream (entry.Answer a) = a.stream == stream
is_own stream (entry.Mark m) = is_own_mark stream m

-- the stream's entries among these, each with where the run stood before it; before the first it stood there
abbrev pub own_entries : ℕ → Spot → List Entry → List Placed
own_entries stream spot [] = []
own_entries stream spot (e ∷ es) =
    let more = own_entries stream (behind_entries spot (e ∷ [])) es in
    if is_own stream e then record { spot = spot; entry = e } ∷ more else more

-- the whole journal, where the stream is alone with the World
abbrev pub log_of : Bool → State → Option Log
log_of true s = Some (record { spot = spot_of s; entries = s.book.entries })
log_of false s = None

-- what a stream, alone with the World or not, knows of it
abbrev pub view : Bool → ℕ → State → Mine
view alone stream s = record {
  stream = stream;
  replicas = length s.nodes;
  entries = own_entries stream (opening_of s) s.book.entries;
  running = runs stream s;
  log = log_of alone s;
}

-- a stream of frames: it has no command of the maintenance turn, and gave no command up
pub record IsFree (stream : ℕ) (s : State) : Type 0 where
  pub turns : turning s stream ≡ []
  pub gave_up : gave_up_at s.gave_up stream ≡ false

-- ---- what it finds, and what it owes

-- no other stream has anything open, or gave a command up
pub record IsAlone (stream : ℕ) (s : State) : Type 0 where
  pub calls : (other : ℕ) → other ≢ stream → running s other ≡ []
  pub turns : (other : ℕ) → other ≢ stream → turning s other ≡ []
  pub gave_up : (other : ℕ) → other ≢ stream → gave_up_at s.gave_up other ≡ false

-- The stream, which saw the World as s, finds it as t. Alone with it, it finds what it saw, and nothing of others.
pub record IsFound (alone : Bool) (stream : ℕ) (s t : State) : Type 0 where
  pub sound : IsSound t
  pub there : stream < length t.indices
  pub later : IsLater stream s t
  pub same : alone ≡ true → (t ≡ s) × IsAlone stream t

-- What it may make of it. How far each replica is with others' calls stays, and what others count on.
pub record Owes (stream : ℕ) (s t : State) : Type 0 where
  pub may : MayGo stream s t
  pub parts : (other : ℕ) → other ≢ stream → parts_of t other ≡ parts_of s other
  pub counted : AreOthersCounted stream s t
