-- The maintenance turn: commands that change more than once, or what others change, have it one after another, from their
-- first step to their answer. Their tickets are a list of their own, in which each waits for all before it.
use Rattle.std.specs.Prelude.{◌≡◌, ◌≢◌, ℕ, ◌<◌, ◌≤◌, List, length, slice_index_or, Some, true, false}
use Rattle.vol_units.specs.Name.{begins_sys}
use Rattle.volume_model.specs.declared.command.Command.{Command}
use Rattle.volume_model.specs.declared.command.Command.TheVariants as command
use Rattle.volume_model.specs.declared.entry.Entry.{Entry}
use Rattle.volume_model.specs.declared.mark.FoldOrDrop.{FoldOrDrop}
use Rattle.volume_model.specs.declared.mode.Mode.{Mode}
use Rattle.volume_model.specs.declared.mode.Mode.TheVariants.{Rw}
use Rattle.volume_model.specs.Modes.{mode_of}
use Rattle.volume_model.specs.Snapshots.{Snapshots}
use Rattle.volume_model.specs.Purge.{CanBeDone}
use Rattle.range_turns.specs.declared.ticket.Kind.TheVariants as kind
use Rattle.range_turns.specs.declared.ticket.Ticket.{Ticket}
use Rattle.range_turns.specs.Order.{ticket_at, AreInOrder}
use Rattle.replica_node.specs.Node.{Node}
use Rattle.open_calls.specs.declared.open_call.OpenCall.{OpenCall}
use Rattle.step_answers.specs.declared.whole_op.WholeOp.{WholeOp}
use Rattle.step_answers.specs.declared.whole_op.WholeOp.TheVariants as whole
use Rattle.step_answers.specs.Asked.{command_of}
use Rattle.open_calls.specs.Calls.{open_at, node_at}
use Rattle.open_calls.specs.Clients.{behind_last}
use Rattle.open_calls.specs.declared.maint.MaintCall.{MaintCall}
use Rattle.open_calls.specs.Whole.{IsFolded}

-- ---- the commands

-- what stands past their end
abbrev pub no_command : MaintCall
no_command = record { stream = 0; saw = 0; command = command.Purge }

-- the command at a place
abbrev pub command_at : List MaintCall → ℕ → MaintCall
command_at commands k = slice_index_or commands k no_command

-- a command that wants the turn
abbrev pub IsMaint : Command → Type 0
IsMaint (command.Remove name) = Unit {0}
IsMaint (command.Revert name) = Unit {0}
IsMaint command.Purge = Unit {0}
IsMaint (command.Add r) = Unit {0}
IsMaint (command.Backup backup snapshot) = Unit {0}
IsMaint c = ⊥

-- no command that has the turn or waits for it is the stream's
abbrev pub HasNoCommand : ℕ → List MaintCall → Type 0
HasNoCommand stream commands = (k : ℕ) → k < length commands → (command_at commands k).stream ≢ stream

-- that stream's command has the turn: it is the first, and has started
pub record HasTurn (maint : List Ticket) (commands : List MaintCall) (stream : ℕ) (c : Command) : Type 0 where
  pub some : 0 < length commands
  pub started : (ticket_at maint 0).started ≡ true
  pub own : (command_at commands 0).stream ≡ stream
  pub command : (command_at commands 0).command ≡ c

-- ---- what they enrol for the whole volume

-- a snapshot is asked by a stream of its own, under a user's name, and anything else by the command that has the turn
abbrev pub IsAskedBy : List Ticket → List MaintCall → ℕ → WholeOp → Type 0
IsAskedBy maint commands stream (whole.Snapshot name) = (begins_sys name ≡ false) × HasNoCommand stream commands
IsAskedBy maint commands stream op = HasTurn maint commands stream (command_of op)

-- what that command asks: anything but a snapshot
abbrev pub IsOfTurn : WholeOp → Type 0
IsOfTurn (whole.Snapshot name) = ⊥
IsOfTurn op = Unit {0}

-- a part of a purge can be done, and each replica that is read and written has folded its child
pub record CanGo (s : Snapshots) (modes : List Mode) (nodes : List Node) (f : FoldOrDrop) : Type 0 where
  pub can : CanBeDone s.tree s.on f
  pub folded : (r : ℕ) → mode_of modes r ≡ Rw → IsFolded f (node_at nodes r)

-- the operation waits: a part of a purge can still be done
abbrev pub CanStill : Snapshots → List Mode → List Node → WholeOp → Type 0
CanStill s modes nodes (whole.Purge f) = CanGo s modes nodes f
CanStill s modes nodes op = Unit {0}

-- What a ticket for the whole volume is for. What the command asks that has the turn, saw what the command did.
pub record IsWholeOf (s : Snapshots) (modes : List Mode) (nodes : List Node) (maint : List Ticket)
    (commands : List MaintCall) (t : Ticket) (c : OpenCall) : Type 0 where
  pub op : WholeOp
  pub is : c.op ≡ Some op
  pub asked : IsAskedBy maint commands c.stream op
  pub saw : IsOfTurn op → c.saw ≡ (command_at commands 0).saw
  pub still : t.started ≡ false → CanStill s modes nodes op

-- A ticket and its call: a stream with a command there has nothing else open but for the whole volume.
pub record FitsMaint (s : Snapshots) (modes : List Mode) (nodes : List Node) (maint : List Ticket)
    (commands : List MaintCall) (t : Ticket) (c : OpenCall) : Type 0 where
  pub apart : (k : ℕ) → k < length commands → c.stream ≡ (command_at commands k).stream → t.kind ≡ kind.Whole
  pub whole : t.kind ≡ kind.Whole → IsWholeOf s modes nodes maint commands t c

-- ---- all of it

-- Each command has its ticket, and the tickets wait for one another. No two commands are of one stream, and each has seen
-- its stream's last answer and no more than there is.
pub record AreQueued (streams : ℕ) (entries : List Entry) (maint : List Ticket) (commands : List MaintCall)
    : Type 0 where
  pub paired : length commands ≡ length maint
  pub order : AreInOrder maint
  pub kinds : (k : ℕ) → k < length maint → (ticket_at maint k).kind ≡ kind.Whole
  pub want : (k : ℕ) → k < length commands → IsMaint (command_at commands k).command
  pub within : (k : ℕ) → k < length commands → (command_at commands k).stream < streams
  pub alone : (k l : ℕ) → k < l → l < length commands → (command_at commands k).stream ≢ (command_at commands l).stream
  pub past : (k : ℕ) → k < length commands
      → behind_last (command_at commands k).stream entries ≤ (command_at commands k).saw
  pub saw : (k : ℕ) → k < length commands → (command_at commands k).saw ≤ length entries

-- and each ticket with its call fits them
pub record AreMaint (s : Snapshots) (streams : ℕ) (entries : List Entry) (modes : List Mode) (tickets : List Ticket)
    (calls : List OpenCall) (nodes : List Node) (maint : List Ticket) (commands : List MaintCall) : Type 0 where
  pub queued : AreQueued streams entries maint commands
  pub fits : (i : ℕ) → i < length tickets
      → FitsMaint s modes nodes maint commands (ticket_at tickets i) (open_at calls i)
