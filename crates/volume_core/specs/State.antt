-- A World as lists.
use Rattle.std.specs.Prelude.{ℕ, Bool, false, List, slice_index_or, Option}
use Rattle.volume_model.specs.declared.mode.Mode.{Mode}
use Rattle.volume_model.specs.PlainState.{PlainState}
use Rattle.volume_model.specs.Names.{names_in}
use Rattle.volume_model.specs.Replay.{replay}
use Rattle.volume_model.specs.History.{Spot}
use Rattle.journal_book.specs.Book.{Book, modes_of}
use Rattle.range_turns.specs.declared.ticket.Ticket.{Ticket}
use Rattle.replica_node.specs.Node.{Node}
use Rattle.replica_node.specs.Volume.{volume_of_node}
use Rattle.open_calls.specs.declared.open_call.OpenCall.{OpenCall}
use Rattle.open_calls.specs.declared.maint.MaintCall.{MaintCall}
use Rattle.open_calls.specs.declared.whole.Whole.{Whole}
use Rattle.open_rebuild.specs.declared.rebuilding.Rebuilding.{Rebuilding}
use Rattle.volume_core.specs.declared.world.EndedRebuild.{EndedRebuild}
use Rattle.volume_core.specs.declared.world.World.{World}

-- The size, the replica that showed how the volume began, the replicas as they are, the tickets that have not ended and
-- the call of each, the one on the whole volume that has started, the tickets of the maintenance turn and the command of
-- each, the rebuild that is open, the one of the command in turn that was aborted, which streams gave a command up for
-- want of memory, how many calls of each stream were answered, and the journal.
pub record State : Type 0 where
  pub size : ℕ
  pub first : Node
  pub nodes : List Node
  pub tickets : List Ticket
  pub calls : List OpenCall
  pub whole : Option Whole
  pub maint : List Ticket
  pub commands : List MaintCall
  pub rebuild : Option Rebuilding
  pub ended : Option EndedRebuild
  pub gave_up : List Bool
  pub indices : List ℕ
  pub book : Book

abbrev pub state_of : World → State
state_of w = record {
  size = w.size;
  first = w.first.value;
  nodes = w.nodes.items;
  tickets = w.turns.tickets;
  calls = w.calls.items;
  whole = w.whole;
  maint = w.maint.tickets;
  commands = w.commands.items;
  rebuild = w.rebuild;
  ended = w.ended;
  gave_up = w.gave_up.items;
  indices = w.indices.items;
  book = w.journal;
}

-- where the run began: the plain state that the first replica was, with the names that were taken, and the modes
abbrev pub opening_of : State → Spot
opening_of s = record {
  state = record { volume = volume_of_node s.first; used = names_in s.book.opening.names };
  modes = s.book.opening.modes;
}

-- the plain state as the journal tells it
abbrev pub told_of : State → PlainState
told_of s = replay (opening_of s).state s.book.entries

-- the mode of each replica
abbrev pub modes_in : State → List Mode
modes_in s = modes_of s.book

-- where the World stands
abbrev pub spot_of : State → Spot
spot_of s = record { state = told_of s; modes = modes_in s }

-- how many calls of the stream were answered
abbrev pub index_at : List ℕ → ℕ → ℕ
index_at indices stream = slice_index_or indices stream 0

-- whether the stream gave a command up that had the turn
abbrev pub gave_up_at : List Bool → ℕ → Bool
gave_up_at gave_up stream = slice_index_or gave_up stream false
