-- What the steps on the whole volume, of the maintenance turn and of folding make of a World.
use Rattle.std.specs.Prelude.{ℕ, ◌+◌, List, [], ◌∷◌, ◌++◌, length, true, false, map, slice_set, Option, None, Some}
use Rattle.std.specs.Option.{option_map}
use Rattle.vol_units.specs.Name.{sys_name}
use Rattle.sparse_image.specs.Image.{Tables}
use Rattle.volume_model.specs.declared.call.Call.TheVariants as call
use Rattle.volume_model.specs.declared.call.Reply.{Reply}
use Rattle.volume_model.specs.declared.call.Reply.TheVariants as reply
use Rattle.volume_model.specs.declared.entry.Entry.TheVariants as entry
use Rattle.volume_model.specs.declared.mark.FoldOrDrop.{FoldOrDrop}
use Rattle.volume_model.specs.declared.mark.Mark.TheVariants as mark
use Rattle.volume_model.specs.declared.mode.Mode.{Mode}
use Rattle.volume_model.specs.declared.mode.Mode.TheVariants.{Wo}
use Rattle.range_turns.specs.declared.ticket.Kind.TheVariants as kind
use Rattle.range_turns.specs.declared.ticket.Ticket.{Ticket}
use Rattle.range_turns.specs.Order.{ticket_at, with_started}
use Rattle.replica_node.specs.Node.{Node}
use Rattle.replica_node.specs.Fold.{page_folded}
use Rattle.replica_node.specs.Held.{emptied}
use Rattle.step_answers.specs.declared.whole_op.WholeOp.{WholeOp}
use Rattle.step_answers.specs.declared.whole_op.WholeOp.TheVariants as whole
use Rattle.step_answers.specs.Asked.{command_of}
use Rattle.open_calls.specs.Calls.{open_at, node_at, whole_call}
use Rattle.step_answers.specs.Parts.{part_for}
use Rattle.open_calls.specs.declared.maint.MaintCall.{MaintCall}
use Rattle.open_calls.specs.declared.whole.Whole.{Whole}
use Rattle.open_calls.specs.Due.{part_on}
use Rattle.open_calls.specs.Whole.{parted, part_acked}
use Rattle.open_calls.specs.Maint.{command_at}
use Rattle.open_rebuild.specs.declared.rebuilding.Rebuilding.{Rebuilding}
use Rattle.volume_core.specs.declared.world.EndedRebuild.{EndedRebuild}
use Rattle.volume_core.specs.State.{State, modes_in}
use Rattle.volume_core.specs.Turn.{turn_ended, without_command}
use Rattle.volume_core.specs.Steps.{with_place, with_entry, answered, given_up, enrolled, without_call}

-- ---- the maintenance turn

-- a ticket of all blocks, which has not started
abbrev pub whole_ticket : ℕ → Ticket
whole_ticket number = record {
  number = number;
  range = record { first = 0; end = 0 };
  kind = kind.Whole;
  started = false;
}

-- a command is put behind those that have the turn or wait for it, with a place for its answer
abbrev pub maint_enrolled : State → ℕ → MaintCall → State
maint_enrolled s number c = record (with_place s) {
  maint = s.maint ++ whole_ticket number ∷ [];
  commands = s.commands ++ c ∷ [];
}

-- the first has the turn
abbrev pub turn_begun : State → State
turn_begun s = record s { maint = with_started s.maint 0 }

-- it is abandoned for want of memory: where its rebuild is open, that is given up, and the mark told in its answer
abbrev pub gives_up : State → ℕ → State
gives_up s target = turn_ended (given_up s (command_at s.commands 0).stream target)
    (reply.Aborted (length s.book.entries))

-- where its rebuild was aborted, it ends with the place of that mark
abbrev pub ends_aborted : State → ℕ → State
ends_aborted s place = turn_ended s (reply.Aborted place)

-- and else it gives the turn back without an answer: its stream gave it up
abbrev pub gives_back : State → State
gives_back s = record (without_command s 0) {
  gave_up = slice_set s.gave_up (command_at s.commands 0).stream true;
}

abbrev pub abandoned_with : Option Rebuilding → Option EndedRebuild → State → State
abandoned_with (Some b) ended s = gives_up s b.target
abandoned_with None (Some e) s = ends_aborted s e.place
abandoned_with None None s = gives_back s

abbrev pub turn_abandoned : State → State
turn_abandoned s = abandoned_with s.rebuild s.ended s

-- ---- the whole volume

-- an operation of a stream, which saw so much, is enrolled behind all calls
abbrev pub whole_enrolled : State → ℕ → ℕ → ℕ → WholeOp → State
whole_enrolled s number stream saw op = enrolled s (whole_ticket number) (whole_call stream saw op)

-- the one at i starts, with these spare heads: each replica that has not failed owes its part
abbrev pub begun_of : State → ℕ → WholeOp → List (Option Tables) → Whole
begun_of s i op spares = record {
  number = (ticket_at s.tickets i).number;
  op = op;
  parts = map part_for (modes_in s);
  spares = spares;
}

abbrev pub whole_begun : State → ℕ → WholeOp → List (Option Tables) → State
whole_begun s i op spares = record (with_place s) {
  tickets = with_started s.tickets i;
  whole = Some (begun_of s i op spares);
}

-- ---- the barrier of an add

-- the engine's own name under which it closes the heads: that of the source's head's number
abbrev pub barrier_name : State → ℕ → List ℕ
barrier_name s source = sys_name (node_at s.nodes source).number

-- the target is written from now on, with its source's layers and no block
abbrev pub barrier_modes : State → ℕ → List Mode
barrier_modes s target = slice_set (modes_in s) target Wo

abbrev pub barrier_nodes : State → Rebuilding → List Node
barrier_nodes s b = slice_set s.nodes b.target (emptied (node_at s.nodes b.source))

-- each replica that has not failed owes its part, the target too
abbrev pub barrier_of : State → ℕ → Rebuilding → List (Option Tables) → Whole
barrier_of s i b spares = record {
  number = (ticket_at s.tickets i).number;
  op = whole.Barrier b.target;
  parts = map part_for (barrier_modes s b.target);
  spares = spares;
}

-- the one at i starts, of that rebuild, whose target is that replica then, and with these spare heads: its mark stands in
-- the journal
abbrev pub barrier_put : State → ℕ → Rebuilding → Node → List (Option Tables) → State
barrier_put s i b target spares = record s {
  nodes = slice_set s.nodes b.target target;
  tickets = with_started s.tickets i;
  whole = Some (barrier_of s i b spares);
  rebuild = Some b;
  book = with_entry s.book (entry.Mark (mark.Added b.target b.source (barrier_name s b.source)));
}

-- with four places more: its mark takes one, and the others are for its ticket, for the fall of its target and for the
-- end of its rebuild
abbrev pub with_places : State → State
with_places s = record s { book = record s.book { spare = s.book.spare + 4 } }

abbrev pub barrier_begun : State → ℕ → Rebuilding → List (Option Tables) → State
barrier_begun s i b spares = barrier_put (with_places s) i b (emptied (node_at s.nodes b.source)) spares

-- pages may be copied
abbrev pub past_barrier : Rebuilding → Rebuilding
past_barrier b = record b { may_copy = true }

-- ---- its parts and its end

-- the replica takes its part, and acknowledges it
abbrev pub whole_parted : State → Whole → ℕ → State
whole_parted s w r = record s {
  nodes = slice_set s.nodes r (part_on w.op (node_at s.nodes r));
  whole = Some (parted w r);
}

abbrev pub whole_acked : State → Whole → ℕ → State
whole_acked s w r = record s { whole = Some (part_acked w r) }

-- the command ends with it that has the turn; a snapshot has none
abbrev pub turn_over : WholeOp → State → State
turn_over (whole.Snapshot name) s = s
turn_over (whole.Remove name) s = without_command s 0
turn_over (whole.Revert name) s = without_command s 0
turn_over (whole.Purge f) s = without_command s 0
turn_over (whole.Barrier r) s = without_command s 0

-- the operation at i goes
abbrev pub without_whole : State → ℕ → State
without_whole s i = record (without_call s i) { whole = None }

-- it ends with the answer of its command
abbrev pub whole_ended : State → ℕ → WholeOp → Reply → State
whole_ended s i op r = answered (turn_over op (without_whole s i)) (open_at s.calls i).stream (open_at s.calls i).saw
    (call.Command (command_of op)) r

-- it ends with the mark of a part of a purge
abbrev pub whole_marked : State → ℕ → FoldOrDrop → State
whole_marked s i f = record (without_whole s i) { book = with_entry s.book (entry.Mark (mark.Purged f)) }

-- the barrier at i ends, and its rebuild goes on if it is open: its command keeps the turn
abbrev pub barrier_ended : State → ℕ → State
barrier_ended s i = record (without_whole s i) { rebuild = option_map past_barrier s.rebuild }

-- ---- folding

-- the replica folds a page of c onto p
abbrev pub folded_on : State → ℕ → List ℕ → List ℕ → ℕ → State
folded_on s r p c page = record s { nodes = slice_set s.nodes r (page_folded (node_at s.nodes r) p c page) }
