-- The calls that were enrolled and have not ended, one for each ticket and in the same order.
use Rattle.std.specs.Prelude.{ℕ, pos, List, [], ◌++◌, length, map, slice_index_or, slice_set, Option, None, Some}
use Rattle.vol_units.specs.Bytes.{bytes_at}
use Rattle.volume_model.specs.declared.mode.Mode.{Mode}
use Rattle.volume_model.specs.declared.call.Call.{Call}
use Rattle.volume_model.specs.declared.call.Call.TheVariants as call
use Rattle.range_turns.specs.declared.ticket.Kind.{Kind}
use Rattle.range_turns.specs.declared.ticket.Kind.TheVariants as kind
use Rattle.replica_node.specs.Node.{Node, blank}
use Rattle.step_answers.specs.declared.parts.Part.{Part}
use Rattle.step_answers.specs.declared.parts.Part.TheVariants.{Taken}
use Rattle.open_calls.specs.declared.open_call.OpenCall.{OpenCall}
use Rattle.step_answers.specs.declared.whole_op.WholeOp.{WholeOp}
use Rattle.step_answers.specs.Parts.{part_for}
use Rattle.step_answers.specs.Asked.{command_of}

-- what stands past the end of the calls
abbrev pub no_call : OpenCall
no_call = record {
  stream = 0;
  saw = 0;
  at = 0;
  length = 0;
  bytes = [];
  front = [];
  back = [];
  buffer = [];
  parts = [];
  op = None;
}

-- the call at a place
abbrev pub open_at : List OpenCall → ℕ → OpenCall
open_at calls i = slice_index_or calls i no_call

-- the replica of a number, and past their end an empty one
abbrev pub node_at : List Node → ℕ → Node
node_at nodes r = slice_index_or nodes r (blank 0)

-- ---- what was asked

abbrev pub whole_asked : Option WholeOp → Call
whole_asked None = call.Ping
whole_asked (Some op) = call.Command (command_of op)

-- what was asked, by a ticket of that kind
abbrev pub call_asked : Kind → OpenCall → Call
call_asked kind.Read c = call.Read (pos c.at) c.length
call_asked kind.Write c = call.Write (pos c.at) c.bytes
call_asked kind.Whole c = whole_asked c.op

-- what is kept of an operation that is enrolled now: it has no bytes
abbrev pub whole_call : ℕ → ℕ → WholeOp → OpenCall
whole_call stream saw op = record no_call { stream = stream; saw = saw; op = Some op }

-- all bytes of the blocks of a started write: those that stay before it, its own, and those that stay behind it
abbrev pub whole_of : OpenCall → List ℕ
whole_of c = (c.front ++ c.bytes) ++ c.back

-- ---- what steps make of one

-- its part of a replica is that now
abbrev pub with_part_at : OpenCall → ℕ → Part → OpenCall
with_part_at c r part = record c { parts = slice_set c.parts r part }

-- the replica of that number gave its bytes
abbrev pub read_from : OpenCall → ℕ → Node → OpenCall
read_from c r node = record c {
  buffer = bytes_at node.disk c.at (length c.buffer);
  parts = slice_set c.parts r Taken;
}

-- it starts on replicas of these modes, with these edges and this buffer
abbrev pub begun : OpenCall → List Mode → List ℕ → List ℕ → List ℕ → OpenCall
begun c modes front back buffer = record c {
  front = front;
  back = back;
  buffer = buffer;
  parts = map part_for modes;
}
