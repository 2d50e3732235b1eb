-- What each step makes of a World.
use Rattle.std.specs.Prelude.{ℕ, ◌+◌, ◌-◌, ◌==◌, max, Bool, false, true, ◌||◌, List, [], ◌∷◌, ◌++◌, length, slice_set}
use Rattle.std.specs.Prelude.{remove, Option, None, Some, if◌then◌else◌}
use Rattle.volume_model.specs.declared.call.Call.{Call}
use Rattle.volume_model.specs.declared.call.Reply.{Reply}
use Rattle.volume_model.specs.declared.entry.Entry.{Entry}
use Rattle.volume_model.specs.declared.entry.Entry.TheVariants as entry
use Rattle.volume_model.specs.declared.mark.Mark.{Mark}
use Rattle.volume_model.specs.declared.mark.Mark.TheVariants as mark
use Rattle.journal_book.specs.Book.{Book}
use Rattle.packed_bytes.specs.Packed.{packed}
use Rattle.packed_entries.specs.Plain.{data_of}
use Rattle.range_turns.specs.declared.ticket.Ticket.{Ticket}
use Rattle.range_turns.specs.Order.{ticket_at, with_started}
use Rattle.replica_node.specs.Node.{Node}
use Rattle.replica_node.specs.Room.{put_at}
use Rattle.open_calls.specs.declared.open_call.OpenCall.{OpenCall}
use Rattle.step_answers.specs.declared.parts.Part.TheVariants.{Taken, Acked}
use Rattle.open_calls.specs.Calls.{open_at, node_at, call_asked, whole_of, with_part_at, read_from, begun}
use Rattle.open_rebuild.specs.declared.rebuilding.Rebuilding.{Rebuilding}
use Rattle.volume_core.specs.Data.{owed_data}
use Rattle.volume_core.specs.State.{State, modes_in, index_at}

-- ---- the journal

-- one entry more, in a place that was made before, and of its data what they are packed to
abbrev pub with_entry : Book → Entry → Book
with_entry b e = record b {
  entries = b.entries ++ e ∷ [];
  spare = b.spare - 1;
  spare_data = b.spare_data - length (packed (data_of e));
}

-- places for so many entries, and for so much data
abbrev pub with_rooms : State → ℕ → ℕ → State
with_rooms s spare spare_data = record s { book = record s.book { spare = spare; spare_data = spare_data } }

-- a place more
abbrev pub with_place : State → State
with_place s = record s { book = record s.book { spare = s.book.spare + 1 } }

-- place for so many bytes beyond those that the open calls bring, where there was less
abbrev pub with_data : State → ℕ → State
with_data s count = record s { book = record s.book { spare_data = max s.book.spare_data (owed_data s.calls + count) } }

-- the answer of a stream's next call
abbrev pub answer_entry : State → ℕ → ℕ → Call → Reply → Entry
answer_entry s stream saw c r = entry.Answer (record {
  call = c;
  reply = r;
  index = index_at s.indices stream;
  saw = saw;
  stream = stream;
})

-- a stream's next call, which saw so much, is answered
abbrev pub answered : State → ℕ → ℕ → Call → Reply → State
answered s stream saw c r = record s {
  indices = slice_set s.indices stream (index_at s.indices stream + 1);
  book = with_entry s.book (answer_entry s stream saw c r);
}

-- a mark
abbrev pub marked : State → Mark → State
marked s m = record s { book = with_entry s.book (entry.Mark m) }

-- ---- a replica fails

-- the replica is the source or the target of the rebuild that is open
abbrev pub has_part : Option Rebuilding → ℕ → Bool
has_part None r = false
has_part (Some b) r = r == b.target || r == b.source

-- so many marks stand where a replica fails: its own, and that of the rebuild in which it has a part
abbrev pub marks_of_fall : Option Rebuilding → ℕ → ℕ
marks_of_fall begun r = if has_part begun r then 2 else 1

-- the rebuild of that replica is aborted, in the mark that stands next
abbrev pub aborted : State → ℕ → State
aborted s target = record s {
  rebuild = None;
  ended = Some (record { target = target; place = length s.book.entries });
  book = with_entry s.book (entry.Mark (mark.Aborted target));
}

-- so it is where a stream gives the rebuild up
abbrev pub given_up : State → ℕ → ℕ → State
given_up s stream target = record (aborted s target) { gave_up = slice_set s.gave_up stream true }

-- the rebuild that is open is aborted where the replica has a part in it
abbrev pub aborted_with : Option Rebuilding → State → ℕ → State
aborted_with None s r = s
aborted_with (Some b) s r = if has_part (Some b) r then aborted s b.target else s

-- what the fall of a replica makes of the World, behind its mark
abbrev pub behind_fall : State → ℕ → State
behind_fall s r = aborted_with s.rebuild s r

-- the line of a stream to the replica failed, so the replica did
abbrev pub faulted : State → ℕ → ℕ → ℕ → State
faulted s stream r count = behind_fall (marked s (mark.Fault stream r count)) r

-- the replica was told to fail
abbrev pub failed : State → ℕ → State
failed s r = behind_fall (marked s (mark.Failed r)) r

-- ---- the call at a place

-- one is enrolled behind all others
abbrev pub enrolled : State → Ticket → OpenCall → State
enrolled s t c = record s { tickets = s.tickets ++ t ∷ []; calls = s.calls ++ c ∷ [] }

-- it is gone
abbrev pub without_call : State → ℕ → State
without_call s i = record s { tickets = remove s.tickets i; calls = remove s.calls i }

-- it starts on these replicas, with these edges and this buffer
abbrev pub started : State → ℕ → List Node → List ℕ → List ℕ → List ℕ → State
started s i nodes front back buffer = record s {
  nodes = nodes;
  tickets = with_started s.tickets i;
  calls = slice_set s.calls i (begun (open_at s.calls i) (modes_in s) front back buffer);
}

-- the replica takes the bytes of the write
abbrev pub wrote : State → ℕ → ℕ → State
wrote s i r = record s {
  nodes = slice_set s.nodes r
      (put_at (node_at s.nodes r) (ticket_at s.tickets i).range.first (whole_of (open_at s.calls i)));
  calls = slice_set s.calls i (with_part_at (open_at s.calls i) r Taken);
}

-- the replica gives the bytes of the read
abbrev pub has_read : State → ℕ → ℕ → State
has_read s i r = record s { calls = slice_set s.calls i (read_from (open_at s.calls i) r (node_at s.nodes r)) }

-- the replica acknowledges its part
abbrev pub acked : State → ℕ → ℕ → State
acked s i r = record s { calls = slice_set s.calls i (with_part_at (open_at s.calls i) r Acked) }

-- it ends with that reply
abbrev pub ended : State → ℕ → Reply → State
ended s i r = answered (without_call s i) (open_at s.calls i).stream (open_at s.calls i).saw
    (call_asked (ticket_at s.tickets i).kind (open_at s.calls i)) r
