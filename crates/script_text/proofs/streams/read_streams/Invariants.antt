use Rattle.std.proofs.Common.{◌≡◌, ◌+◌, length}
use Rattle.std.specs.Vec.Iter.{into_iter_items, into_iter_len}
use Rattle.script_text.proofs.StreamsLemmas.{AreReadSoFar}
use Rattle.script_text.proofs.streams.read_streams.Given as goal

abbrev pub invariant-loop-head : goal.invariant-loop-head
invariant-loop-head l = record {
  read : AreReadSoFar l.room l.place l.fn.heads l.fn.bytes l.streams.items l.left (into_iter_items l.head-iterator) l.rest;
  count : into_iter_len l.head-iterator ≡ length (into_iter_items l.head-iterator);
  end : l.end ≡ l.place + length l.fn.bytes;
}
