use Rattle.std.proofs.Common.{◌≡◌, ◌+◌, ◌≤◌, ◌++◌, length}
use Rattle.segment_list.proofs.segments.Segments.append.Given as goal

abbrev pub invariant-loop-rest : goal.invariant-loop-rest
invariant-loop-rest g l = record {
  items : l.self.items ++ l.rest ≡ l.fn.self.items ++ l.items;
  room : l.self.room + length l.items ≡ l.fn.self.room + length l.rest;
  fits : length l.rest ≤ l.self.room;
}

abbrev pub decreases-loop-rest : goal.decreases-loop-rest
decreases-loop-rest g l = length l.rest
