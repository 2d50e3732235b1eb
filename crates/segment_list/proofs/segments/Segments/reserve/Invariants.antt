use Rattle.std.proofs.Common.{◌≡◌, ◌+◌, ◌-◌, ◌<◌, ◌≤◌}
use Rattle.segment_list.proofs.segments.Segments.reserve.Given as goal

abbrev pub invariant-loop-self : goal.invariant-loop-self
invariant-loop-self g l = record {
  items : l.self.items ≡ l.fn.self.items;
  more : l.fn.self.room ≤ l.self.room;
  same : l.additional ≤ l.fn.self.room → l.self.room ≡ l.fn.self.room;
  most : l.fn.self.room < l.additional → l.self.room < l.additional + g.row.SIZE;
}

abbrev pub decreases-loop-self : goal.decreases-loop-self
decreases-loop-self g l = l.additional - l.self.room
