use Rattle.std.proofs.Common.{◌≡◌, ◌-◌, length}
use Rattle.script_text.specs.Fed.{IsFed}
use Rattle.script_text.proofs.fed_reader.next_head_of.Given as goal

-- the reader has more of the same bytes each time
abbrev pub invariant-loop-head : goal.invariant-loop-head
invariant-loop-head l = record {
  fed : IsFed l.reader l.end l.bytes;
  same : l.reader.place ≡ l.fn.reader.place;
}

abbrev pub decreases-loop-head : goal.decreases-loop-head
decreases-loop-head l = length l.bytes - l.end
