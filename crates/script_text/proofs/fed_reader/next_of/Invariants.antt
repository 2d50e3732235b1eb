use Rattle.std.proofs.Common.{◌≡◌, ◌-◌, length}
use Rattle.script_text.specs.Fed.{IsFed}
use Rattle.script_text.proofs.fed_reader.next_of.Given as goal

-- the reader has more of the same bytes each time
abbrev pub invariant-loop-frame : goal.invariant-loop-frame
invariant-loop-frame l = record {
  fed : IsFed l.reader l.end l.bytes;
  same : l.reader.place ≡ l.fn.reader.place;
}

abbrev pub decreases-loop-frame : goal.decreases-loop-frame
decreases-loop-frame l = length l.bytes - l.end
