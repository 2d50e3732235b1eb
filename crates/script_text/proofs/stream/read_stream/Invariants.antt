use Rattle.std.proofs.Common.{◌≡◌, ◌+◌, length}
use Rattle.script_text.proofs.StreamLemmas.{AreRead}
use Rattle.script_text.proofs.stream.read_stream.Given as goal

-- the calls so far, and what is left behind them
abbrev pub invariant-loop-left : goal.invariant-loop-left
invariant-loop-left l = record {
  read : AreRead l.room l.fn.bytes l.count l.left;
  end : l.end ≡ l.place + length l.fn.bytes;
}

abbrev pub decreases-loop-left : goal.decreases-loop-left
decreases-loop-left l = length l.left
