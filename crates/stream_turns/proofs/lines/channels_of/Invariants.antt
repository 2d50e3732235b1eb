use Rattle.std.proofs.Common.{map}
use Rattle.outer_traits.specs.Lines.{TellsMore, TellsSame}
use Rattle.stream_turns.specs.Turn.{AreNewLines}
use Rattle.stream_turns.specs.Volume.{asks_to}
use Rattle.stream_turns.proofs.lines.channels_of.Given as goal

-- So many lines are there, and were asked for; else the wiring tells the same as before.
abbrev pub invariant-loop-replica : goal.invariant-loop-replica
invariant-loop-replica g l = record {
  new : AreNewLines l.worker l.replica (map (λ c. g.W.L.Line.ends c.line) l.channels.items)
      (map (λ c. g.W.L.Line.count c.line) l.channels.items)
      (map (λ c. g.W.L.Line.carried c.line) l.channels.items);
  counts : TellsSame (g.W.Wiring.counts l.fn.wiring) (g.W.Wiring.counts l.wiring);
  carried : TellsSame (g.W.Wiring.carried l.fn.wiring) (g.W.Wiring.carried l.wiring);
  asked : TellsMore (g.W.Wiring.asked l.fn.wiring) (g.W.Wiring.asked l.wiring) (asks_to l.plans l.worker l.replica);
}
