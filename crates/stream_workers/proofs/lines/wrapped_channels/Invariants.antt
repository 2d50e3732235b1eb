use Rattle.std.proofs.Common.{map}
use Rattle.outer_traits.specs.Lines.{TellsMore}
use Rattle.stream_turns.specs.Turn.{AreNewLines}
use Rattle.stream_turns.specs.Volume.{asks_to}
use Rattle.stream_workers.proofs.lines.wrapped_channels.Given as goal

-- So many lines are there, and were asked for.
abbrev pub invariant-loop-replica : goal.invariant-loop-replica
invariant-loop-replica g l = record {
  new : AreNewLines l.worker l.replica (map (λ c. g.V.Wrapped.Line.ends c.line) l.channels.items)
      (map (λ c. g.V.Wrapped.Line.count c.line) l.channels.items)
      (map (λ c. g.V.Wrapped.Line.carried c.line) l.channels.items);
  asked : TellsMore (g.W.Wiring.asked l.fn.wiring) (g.W.Wiring.asked l.wiring) (asks_to l.plans l.worker l.replica);
}
