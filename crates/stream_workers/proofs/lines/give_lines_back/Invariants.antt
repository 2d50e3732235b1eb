use Rattle.std.proofs.Common.{ℕ, map, ◌≡◌, ◌++◌}
use Rattle.outer_traits.specs.Lines.{AreLinesOf, RecordsOf}
use Rattle.stream_workers.proofs.lines.give_lines_back.Given as goal

abbrev pub invariant-loop-channel : goal.invariant-loop-channel
invariant-loop-channel g l = record {
  all : l.fn.channels.items ≡ l.yielded ++ l.channel-iterator.rest.items;
  counts : (worker : ℕ) → AreLinesOf worker 0 (map (λ c. g.V.Wrapped.Line.ends c.line) l.fn.channels.items)
      → RecordsOf (g.W.Wiring.counts l.fn.wiring) (g.W.Wiring.counts l.wiring) worker (map (λ c. g.V.Wrapped.Line.count c.line) l.yielded);
  carried : (worker : ℕ) → AreLinesOf worker 0 (map (λ c. g.V.Wrapped.Line.ends c.line) l.fn.channels.items)
      → RecordsOf (g.W.Wiring.carried l.fn.wiring) (g.W.Wiring.carried l.wiring) worker
      (map (λ c. g.V.Wrapped.Line.carried c.line) l.yielded);
  asked : g.W.Wiring.asked l.wiring ≡ g.W.Wiring.asked l.fn.wiring;
}
