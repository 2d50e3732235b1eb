use Rattle.std.proofs.Common.{ℕ, map, ◌≡◌, ◌++◌}
use Rattle.outer_traits.specs.Lines.{AreLinesOf, RecordsOf}
use Rattle.outer_traits.proofs.wiring.take_back_all.Given as goal

abbrev pub invariant-loop-line : goal.invariant-loop-line
invariant-loop-line g l = record {
  all : l.fn.lines.items ≡ l.yielded ++ l.line-iterator.rest.items;
  counts : (worker : ℕ) → AreLinesOf worker 0 (map g.W.L.Line.ends l.fn.lines.items)
      → RecordsOf (g.W.Wiring.counts l.fn.wiring) (g.W.Wiring.counts l.wiring) worker (map g.W.L.Line.count l.yielded);
  carried : (worker : ℕ) → AreLinesOf worker 0 (map g.W.L.Line.ends l.fn.lines.items)
      → RecordsOf (g.W.Wiring.carried l.fn.wiring) (g.W.Wiring.carried l.wiring) worker (map g.W.L.Line.carried l.yielded);
  asked : g.W.Wiring.asked l.wiring ≡ g.W.Wiring.asked l.fn.wiring;
}
