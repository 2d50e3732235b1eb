use Rattle.std.proofs.Common.{◌≡◌, ◌≤◌, true, false, ◌++◌, length, map, All}
use Rattle.std.specs.Vec.Iter.{into_iter_items}
use Rattle.outer_traits.specs.Lines.{TellsMore}
use Rattle.stream_turns.specs.Volume.{asks_from, heads_of}
use Rattle.volume_core.specs.State.{state_of, opening_of}
use Rattle.script_text.specs.Good.{backs_up}
use Rattle.control_worker.specs.Store.{TellsFault}
use Rattle.stream_turns.specs.Store.{StoreOfRun}
use Rattle.stream_turns.proofs.SoFar.{StreamsSoFar}
use Rattle.stream_turns.proofs.serving.serve_streams.Given as goal

-- The streams before have had their turns, the next has the number of them, and their headers are kept. Their lines
-- were asked for. The target is what the journal tells of it.
abbrev pub invariant-loop-stream : goal.invariant-loop-stream
invariant-loop-stream g l = record {
  far : StreamsSoFar l.number l.fn.streams.items (into_iter_items l.stream-iterator) l.fn.world l.world
      (g.W.Wiring.counts l.wiring) (g.W.Wiring.carried l.wiring);
  heads : l.heads.items ++ map heads_of (into_iter_items l.stream-iterator) ≡ map heads_of l.fn.streams.items;
  asked : TellsMore (g.W.Wiring.asked l.fn.wiring) (g.W.Wiring.asked l.wiring)
      (asks_from l.plans (length l.fn.world.nodes.items) l.number);
  store : g.T.Target.tells ≡ true → StoreOfRun (g.T.Target.holds l.fn.target) (g.T.Target.faults l.fn.target)
      (g.T.Target.holds l.target) (g.T.Target.faults l.target) l.volume (opening_of (state_of l.fn.world)) l.world.journal.entries;
  fault : TellsFault l.target_fault (g.T.Target.faults l.fn.target) (g.T.Target.faults l.target);
  later : g.T.Target.faults l.fn.target ≤ g.T.Target.faults l.target;
  unasked : All (λ s. backs_up s ≡ false) l.fn.streams.items → l.target ≡ l.fn.target;
}
