use Rattle.std.proofs.Common.{◌≡◌, ◌∷◌, ◌++◌, ◌+◌, length, map, refl, sym, ap, subst, arith}
use Rattle.std.proofs.lemmas.List.{nil_from_length}
use Rattle.std.specs.Vec.Iter.{into_iter_items}
use Rattle.outer_traits.proofs.Lines.{TellsMore-nil}
use Rattle.volume_core.specs.State.{state_of, opening_of}
use Rattle.volume_core.specs.Streams.{Origin}
use Rattle.world_holder.proofs.Grow.{same_opening}
use Rattle.stream_turns.specs.Store.{StoreOfRun}
use Rattle.stream_turns.proofs.Backups.{store_turn, fault_more, unasked_on}
use Rattle.stream_turns.proofs.StoreLemmas.{store_none}
use Rattle.stream_turns.specs.Volume.{heads_of}
use Rattle.stream_turns.proofs.Asks.{all_asked, one_worker_more}
use Rattle.stream_turns.proofs.SoFar.{StreamsSoFar, is_first, next_taken, no_streams, streams_more, streams_all, streams_count}
use Rattle.stream_turns.proofs.SoFar.{one_kept}
use Rattle.stream_turns.proofs.serving.serve_streams.Goals as goal

pub loop-stream-init : goal.loop-stream-init
loop-stream-init g c =
    let gives : into_iter_items c.into_iter-stream-iterator.result ≡ c.args.streams.items =
    c.into_iter-stream-iterator.ensures.into_iter_gives.0 in
    record {
      far = subst (λ xs. StreamsSoFar 0 c.args.streams.items xs c.args.world c.args.world
          (g.W.Wiring.counts c.args.wiring.now) (g.W.Wiring.carried c.args.wiring.now)) (sym gives)
          (no_streams c.args.streams.items c.args.world (g.W.Wiring.counts c.args.wiring.now)
          (g.W.Wiring.carried c.args.wiring.now) c.requires.between c.requires.begun);
      heads = λ i. c.new-heads.ensures.items i ++ map heads_of (gives i);
      asked = TellsMore-nil _;
      store = λ tells. subst (StoreOfRun (g.T.Target.holds c.args.target.now) (g.T.Target.faults c.args.target.now)
          (g.T.Target.holds c.args.target.now) (g.T.Target.faults c.args.target.now) c.args.volume.now
          (opening_of (state_of c.args.world))) (sym c.requires.begun)
          (store_none (g.T.Target.holds c.args.target.now) (g.T.Target.faults c.args.target.now) c.args.volume.now
          (opening_of (state_of c.args.world)));
      fault = refl;
      later = omega arith;
      unasked = λ none. refl;
    }

pub serve_stream-requires-clause-first : goal.serve_stream-requires-clause-first
serve_stream-requires-clause-first g c κs within =
    is_first c.loop-stream.number c.args.streams.items (into_iter_items c.loop-stream.stream-iterator) c.args.world
    c.loop-stream.world (g.W.Wiring.counts c.loop-stream.wiring) (g.W.Wiring.carried c.loop-stream.wiring)
    c.loop-stream.invariant.far

pub serve_stream-requires-clause-taken : goal.serve_stream-requires-clause-taken
serve_stream-requires-clause-taken g c κs within =
    next_taken c.loop-stream.number c.args.streams.items (into_iter_items c.next.new.self) c.in-Some.stream c.args.world
    c.loop-stream.world (g.W.Wiring.counts c.loop-stream.wiring) (g.W.Wiring.carried c.loop-stream.wiring)
    (subst (λ xs. StreamsSoFar c.loop-stream.number c.args.streams.items xs c.args.world c.loop-stream.world
    (g.W.Wiring.counts c.loop-stream.wiring) (g.W.Wiring.carried c.loop-stream.wiring)) c.in-Some.ensures.steps.0
    c.loop-stream.invariant.far) c.requires.taken

pub loop-stream-preserved : goal.loop-stream-preserved
loop-stream-preserved g c =
    let all = c.args.streams.items in
    let rest = into_iter_items c.next.new.self in
    let stream = c.in-Some.stream in
    let cut : into_iter_items c.loop-stream.stream-iterator ≡ stream ∷ rest = c.in-Some.ensures.steps.0 in
    record {
      far = streams_more c.loop-stream.number (c.loop-stream.number + 1) all rest stream c.args.world c.loop-stream.world
          c.in_ok-turned.turned.world
          (g.W.Wiring.counts c.loop-stream.wiring) (g.W.Wiring.counts c.serve_stream.new.wiring)
          (g.W.Wiring.carried c.loop-stream.wiring) (g.W.Wiring.carried c.serve_stream.new.wiring)
          (subst (λ xs. StreamsSoFar c.loop-stream.number all xs c.args.world c.loop-stream.world
          (g.W.Wiring.counts c.loop-stream.wiring) (g.W.Wiring.carried c.loop-stream.wiring)) cut
          c.loop-stream.invariant.far)
          c.in_ok-turned.ensures.between c.in_ok-turned.ensures.origin c.in_ok-turned.ensures.turn c.in_ok-turned.ensures.counts
          c.in_ok-turned.ensures.carried refl;
      heads = one_kept heads_of all rest stream _ c.loop-stream.heads.items c.push.new.self.items c.in_ok-push.ensures.items
          c.heads_in.ensures
          (subst (λ xs. c.loop-stream.heads.items ++ map heads_of xs ≡ map heads_of all) cut c.loop-stream.invariant.heads);
      asked = one_worker_more c.args.plans.now (length c.loop-stream.world.nodes.items) (length c.args.world.nodes.items)
          c.loop-stream.number (c.loop-stream.number + 1) _ _ _ c.loop-stream.invariant.asked c.in_ok-turned.ensures.asked
          (ap (λ (o : Origin). o.replicas) c.loop-stream.invariant.far.origin) refl;
      store = λ tells. store_turn _ _ (g.T.Target.holds c.loop-stream.target) (g.T.Target.faults c.loop-stream.target)
          (g.T.Target.holds c.serve_stream.new.target) (g.T.Target.faults c.serve_stream.new.target) c.args.volume.now
          c.loop-stream.number stream (opening_of (state_of c.args.world)) c.loop-stream.world c.in_ok-turned.turned.world _ _
          (same_opening (state_of c.args.world) (state_of c.loop-stream.world) c.loop-stream.invariant.far.origin)
          (is_first c.loop-stream.number all (into_iter_items c.loop-stream.stream-iterator) c.args.world c.loop-stream.world
          (g.W.Wiring.counts c.loop-stream.wiring) (g.W.Wiring.carried c.loop-stream.wiring) c.loop-stream.invariant.far)
          c.in_ok-turned.ensures.turn (λ some. c.in_ok-turned.ensures.store some tells)
          (λ no. let same = c.serve_stream.ensures.unasked no in (ap g.T.Target.holds same, ap g.T.Target.faults same))
          (c.loop-stream.invariant.store tells);
      fault = fault_more c.loop-stream.target_fault c.in_ok-turned.turned.target_fault _ _ _ c.loop-stream.invariant.fault
          c.in_ok-turned.ensures.fault c.loop-stream.invariant.later c.serve_stream.ensures.later;
      later = omega (arith, c.loop-stream.invariant.later, c.serve_stream.ensures.later);
      unasked = unasked_on all c.loop-stream.invariant.far.done rest stream (into_iter_items c.loop-stream.stream-iterator) cut
          c.loop-stream.invariant.far.cut c.serve_stream.ensures.unasked c.loop-stream.invariant.unasked;
    }

pub returns-clause-turns : goal.returns-clause-turns
returns-clause-turns g c =
    streams_all c.loop-stream.number c.args.streams.items (into_iter_items c.loop-stream.stream-iterator) c.args.world
    c.loop-stream.world (g.W.Wiring.counts c.loop-stream.wiring) (g.W.Wiring.carried c.loop-stream.wiring)
    c.loop-stream.invariant.far (nil_from_length _ (omega (arith, c.in-None.ensures.steps.0)))

pub returns-clause-asked : goal.returns-clause-asked
returns-clause-asked g c =
    all_asked c.args.plans.now (length c.args.world.nodes.items) c.loop-stream.number (length c.args.streams.items) _ _
    c.loop-stream.invariant.asked
    (streams_count c.loop-stream.number c.args.streams.items (into_iter_items c.loop-stream.stream-iterator) c.args.world
    c.loop-stream.world (g.W.Wiring.counts c.loop-stream.wiring) (g.W.Wiring.carried c.loop-stream.wiring)
    c.loop-stream.invariant.far (nil_from_length _ (omega (arith, c.in-None.ensures.steps.0))))

pub returns-in_err-turned-clause-unasked : goal.returns-in_err-turned-clause-unasked
returns-in_err-turned-clause-unasked g c none =
    unasked_on c.args.streams.items c.loop-stream.invariant.far.done (into_iter_items c.next.new.self) c.in-Some.stream
    (into_iter_items c.loop-stream.stream-iterator) c.in-Some.ensures.steps.0 c.loop-stream.invariant.far.cut
    c.serve_stream.ensures.unasked c.loop-stream.invariant.unasked none

pub returns-in_err-push-clause-unasked : goal.returns-in_err-push-clause-unasked
returns-in_err-push-clause-unasked g c none =
    unasked_on c.args.streams.items c.loop-stream.invariant.far.done (into_iter_items c.next.new.self) c.in-Some.stream
    (into_iter_items c.loop-stream.stream-iterator) c.in-Some.ensures.steps.0 c.loop-stream.invariant.far.cut
    c.serve_stream.ensures.unasked c.loop-stream.invariant.unasked none
