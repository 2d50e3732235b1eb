use Rattle.std.proofs.Common.{◌≡◌, ◌≤◌, false, length, sym, ap, subst, ◌∙◌, List, All}
use Rattle.script_text.specs.declared.script.Stream.{Stream}
use Rattle.script_text.specs.Good.{backs_up}
use Rattle.stream_turns.specs.Store.{StoreOfRun}
use Rattle.stream_turns.specs.Turn.{IsTaken}
use Rattle.stream_turns.proofs.Turned.{each_ok}
use Rattle.stream_turns.proofs.Asks.{asked_in}
use Rattle.stream_turns.proofs.ScriptLemmas.{all_taken}
use Rattle.stream_turns.proofs.SoFar.{each_served, each_in_turn, each_opening}
use Rattle.stream_turns.proofs.serving.serve.Goals as goal

pub serve_streams-requires-clause-few : goal.serve_streams-requires-clause-few
serve_streams-requires-clause-few g c κs within =
    subst (λ (ss : List Stream). length ss ≤ 16) (sym c.into_vec.ensures) c.requires.good.few_streams

pub serve_streams-requires-clause-many : goal.serve_streams-requires-clause-many
serve_streams-requires-clause-many g c κs within =
    c.requires.begun.1.streams ∙ ap (λ (ss : List Stream). length ss) (sym c.into_vec.ensures)

pub serve_streams-requires-clause-taken : goal.serve_streams-requires-clause-taken
serve_streams-requires-clause-taken g c κs within =
    subst (λ n. All (IsTaken n) c.into_vec.result.items) (sym c.requires.begun.1.replicas)
    (subst (All (IsTaken c.args.script.replicas)) (sym c.into_vec.ensures) (all_taken c.args.script c.requires.good))

pub serve_streams-requires-clause-between : goal.serve_streams-requires-clause-between
serve_streams-requires-clause-between g c κs within = c.requires.begun.1.between

pub serve_streams-requires-clause-begun : goal.serve_streams-requires-clause-begun
serve_streams-requires-clause-begun g c κs within = c.requires.begun.1.none

pub returns-clause-served : goal.returns-clause-served
returns-clause-served g c spot begun =
    each_served c.args.script spot c.args.world c.serve_streams.result c.into_vec.result.items _ _ begun
    c.serve_streams.ensures.between c.serve_streams.ensures.origin c.serve_streams.ensures.turns c.into_vec.ensures
    c.serve_streams.ensures.heads

pub returns-clause-turns : goal.returns-clause-turns
returns-clause-turns g c spot begun =
    each_in_turn c.args.script spot c.args.world c.serve_streams.result c.into_vec.result.items _ _ begun
    c.serve_streams.ensures.between c.serve_streams.ensures.origin c.serve_streams.ensures.turns c.into_vec.ensures

pub returns-clause-opening : goal.returns-clause-opening
returns-clause-opening g c = each_opening c.args.world c.serve_streams.result c.serve_streams.ensures.origin

pub returns-clause-asked : goal.returns-clause-asked
returns-clause-asked g c =
    asked_in c.serve_streams.result c.args.script c.as_slice.result.now _ c.into_vec.result.items _ _ c.serve_streams.ensures.asked
    c.as_slice.ensures c.requires.begun.1.replicas c.into_vec.ensures

pub returns-clause-store : goal.returns-clause-store
returns-clause-store g c spot begun = each_ok c.serve_streams.result (λ s store tells.
    subst (λ o. StoreOfRun (g.T.Target.holds c.args.target.now) (g.T.Target.faults c.args.target.now)
    (g.T.Target.holds c.serve_streams.new.target) (g.T.Target.faults c.serve_streams.new.target) c.args.script.volume o
    s.world.journal.entries) begun.opening (store tells)) c.serve_streams.ensures.store

pub returns-clause-unasked : goal.returns-clause-unasked
returns-clause-unasked g c none =
    c.serve_streams.ensures.unasked (subst (All (λ s. backs_up s ≡ false)) (sym c.into_vec.ensures) none)
