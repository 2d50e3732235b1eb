use Rattle.std.specs.Prelude.{count_by}
use Rattle.script_text.specs.Good.{backs_up}
use Rattle.std.proofs.Common.{◌≤◌, length, refl, sym, ap, subst, ◌∙◌, List, All}
use Rattle.script_text.specs.declared.script.Stream.{Stream}
use Rattle.stream_turns.specs.Turn.{IsTaken}
use Rattle.stream_turns.proofs.Asks.{asked_in}
use Rattle.stream_turns.proofs.ScriptLemmas.{all_taken}
use Rattle.stream_turns.proofs.SoFar.{each_opening}
use Rattle.stream_workers.proofs.Outcome.{each_served}
use Rattle.stream_workers.proofs.serving.serve.Goals as goal

pub serve_streams-requires-clause-some : goal.serve_streams-requires-clause-some
serve_streams-requires-clause-some g c κs within =
    subst (λ (ss : List Stream). (1 ≤ length ss) × (length ss ≤ 16)) (sym c.into_vec.ensures)
    (c.requires.good.some_streams, c.requires.good.few_streams)

pub serve_streams-requires-clause-many : goal.serve_streams-requires-clause-many
serve_streams-requires-clause-many g c κs within =
    c.requires.begun.1.streams ∙ ap (λ (ss : List Stream). length ss) (sym c.into_vec.ensures)

pub serve_streams-requires-clause-replicas : goal.serve_streams-requires-clause-replicas
serve_streams-requires-clause-replicas g c κs within = sym c.requires.begun.1.replicas

pub serve_streams-requires-clause-taken : goal.serve_streams-requires-clause-taken
serve_streams-requires-clause-taken g c κs within =
    subst (All (IsTaken c.args.script.replicas)) (sym c.into_vec.ensures) (all_taken c.args.script c.requires.good)

pub serve_streams-requires-clause-between : goal.serve_streams-requires-clause-between
serve_streams-requires-clause-between g c κs within = c.requires.begun.1.between

pub serve_streams-requires-clause-begun : goal.serve_streams-requires-clause-begun
serve_streams-requires-clause-begun g c κs within = c.requires.begun.1.none

pub serve_streams-requires-clause-one : goal.serve_streams-requires-clause-one
serve_streams-requires-clause-one g c κs within =
    subst (λ (ss : List Stream). count_by backs_up ss ≤ 1) (sym c.into_vec.ensures) c.requires.good.backups

pub returns-clause-served : goal.returns-clause-served
returns-clause-served g c spot begun =
    each_served c.args.script spot c.args.world c.serve_streams.result c.into_vec.result.items _ _ begun
    c.serve_streams.ensures.between c.serve_streams.ensures.origin c.serve_streams.ensures.ended c.into_vec.ensures
    c.serve_streams.ensures.heads

pub returns-clause-opening : goal.returns-clause-opening
returns-clause-opening g c = each_opening c.args.world c.serve_streams.result c.serve_streams.ensures.origin

pub returns-clause-asked : goal.returns-clause-asked
returns-clause-asked g c =
    asked_in c.serve_streams.result c.args.script c.as_slice.result.now c.args.script.replicas c.into_vec.result.items _ _
    c.serve_streams.ensures.asked c.as_slice.ensures refl c.into_vec.ensures
