use Rattle.std.proofs.Common.{◌∙◌, IfOk, map, subst, slice_index_or}
use Rattle.volume_core.specs.declared.world.World.{World}
use Rattle.volume_core.specs.State.{state_of}
use Rattle.client_worker.specs.Exchanges.{told_in}
use Rattle.stream_turns.specs.Turn.{HasTurn}
use Rattle.stream_turns.specs.Volume.{stream_calls}
use Rattle.stream_turns.proofs.Asks.{same_asked}
use Rattle.stream_turns.proofs.Channels.{noted_back, others_back}
use Rattle.stream_turns.proofs.Turned.{modes_many, each_ok, any_ok}
use Rattle.stream_turns.proofs.stream.serve_stream.Goals as goal

pub returns-clause-turn : goal.returns-clause-turn
returns-clause-turn g c = each_ok c.run-turned.result.0 (λ t turn.
    noted_back c.args.number c.len-replicas.result _ _ (λ x. g.W.L.Line.ends x.line)
    (λ x. g.W.L.Line.count x.line) (λ x. g.W.L.Line.carried x.line) c.in_ok-channels.channels.items
    c.run-turned.result.1.items c.in_ok-channels.ensures.new
    (c.len-replicas.ensures ∙ c.args.world.nodes.ok.0) c.run-turned.ensures.ends
    _ _ _ _ _ _ _ _ (modes_many (state_of c.args.world) c.requires.between.sound) turn c.take_back.ensures.counts
    c.take_back.ensures.carried)
    (subst (λ (w : World). IfOk c.run-turned.result.0 (λ t. HasTurn (stream_calls c.args.stream.now) c.args.number w t.world
    (λ r. slice_index_or (map (λ x. g.W.L.Line.count x.line) c.run-turned.result.1.items) r 0)
    (told_in (map (λ x. g.W.L.Line.carried x.line) c.run-turned.result.1.items))))
    c.in_ok-held.ensures.ok c.run-turned.ensures.turn)

pub returns-clause-counts : goal.returns-clause-counts
returns-clause-counts g c = any_ok c.run-turned.result.0 (
    others_back c.args.number c.len-replicas.result _ _ (λ x. g.W.L.Line.ends x.line)
    (λ x. g.W.L.Line.count x.line) (λ x. g.W.L.Line.carried x.line) c.in_ok-channels.channels.items
    c.run-turned.result.1.items c.in_ok-channels.ensures.new
    (c.len-replicas.ensures ∙ c.args.world.nodes.ok.0) c.run-turned.ensures.ends
    (λ x. g.W.L.Line.count x.line) _ _ _ c.channels_of.ensures.counts c.take_back.ensures.counts)

pub returns-clause-carried : goal.returns-clause-carried
returns-clause-carried g c = any_ok c.run-turned.result.0 (
    others_back c.args.number c.len-replicas.result _ _ (λ x. g.W.L.Line.ends x.line)
    (λ x. g.W.L.Line.count x.line) (λ x. g.W.L.Line.carried x.line) c.in_ok-channels.channels.items
    c.run-turned.result.1.items c.in_ok-channels.ensures.new
    (c.len-replicas.ensures ∙ c.args.world.nodes.ok.0) c.run-turned.ensures.ends
    (λ x. g.W.L.Line.carried x.line) _ _ _ c.channels_of.ensures.carried c.take_back.ensures.carried)

pub returns-clause-asked : goal.returns-clause-asked
returns-clause-asked g c = any_ok c.run-turned.result.0 (
    same_asked c.args.plans.now c.args.number c.len-replicas.result _ _ _ _ c.in_ok-channels.ensures.asked c.take_back.ensures.asked
    (c.len-replicas.ensures ∙ c.args.world.nodes.ok.0))
