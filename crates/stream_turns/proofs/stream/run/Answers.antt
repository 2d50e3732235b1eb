use Rattle.std.proofs.Common.{ℕ, Bool, List, length, map, ap, sym, ◌∙◌, arith, rules}
use Rattle.std.proofs.lemmas.List.{length-map}
use Rattle.volume_core.specs.State.{State, state_of, gave_up_at}
use Rattle.volume_core.specs.Streams.{Origin, origin_of}
use Rattle.world_holder.specs.declared.hand.Hand.{Hand}
use Rattle.world_steps.specs.declared.gates.NoGate.{NoGate}
use Rattle.world_steps.specs.declared.steps.Steps.{Steps}
use Rattle.frame_stream.specs.Asked.{call_of}
use Rattle.client_worker.specs.Serving.{Grew}
use Rattle.client_worker.proofs.Told.{frames_none}
use Rattle.control_worker.specs.Serving.{Commanded}
use Rattle.stream_turns.proofs.Channels.{many_told}
use Rattle.client_worker.proofs.Parts.{stays_of, lines_of, home_of, idle_of, mine_of}
use Rattle.control_worker.specs.Store.{StoreSoFar}
use Rattle.stream_steps.specs.Mine.{Mine, Placed}
use Rattle.stream_turns.proofs.Backups.{none_backed}
use Rattle.stream_turns.proofs.StoreLemmas.{far_none}
use Rattle.stream_turns.proofs.Turned.{told_ok, between_again, stream_of_frames, stream_of_commands, stream_of_entries}
use Rattle.stream_turns.proofs.stream.run.Goals as goal

-- what the steps call home
abbrev home_at : Steps Hand NoGate → Origin × ℕ × Bool
home_at s = (
  origin_of (state_of s.holder.last.value.value),
  s.stream,
  gave_up_at (state_of s.holder.last.value.value).gave_up s.stream,
)

pub new-worker-requires : goal.new-worker-requires
new-worker-requires g c =
    let many = length-map c.args.channels.items (λ x. g.L.Line.ends x.line) in
    record {
      ready = search rules;
      idle = search rules;
      few = omega (arith, many, c.requires.new.many, c.requires.between.few);
      lines = sym many ∙ c.requires.new.many ∙ ap (λ (x : State). length x.nodes) (sym c.of.ensures.seen);
      shown = record {
        counted = search rules;
        answered = search rules;
        acked = search rules;
        framed = frames_none _ c.requires.new.empty;
      };
    }

pub new-worker-requires-in-Control : goal.new-worker-requires-in-Control
new-worker-requires-in-Control g c =
    let many = length-map c.args.channels.items (λ x. g.L.Line.ends x.line) in
    record {
      ready = search rules;
      idle = search rules;
      few = omega (arith, many, c.requires.new.many, c.requires.between.few);
      lines = sym many ∙ c.requires.new.many ∙ ap (λ (x : State). length x.nodes) (sym c.of.ensures.seen);
      shown = record {
        counted = search rules;
        answered = search rules;
        acked = search rules;
        framed = frames_none _ c.requires.new.empty;
      };
    }

pub returns-in-Ok-clause-between : goal.returns-in-Ok-clause-between
returns-in-Ok-clause-between g c =
    let world = c.into_world-held.ensures in
    let stays = stays_of c.new-worker.ensures c.into_parts-steps.ensures.parts c.run_stream-served.ensures.stays in
    between_again c.args.held.value _ c.into_inner.result _ _ c.into_inner.ensures world.sound world.rest world.turns world.gave_up
    c.of.ensures.seen world.world (ap (λ p. p.0) stays.home) c.requires.between.few

pub returns-in-Ok-clause-ends : goal.returns-in-Ok-clause-ends
returns-in-Ok-clause-ends g c =
    (stays_of c.new-worker.ensures c.into_parts-steps.ensures.parts c.run_stream-served.ensures.stays).lines.ends

pub returns-in-Ok-clause-turn : goal.returns-in-Ok-clause-turn
returns-in-Ok-clause-turn g c =
    let world = c.into_world-held.ensures in
    let made = c.new-worker.ensures in
    let back = c.into_parts-steps.ensures.parts in
    let stays = stays_of made back c.run_stream-served.ensures.stays in
    let idle = idle_of made back c.into_parts-steps.ensures.idle in
    stream_of_frames c.args.number c.args.held.value _ c.into_inner.result c.args.stream.now _ _ c.into_inner.ensures c.requires.first
    (many_told (λ c. c.line) g.L.Line.ends g.L.Line.count _ _ _ stays.lines.count c.requires.new.many)
    world.sound _ _ _ c.of.ensures.seen world.world
    (ap (λ p. p.0) stays.home) (ap (λ p. p.1) stays.home) idle.shown
    c.in-Frames.frames c.in-Frames.is
    (mine_of made back c.into_parts-steps.ensures.idle (Grew (map call_of c.in-Frames.frames))
    (told_ok c.in-Ok.is c.run_stream-served.ensures.ok))

pub returns-in-Ok-served-clause-between : goal.returns-in-Ok-served-clause-between
returns-in-Ok-served-clause-between g c =
    let world = c.into_world-held-in-Ok-served.ensures in
    let same = told_ok c.in-Ok-served.is c.run_control-served.ensures.home in
    let home = home_of c.new-worker-in-Control.ensures c.into_parts-steps-in-Control.ensures.parts home_at same in
    between_again c.args.held.value _ c.into_inner-in-Ok-served.result _ _ c.into_inner-in-Ok-served.ensures world.sound world.rest
    world.turns world.gave_up c.of.ensures.seen world.world (ap (λ p. p.0) home) c.requires.between.few

pub returns-in-Ok-served-clause-ends : goal.returns-in-Ok-served-clause-ends
returns-in-Ok-served-clause-ends g c =
    (lines_of c.new-worker-in-Control.ensures c.into_parts-steps-in-Control.ensures.parts c.run_control-served.ensures.lines).ends

pub returns-in-Ok-served-clause-turn : goal.returns-in-Ok-served-clause-turn
returns-in-Ok-served-clause-turn g c =
    let world = c.into_world-held-in-Ok-served.ensures in
    let made = c.new-worker-in-Control.ensures in
    let back = c.into_parts-steps-in-Control.ensures.parts in
    let lines = lines_of made back c.run_control-served.ensures.lines in
    let home = home_of made back home_at (told_ok c.in-Ok-served.is c.run_control-served.ensures.home) in
    let idle = idle_of made back c.into_parts-steps-in-Control.ensures.idle in
    let done = told_ok c.in-Ok-served.is c.run_control-served.ensures.ok in
    stream_of_commands c.args.number c.args.held.value _ c.into_inner-in-Ok-served.result c.args.stream.now _ _
    c.into_inner-in-Ok-served.ensures c.requires.first
    (many_told (λ c. c.line) g.L.Line.ends g.L.Line.count _ _ _ lines.count c.requires.new.many)
    world.sound _ _ _ c.of.ensures.seen world.world
    (ap (λ p. p.0) home) (ap (λ p. p.1) home) idle.shown
    c.in-Control.commands c.as_slice.result.now c.in-Control.is c.as_slice.ensures
    (mine_of made back c.into_parts-steps-in-Control.ensures.idle (Commanded c.as_slice.result.now) done)

pub returns-in-Ok-served-clause-store : goal.returns-in-Ok-served-clause-store
returns-in-Ok-served-clause-store g c some tells =
    let world = c.into_world-held-in-Ok-served.ensures in
    let made = c.new-worker-in-Control.ensures in
    let back = c.into_parts-steps-in-Control.ensures.parts in
    let lines = lines_of made back c.run_control-served.ensures.lines in
    let home = home_of made back home_at (told_ok c.in-Ok-served.is c.run_control-served.ensures.home) in
    let idle = idle_of made back c.into_parts-steps-in-Control.ensures.idle in
    let first = g.T.Target.holds c.args.target.now in
    let from = g.T.Target.faults c.args.target.now in
    let far = told_ok c.in-Ok-served.is c.run_control-served.ensures.store tells first from in
    stream_of_entries c.args.number c.args.held.value _ c.into_inner-in-Ok-served.result c.args.stream.now _ _
    c.into_inner-in-Ok-served.ensures c.requires.first
    (many_told (λ c. c.line) g.L.Line.ends g.L.Line.count _ _ _ lines.count c.requires.new.many)
    world.sound _ _ _ c.of.ensures.seen world.world
    (ap (λ p. p.0) home) (ap (λ p. p.1) home) idle.shown
    (λ (ps qs : List Placed). StoreSoFar first from first from c.args.volume.now ps
    → StoreSoFar first from (g.T.Target.holds c.run_control-served.new.target) (g.T.Target.faults c.run_control-served.new.target)
    c.args.volume.now qs)
    (mine_of made back c.into_parts-steps-in-Control.ensures.idle
    (λ (m m2 : Mine). StoreSoFar first from first from c.args.volume.now m.entries
    → StoreSoFar first from (g.T.Target.holds c.run_control-served.new.target) (g.T.Target.faults c.run_control-served.new.target)
    c.args.volume.now m2.entries) far)
    (far_none first from c.args.volume.now)

pub returns-in-Ok-served-clause-unasked : goal.returns-in-Ok-served-clause-unasked
returns-in-Ok-served-clause-unasked g c none =
    c.run_control-served.ensures.unasked
    (none_backed c.args.stream.now c.in-Control.commands c.as_slice.result.now c.in-Control.is c.as_slice.ensures none)

pub returns-in-Err-served-clause-unasked : goal.returns-in-Err-served-clause-unasked
returns-in-Err-served-clause-unasked g c none =
    c.run_control-served.ensures.unasked
    (none_backed c.args.stream.now c.in-Control.commands c.as_slice.result.now c.in-Control.is c.as_slice.ensures none)
