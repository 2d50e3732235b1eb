use Rattle.std.proofs.Common.{rules, ◌≡◌, true, ap, sym, subst, ◌∙◌, Some, OnOk, arith}
use Rattle.std.proofs.lemmas.List.{length-map}
use Rattle.std.specs.Prelude.{is_ok}
use Rattle.desk_lock.specs.Seats.{last_of, IsSeatOf}
use Rattle.volume_core.specs.State.{gave_up_at}
use Rattle.world_holder.specs.Laid.{laid}
use Rattle.control_worker.specs.Serving.{Commanded}
use Rattle.control_worker.specs.Store.{StoreSoFar}
use Rattle.stream_steps.specs.Mine.{Mine}
use Rattle.stream_workers.specs.Tasks.{own_at}
use Rattle.stream_turns.proofs.StoreLemmas.{far_none}
use Rattle.client_worker.proofs.Told.{frames_none}
use Rattle.client_worker.proofs.Parts.{lines_of, home_of, idle_of, mine_of}
use Rattle.stream_workers.proofs.AtEnd.{ok_of, commands_at}
use Rattle.stream_workers.proofs.task.serve_commands.Goals as goal

pub new-worker-requires : goal.new-worker-requires
new-worker-requires g c =
    let many = length-map c.args.channels.items (λ x. g.L.Line.ends x.line) in
    record {
      ready = search rules;
      idle = search rules;
      few = omega (arith, many, c.requires.lines.many, c.requires.few);
      lines = sym many ∙ c.requires.lines.many;
      shown = record {
        counted = search rules;
        answered = search rules;
        acked = search rules;
        framed = frames_none _ c.requires.lines.empty;
      };
    }

pub returns-clause-count : goal.returns-clause-count
returns-clause-count g c =
    (lines_of c.new-worker.ensures c.into_parts-steps.ensures.parts c.run_control-served.ensures.lines).count

pub returns-clause-ends : goal.returns-clause-ends
returns-clause-ends g c =
    (lines_of c.new-worker.ensures c.into_parts-steps.ensures.parts c.run_control-served.ensures.lines).ends

pub returns-clause-seat : goal.returns-clause-seat
returns-clause-seat g c = λ is.
    let done : is_ok c.run_control-served.result ≡ true = search rules in
    let made = c.new-worker.ensures in
    let back = c.into_parts-steps.ensures.parts in
    let idle = idle_of made back c.into_parts-steps.ensures.idle in
    let home = home_of made back
    (λ s. (s.holder.desk.now, s.stream, gave_up_at (laid (last_of s.holder.seat)).gave_up s.stream))
    (ok_of c.run_control-served.result c.run_control-served.ensures.home done) in (
      subst (λ d. IsSeatOf d c.into_parts-steps.result.0.holder.seat) (ap (λ p. p.0) home) idle.ready.seat,
      idle.ready.own.number ∙ ap (λ p. Some p.1) home,
    )

pub returns-clause-replicas : goal.returns-clause-replicas
returns-clause-replicas g c = λ is.
    let made = c.new-worker.ensures in
    let back = c.into_parts-steps.ensures.parts in
    let lines = lines_of made back c.run_control-served.ensures.lines in
    let idle = idle_of made back c.into_parts-steps.ensures.idle in
    sym idle.lines ∙ lines.count ∙ sym (length-map c.args.channels.items (λ x. g.L.Line.ends x.line)) ∙ c.requires.lines.many

pub returns-clause-served : goal.returns-clause-served
returns-clause-served g c = λ is.
    let done : is_ok c.run_control-served.result ≡ true = search rules in
    let made = c.new-worker.ensures in
    let back = c.into_parts-steps.ensures.parts in
    let idle = idle_of made back c.into_parts-steps.ensures.idle in
    let home = home_of made back
    (λ s. (s.holder.desk.now, s.stream, gave_up_at (laid (last_of s.holder.seat)).gave_up s.stream))
    (ok_of c.run_control-served.result c.run_control-served.ensures.home done) in
    let steps = c.into_parts-steps.result.0 in
    commands_at c.args.number steps.stream (laid (last_of c.args.seat)) steps.holder.seat
    (ap (λ p. p.1) home) c.run_control-served.result done _ _ c.args.commands.now
    (ap (λ p. p.2) home ∙ c.requires.begins.free.gave_up) c.requires.begins.none idle.shown
    (mine_of made back c.into_parts-steps.ensures.idle
    (λ m m2. OnOk c.run_control-served.result (Commanded c.args.commands.now m m2)) c.run_control-served.ensures.ok)

pub returns-clause-store : goal.returns-clause-store
returns-clause-store g c = λ is tells.
    let done : is_ok c.run_control-served.result ≡ true = search rules in
    let made = c.new-worker.ensures in
    let back = c.into_parts-steps.ensures.parts in
    let home = home_of made back
    (λ s. (s.holder.desk.now, s.stream, gave_up_at (laid (last_of s.holder.seat)).gave_up s.stream))
    (ok_of c.run_control-served.result c.run_control-served.ensures.home done) in
    let first = g.T.Target.holds c.args.target.now in
    let from = g.T.Target.faults c.args.target.now in
    let now = g.T.Target.holds c.run_control-served.new.target in
    let count = g.T.Target.faults c.run_control-served.new.target in
    let far = ok_of c.run_control-served.result c.run_control-served.ensures.store done tells first from in
    subst (λ n. StoreSoFar first from now count c.args.volume.now (own_at n c.into_parts-steps.result.0.holder.seat))
    (ap (λ p. p.1) home)
    (mine_of made back c.into_parts-steps.ensures.idle
    (λ (m m2 : Mine). StoreSoFar first from first from c.args.volume.now m.entries
    → StoreSoFar first from now count c.args.volume.now m2.entries) far
    (subst (StoreSoFar first from first from c.args.volume.now) (sym c.requires.begins.none)
    (far_none first from c.args.volume.now)))
