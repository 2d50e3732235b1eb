use Rattle.std.proofs.Common.{rules, ◌≡◌, true, ap, sym, subst, ◌∙◌, map, Some, OnOk, arith}
use Rattle.std.proofs.lemmas.List.{length-map}
use Rattle.std.specs.Prelude.{is_ok}
use Rattle.desk_lock.specs.Seats.{last_of, IsSeatOf}
use Rattle.world_holder.specs.Laid.{laid}
use Rattle.frame_stream.specs.Asked.{call_of}
use Rattle.client_worker.specs.Serving.{Grew}
use Rattle.client_worker.proofs.Told.{frames_none}
use Rattle.client_worker.proofs.Parts.{stays_of, idle_of, mine_of}
use Rattle.stream_workers.proofs.AtEnd.{frames_at}
use Rattle.stream_workers.proofs.task.serve_frames.Goals as goal

pub new-worker-requires : goal.new-worker-requires
new-worker-requires g c =
    let many = length-map c.args.channels.items (λ x. g.L.Line.ends x.line) in
    record {
      ready = search rules;
      idle = search rules;
      few = omega (arith, many, c.requires.lines.many, c.requires.few);
      lines = sym many ∙ c.requires.lines.many;
      shown = record {
        counted = search rules;
        answered = search rules;
        acked = search rules;
        framed = frames_none _ c.requires.lines.empty;
      };
    }

pub returns-clause-count : goal.returns-clause-count
returns-clause-count g c =
    (stays_of c.new-worker.ensures c.into_parts-steps.ensures.parts c.run_stream.ensures.stays).lines.count

pub returns-clause-ends : goal.returns-clause-ends
returns-clause-ends g c =
    (stays_of c.new-worker.ensures c.into_parts-steps.ensures.parts c.run_stream.ensures.stays).lines.ends

pub returns-clause-seat : goal.returns-clause-seat
returns-clause-seat g c = λ is.
    let made = c.new-worker.ensures in
    let back = c.into_parts-steps.ensures.parts in
    let stays = stays_of made back c.run_stream.ensures.stays in
    let idle = idle_of made back c.into_parts-steps.ensures.idle in (
      subst (λ d. IsSeatOf d c.into_parts-steps.result.0.holder.seat) (ap (λ p. p.0) stays.home) idle.ready.0.seat,
      idle.ready.0.own.number ∙ ap (λ p. Some p.1) stays.home,
    )

pub returns-clause-replicas : goal.returns-clause-replicas
returns-clause-replicas g c = λ is.
    let made = c.new-worker.ensures in
    let back = c.into_parts-steps.ensures.parts in
    let stays = stays_of made back c.run_stream.ensures.stays in
    let idle = idle_of made back c.into_parts-steps.ensures.idle in
    sym idle.lines ∙ stays.lines.count ∙ sym (length-map c.args.channels.items (λ x. g.L.Line.ends x.line)) ∙ c.requires.lines.many

pub returns-clause-served : goal.returns-clause-served
returns-clause-served g c = λ is.
    let done : is_ok c.run_stream.result ≡ true = search rules in
    let made = c.new-worker.ensures in
    let back = c.into_parts-steps.ensures.parts in
    let stays = stays_of made back c.run_stream.ensures.stays in
    let idle = idle_of made back c.into_parts-steps.ensures.idle in
    let steps = c.into_parts-steps.result.0 in
    frames_at c.args.number steps.stream (laid (last_of c.args.seat)) steps.holder.seat (ap (λ p. p.1) stays.home)
    c.run_stream.result done _ _ _ idle.ready.1 c.requires.begins.none idle.shown
    (mine_of made back c.into_parts-steps.ensures.idle
    (λ m m2. OnOk c.run_stream.result (Grew (map call_of c.args.frames.now) m m2)) c.run_stream.ensures.ok)
