use Rattle.std.proofs.Common.{◌≡◌, false, refl, subst, ap, ◌∙◌}
use Rattle.volume_model.specs.declared.call.Reply.{Reply}
use Rattle.desk_lock.specs.Seats.{last_of}
use Rattle.world_holder.specs.Laid.{laid}
use Rattle.world_holder.specs.View.{view}
use Rattle.client_worker.specs.Serving.{GrewBy}
use Rattle.client_worker.proofs.Parts.{stays_of, idle_of, mine_of}
use Rattle.session_serve.specs.Replies.{EndsWithCall}
use Rattle.session_serve.specs.Sessions.{IsReplied}
use Rattle.session_serve.proofs.Replied.{ends_with}
use Rattle.session_serve.proofs.Seats.{idle_free, idle_runs}
use Rattle.session_serve.proofs.Served.{since_first, may_back, may_look, own_kept, replied_here, if_ok, if_failed, on_failed, not_failed}
use Rattle.session_serve.proofs.serve.serve_lent.Goals.{in-Ok, in-Err}
use Rattle.session_serve.proofs.serve.serve_lent.Goals as goal

pub with_rooms-worker-requires : goal.with_rooms-worker-requires
with_rooms-worker-requires g c =
    let may = c.requires.may in
    let s = c.args.lent.seat in
    record {
      ready = (c.requires.rests, idle_free c.args.number (laid (last_of s)) may.idle);
      idle = idle_runs c.args.number (laid (last_of s)) may.idle;
      few = c.requires.few;
      lines = may.lines;
      shown = may.shown;
    }

pub last_reply-requires-clause-asked : goal.last_reply-requires-clause-asked
last_reply-requires-clause-asked g c =
    let made = c.with_rooms-worker.ensures in
    let back = c.into_all-steps.ensures.parts in
    let stays = stays_of made back c.serve_call-served.ensures.stays in
    let grew = mine_of made back c.into_all-steps.ensures.idle (λ m m2. GrewBy c.args.call m m2) c.in-Ok.ensures.ok in
    let u = c.into_all-steps.result.0.holder.seat in (
      c.args.call,
      c.requires.frame,
      c.requires.room,
      subst (λ k. EndsWithCall c.args.number c.args.call (view false k (laid (last_of u))).entries) (ap (λ p. p.1) stays.home)
          (ends_with c.args.number c.args.call _ _ grew refl),
    )

pub returns-clause-again : goal.returns-clause-again
returns-clause-again g c =
    let made = c.with_rooms-worker.ensures in
    let back = c.into_all-steps.ensures.parts in
    let home = (stays_of made back c.serve_call-served.ensures.stays).home in
    let idle = idle_of made back c.into_all-steps.ensures.idle in
    let held = c.into_all-steps.result.0 in
    let desk = ap (λ p. p.0.0) home in
    elim c.match-served.branch [
      | in-Ok w ↦
          may_look g.L.Line.count g.L.Line.carried c.args.lent.desk.now c.args.number c.into_all-steps.result.1.items
          held.stream (ap (λ p. p.1) home) held.holder.seat idle.ready.1 idle.idle idle.lines idle.shown
          w.last_reply.new.holder.desk.now w.last_reply.new.holder.first.value w.last_reply.new.holder.seat c.match-served.lent.seat
          (ap (λ p. p.0) w.last_reply.ensures.home ∙ desk) (ap (λ x. x.seat) w.lent-is)
          w.last_reply.ensures.rests w.last_reply.ensures.free w.last_reply.ensures.same
      | in-Err w ↦
          may_back g.L.Line.count g.L.Line.carried c.args.lent.desk.now c.args.number c.into_all-steps.result.1.items
          held.stream (ap (λ p. p.1) home) held.holder.seat idle.ready.1 idle.idle idle.lines idle.shown
          held.holder.desk.now held.holder.first.value c.match-served.lent.seat desk (ap (λ x. x.seat) w.lent-is) idle.ready.0
    ]

pub returns-clause-ends : goal.returns-clause-ends
returns-clause-ends g c =
    (stays_of c.with_rooms-worker.ensures c.into_all-steps.ensures.parts c.serve_call-served.ensures.stays).lines.ends

pub returns-clause-since : goal.returns-clause-since
returns-clause-since g c =
    let made = c.with_rooms-worker.ensures in
    let back = c.into_all-steps.ensures.parts in
    let home = (stays_of made back c.serve_call-served.ensures.stays).home in
    let idle = idle_of made back c.into_all-steps.ensures.idle in
    let held = c.into_all-steps.result.0 in
    let first = ap (λ p. p.0.1) home ∙ c.requires.first in
    elim c.match-served.branch [
      | in-Ok w ↦
          since_first _ c.args.lent.seat w.last_reply.new.holder.first.value w.last_reply.new.holder.seat
          c.match-served.lent.seat c.args.number (ap (λ p. p.1) w.last_reply.ensures.home ∙ first) (ap (λ x. x.seat) w.lent-is)
          w.last_reply.ensures.rests
      | in-Err w ↦
          since_first _ c.args.lent.seat held.holder.first.value held.holder.seat c.match-served.lent.seat held.stream
          first (ap (λ x. x.seat) w.lent-is) idle.ready.0
    ]

pub returns-clause-ok : goal.returns-clause-ok
returns-clause-ok g c =
    let made = c.with_rooms-worker.ensures in
    let back = c.into_all-steps.ensures.parts in
    let home = (stays_of made back c.serve_call-served.ensures.stays).home in
    let held = c.into_all-steps.result.0 in
    let first = ap (λ p. p.0.1) home ∙ c.requires.first in
    let s = c.args.lent.seat in
    let came = λ (r : Reply). IsReplied c.args.number c.args.call r (laid (last_of s)) (laid (last_of c.match-served.lent.seat)) in
    elim c.match-served.branch [
      | in-Ok w ↦
          let t = w.last_reply.new.holder.seat in
          let grew = mine_of made back c.into_all-steps.ensures.idle (λ m m2. GrewBy c.args.call m m2) w.in-Ok.ensures.ok in
          if_ok came c.match-served.reply w.last_reply.result w.reply-is
          (replied_here c.args.number held.stream (ap (λ p. p.1) home) s c.args.lent.seat held.holder.seat
          refl c.args.call w.last_reply.result t c.match-served.lent.seat (ap (λ x. x.seat) w.lent-is) c.requires.frame grew
          w.last_reply.ensures.same
          (since_first _ s w.last_reply.new.holder.first.value t t c.args.number (ap (λ p. p.1) w.last_reply.ensures.home ∙ first) refl
          w.last_reply.ensures.rests) w.last_reply.ensures.sound w.last_reply.ensures.reply)
      | in-Err w ↦ if_failed came c.match-served.reply _ w.reply-is
    ]

pub returns-clause-err : goal.returns-clause-err
returns-clause-err g c =
    let made = c.with_rooms-worker.ensures in
    let back = c.into_all-steps.ensures.parts in
    let home = (stays_of made back c.serve_call-served.ensures.stays).home in
    let held = c.into_all-steps.result.0 in
    let s = c.args.lent.seat in
    elim c.match-served.branch [
      | in-Ok w ↦ not_failed _ c.match-served.reply _ w.reply-is
      | in-Err w ↦
          let kept = mine_of made back c.into_all-steps.ensures.idle (λ m m2. m2 ≡ m) w.in-Err.ensures.err in
          on_failed c.match-served.reply (own_kept c.args.number held.stream (ap (λ p. p.1) home) s c.args.lent.seat
          held.holder.seat refl c.match-served.lent.seat (ap (λ x. x.seat) w.lent-is) kept)
    ]
