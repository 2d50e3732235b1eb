use Rattle.std.proofs.Common.{◌≡◌, refl, subst}
use Rattle.desk_lock.specs.Seats.{last_of}
use Rattle.volume_model.specs.declared.call.Call.{Call}
use Rattle.session_serve.specs.Sessions.{IsReplied, own_of}
use Rattle.world_holder.specs.Laid.{laid}
use Rattle.session_workers.proofs.Asking.{of_ok, of_err, answers_call, asks_nothing}
use Rattle.session_workers.proofs.answer.answer.Goals as goal

pub returns-in-Ok-clause-answered : goal.returns-in-Ok-clause-answered
returns-in-Ok-clause-answered g c =
    let n = c.args.session.now.number in
    let f = c.args.frame in
    let s = laid (last_of c.args.seat) in
    let t = laid (last_of c.call-seat.result.0) in
    let made = of_ok c.call-seat.result.1 c.in-Ok.reply (λ r. IsReplied n c.call_of.result r s t) c.in-Ok.is c.call-seat.ensures.ok in
    let is = subst (λ (k : Call). IsReplied n k c.in-Ok.reply s t) c.call_of.ensures made in
    answers_call n f c.in-Ok.reply s t (g.O.Sink.contents c.args.sink.now) (g.O.Sink.contents c.write_reply.new.sink)
    (g.O.Sink.faults c.args.sink.now) (g.O.Sink.faults c.write_reply.new.sink) is c.write_reply.result
    (c.write_reply.ensures f refl c.requires.call.0.body)

pub returns-in-Err-clause-answered : goal.returns-in-Err-clause-answered
returns-in-Err-clause-answered g c =
    let n = c.args.session.now.number in
    let s = laid (last_of c.args.seat) in
    let t = laid (last_of c.call-seat.result.0) in
    asks_nothing n c.args.frame s t (g.O.Sink.contents c.args.sink.now) (g.O.Sink.faults c.args.sink.now) c.in-Err.error
    c.call-seat.ensures.since
    (of_err c.call-seat.result.1 c.in-Err.error (own_of n t ≡ own_of n s) c.in-Err.is c.call-seat.ensures.err)
