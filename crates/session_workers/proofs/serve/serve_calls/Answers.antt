use Rattle.std.proofs.Common.{◌∙◌, ◌+◌, [], ◌∷◌, ◌++◌, refl, ap, subst, arith, length-append}
use Rattle.std.proofs.KnownBytes.{Appends-nil}
use Rattle.desk_lock.specs.Seats.{last_of}
use Rattle.door_traits.specs.Sessions.{told}
use Rattle.world_holder.specs.Laid.{laid}
use Rattle.session_workers.specs.declared.answer.Written.TheVariants as written
use Rattle.session_workers.specs.declared.coming.Coming.TheVariants as coming
use Rattle.outer_traits.specs.Causes.{one_more}
use Rattle.session_workers.specs.Talking.{ComesBehind, ComingCount, HasOneMore}
use Rattle.session_workers.proofs.Ending.{none_replied, one_replied, ended_there, ended_cut, stopped_there, stopped_written, was_replied}
use Rattle.session_workers.proofs.Ending.{last_call, since_itself, since_since}
use Rattle.session_workers.proofs.serve.serve_calls.Goals as goal

pub loop-init : goal.loop-init
loop-init g c = (
  tt,
  tt,
  c.requires.may,
  refl,
  since_itself (laid (last_of c.args.seat)),
  (
    [],
    refl,
    none_replied c.args.session.now.number (g.I.Source.left c.args.client.now.source) (g.O.Sink.contents c.args.client.now.sink)
        c.new-reader.result (laid (last_of c.args.seat)).book.entries c.new-reader.ensures c.requires.fresh,
  ),
  refl,
  refl,
)

pub returns-in-Ok-End-clause-served : goal.returns-in-Ok-End-clause-served
returns-in-Ok-End-clause-served g c =
    let n = c.args.session.now.number in
    let left = g.I.Source.left c.args.client.now.source in
    let last = g.I.Source.left c.next_of-next.new.source in
    let reads = g.I.Source.faults c.args.client.now.source in
    let reads_now = g.I.Source.faults c.next_of-next.new.source in
    let inv = c.loop.invariant in
    let fs = inv.5.0 in
    let so = inv.5.2 in
    let end = coming.End c.in-Ok-End.end in
    let comes = subst (ComesBehind c.loop.calls left last c.next_of-next.new.reader fs) c.in-Ok-End.field-0-is
    (c.in-Ok-End.ensures.comes left fs so.given) in
    let read = subst (λ k. ComingCount end k reads_now) inv.6
    (subst (λ x. ComingCount x (g.I.Source.faults c.loop.client.source) reads_now) c.in-Ok-End.field-0-is c.in-Ok-End.ensures.count) in
    ended_there n
    (told left reads (g.O.Sink.contents c.args.client.now.sink) (g.O.Sink.faults c.args.client.now.sink))
    (told last reads_now (g.O.Sink.contents c.loop.client.sink) (g.O.Sink.faults c.loop.client.sink))
    (g.I.Source.left c.loop.client.source) c.loop.reader comes.0 (laid (last_of c.loop.seat)).book.entries fs c.in-Ok-End.end
    c.loop.calls so comes.1 inv.5.1 comes.2 read inv.7

pub returns-in-Err-clause-served : goal.returns-in-Err-clause-served
returns-in-Err-clause-served g c =
    let inv = c.loop.invariant in
    let out = g.O.Sink.contents c.loop.client.sink in
    let i = (laid (last_of c.loop.seat)).book.entries in
    stopped_there c.args.session.now.number
    (told (g.I.Source.left c.args.client.now.source) (g.I.Source.faults c.args.client.now.source)
    (g.O.Sink.contents c.args.client.now.sink) (g.O.Sink.faults c.args.client.now.sink))
    (told (g.I.Source.left c.next_of-next.new.source) (g.I.Source.faults c.next_of-next.new.source) out
    (g.O.Sink.faults c.loop.client.sink))
    (g.I.Source.left c.loop.client.source) out c.loop.reader i i inv.5.0 inv.5.2 refl (Appends-nil out)
    (c.in-Err.ensures.count ∙ inv.6) inv.7

pub answer-later-requires-clause-call : goal.answer-later-requires-clause-call
answer-later-requires-clause-call g c =
    let inv = c.loop.invariant in
    let left = g.I.Source.left c.args.client.now.source in
    let comes = subst (ComesBehind c.loop.calls left (g.I.Source.left c.next_of-next.new.source) c.next_of-next.new.reader inv.5.0)
    c.in-Ok-Call.field-0-is (c.in-Ok-Call.ensures.comes left inv.5.0 inv.5.2.given) in
    last_call inv.5.0 c.in-Ok-Call.frame comes.1.calls

pub loop-preserved : goal.loop-preserved
loop-preserved g c =
    let n = c.args.session.now.number in
    let left = g.I.Source.left c.args.client.now.source in
    let last = g.I.Source.left c.next_of-next.new.source in
    let s = laid (last_of c.args.seat) in
    let t = laid (last_of c.loop.seat) in
    let u = laid (last_of c.answer-later.result.0) in
    let f = c.in-Ok-Call.frame in
    let out = g.O.Sink.contents c.loop.client.sink in
    let now = g.O.Sink.contents c.answer-later.new.sink in
    let inv = c.loop.invariant in
    let fs = inv.5.0 in
    let comes = subst (ComesBehind c.loop.calls left last c.next_of-next.new.reader fs) c.in-Ok-Call.field-0-is
    (c.in-Ok-Call.ensures.comes left fs inv.5.2.given) in
    let read = subst (λ x. ComingCount x (g.I.Source.faults c.loop.client.source) (g.I.Source.faults c.next_of-next.new.source))
    c.in-Ok-Call.field-0-is c.in-Ok-Call.ensures.count in
    let writes = g.O.Sink.faults c.loop.client.sink in
    let writes_now = g.O.Sink.faults c.answer-later.new.sink in
    let made = was_replied c.loop.session.number f t.book.entries u.book.entries out now writes writes_now c.answer-later.result.1
    c.in-Ok.written written.Whole c.in-Ok.is c.in-Whole.is c.answer-later.ensures.answered in
    let one = subst (λ k. HasOneMore k f t.book.entries u.book.entries made.0) inv.3 made.1 in (
      tt,
      tt,
      c.answer-later.ensures.again,
      c.answer-later.ensures.number ∙ inv.3,
      since_since s t u inv.4 c.answer-later.ensures.since,
      (
        fs ++ f ∷ [],
        omega (arith, inv.5.1, length-append fs (f ∷ [])),
        one_replied n left (g.I.Source.left c.loop.client.source) last (g.O.Sink.contents c.args.client.now.sink) out now
            c.loop.reader c.next_of-next.new.reader t.book.entries u.book.entries fs f made.0 inv.5.2 comes.1
            (λ e. comes.0 (inv.5.1 ∙ e)) one made.2.0,
      ),
      read ∙ inv.6,
      made.2.1 ∙ inv.7,
    )

pub returns-in-Cut-clause-served : goal.returns-in-Cut-clause-served
returns-in-Cut-clause-served g c =
    let n = c.args.session.now.number in
    let left = g.I.Source.left c.args.client.now.source in
    let last = g.I.Source.left c.next_of-next.new.source in
    let reads_now = g.I.Source.faults c.next_of-next.new.source in
    let t = laid (last_of c.loop.seat) in
    let u = laid (last_of c.answer-later.result.0) in
    let f = c.in-Ok-Call.frame in
    let out = g.O.Sink.contents c.loop.client.sink in
    let now = g.O.Sink.contents c.answer-later.new.sink in
    let inv = c.loop.invariant in
    let fs = inv.5.0 in
    let comes = subst (ComesBehind c.loop.calls left last c.next_of-next.new.reader fs) c.in-Ok-Call.field-0-is
    (c.in-Ok-Call.ensures.comes left fs inv.5.2.given) in
    let read = subst (λ x. ComingCount x (g.I.Source.faults c.loop.client.source) reads_now)
    c.in-Ok-Call.field-0-is c.in-Ok-Call.ensures.count in
    let writes = g.O.Sink.faults c.loop.client.sink in
    let writes_now = g.O.Sink.faults c.answer-later.new.sink in
    let made = was_replied c.loop.session.number f t.book.entries u.book.entries out now writes writes_now c.answer-later.result.1
    c.in-Ok.written written.Cut c.in-Ok.is c.in-Cut.is c.answer-later.ensures.answered in
    let one = subst (λ k. HasOneMore k f t.book.entries u.book.entries made.0) inv.3 made.1 in
    ended_cut n
    (told left (g.I.Source.faults c.args.client.now.source) (g.O.Sink.contents c.args.client.now.sink)
    (g.O.Sink.faults c.args.client.now.sink))
    (told last reads_now now writes_now) (g.I.Source.left c.loop.client.source) out c.loop.reader c.next_of-next.new.reader
    t.book.entries u.book.entries fs f made.0 inv.5.2 comes.1 (λ e. comes.0 (inv.5.1 ∙ e)) one made.2.0 (c.loop.calls + 1)
    (ap (λ k. k + 1) inv.5.1) (read ∙ inv.6) (made.2.1 ∙ ap one_more inv.7)

pub returns-in-Err-answered-clause-served : goal.returns-in-Err-answered-clause-served
returns-in-Err-answered-clause-served g c =
    let n = c.args.session.now.number in
    let left = g.I.Source.left c.args.client.now.source in
    let last = g.I.Source.left c.next_of-next.new.source in
    let reads_now = g.I.Source.faults c.next_of-next.new.source in
    let t = laid (last_of c.loop.seat) in
    let u = laid (last_of c.answer-later.result.0) in
    let f = c.in-Ok-Call.frame in
    let out = g.O.Sink.contents c.loop.client.sink in
    let now = g.O.Sink.contents c.answer-later.new.sink in
    let inv = c.loop.invariant in
    let fs = inv.5.0 in
    let comes = subst (ComesBehind c.loop.calls left last c.next_of-next.new.reader fs) c.in-Ok-Call.field-0-is
    (c.in-Ok-Call.ensures.comes left fs inv.5.2.given) in
    let read = subst (λ x. ComingCount x (g.I.Source.faults c.loop.client.source) reads_now)
    c.in-Ok-Call.field-0-is c.in-Ok-Call.ensures.count in
    let writes = g.O.Sink.faults c.loop.client.sink in
    let writes_now = g.O.Sink.faults c.answer-later.new.sink in
    stopped_written n c.loop.session.number inv.3
    (told left (g.I.Source.faults c.args.client.now.source) (g.O.Sink.contents c.args.client.now.sink)
    (g.O.Sink.faults c.args.client.now.sink))
    (told last reads_now now writes_now) (g.I.Source.left c.loop.client.source) out c.loop.reader c.next_of-next.new.reader
    t.book.entries u.book.entries fs f writes inv.5.2 comes.1 (λ e. comes.0 (inv.5.1 ∙ e))
    c.answer-later.result.1 c.in-Err-answered.error c.in-Err-answered.is c.answer-later.ensures.answered (read ∙ inv.6) inv.7
