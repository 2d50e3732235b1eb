use Rattle.std.proofs.Common.{◌∙◌, [], ◌∷◌, ◌++◌, refl, sym, subst}
use Rattle.frame_stream.specs.Reading.{GivesNext}
use Rattle.replica_serve.specs.Turns.{AnswersCalls, ServesSome, TakesTurn}
use Rattle.replica_serve.proofs.Serving.{none_yet, one_served, written_out, some_written, some_answered, err_with}
use Rattle.replica_serve.proofs.serve.serve_waiting.Goals as goal

pub loop-frame-init : goal.loop-frame-init
loop-frame-init g c =
    ([], none_yet c.args.reader.now c.args.node.now.disk c.args.replies.now.items (g.K.Sink.contents c.args.sink.now), refl)

pub returns-in_err-serve_frame-clause-some : goal.returns-in_err-serve_frame-clause-some
returns-in_err-serve_frame-clause-some g c =
    let so_far = c.loop-frame.invariant in
    let sink = g.K.Sink.contents c.args.sink.now in
    let now = g.K.Sink.contents c.loop-frame.sink in
    err_with c.from_residual-in_err-serve_frame.result (ServesSome c.args.reader.now c.args.node.now.disk c.args.replies.now.items sink now)
    (some_answered c.args.reader.now c.loop-frame.reader c.args.node.now.disk c.loop-frame.node.disk c.args.replies.now.items
    c.loop-frame.replies.items sink now now so_far.0 so_far.1)

pub loop-frame-preserved : goal.loop-frame-preserved
loop-frame-preserved g c =
    let so_far = c.loop-frame.invariant in
    let f = c.in-Frame.frame in
    let given = subst (GivesNext c.loop-frame.reader c.next.new.self) c.in-Frame.is c.in_ok-frame.ensures.next in
    let turn = subst (TakesTurn f c.loop-frame.node.disk c.serve_frame.new.node.disk c.loop-frame.replies.items
    c.serve_frame.new.replies.items)
    c.in-Answered.is c.in_ok-serve_frame.ensures in (
      so_far.0 ++ f ∷ [],
      one_served c.args.reader.now c.loop-frame.reader c.next.new.self c.args.node.now.disk c.loop-frame.node.disk
          c.serve_frame.new.node.disk c.args.replies.now.items c.loop-frame.replies.items c.serve_frame.new.replies.items
          (g.K.Sink.contents c.args.sink.now) (g.K.Sink.contents c.loop-frame.sink) so_far.0 f so_far.1 c.requires given turn,
      so_far.2,
    )

pub returns-in_err-write_out-clause-some : goal.returns-in_err-write_out-clause-some
returns-in_err-write_out-clause-some g c =
    let so_far = c.loop-frame.invariant in
    let f = c.in-Frame.frame in
    let sink = g.K.Sink.contents c.args.sink.now in
    let now = g.K.Sink.contents c.loop-frame.sink in
    let last = g.K.Sink.contents c.write_out.new.sink in
    let given = subst (GivesNext c.loop-frame.reader c.next.new.self) c.in-Frame.is c.in_ok-frame.ensures.next in
    let turn = subst (TakesTurn f c.loop-frame.node.disk c.serve_frame.new.node.disk c.loop-frame.replies.items
    c.serve_frame.new.replies.items)
    c.in-Answered.is c.in_ok-serve_frame.ensures in
    let served = one_served c.args.reader.now c.loop-frame.reader c.next.new.self c.args.node.now.disk c.loop-frame.node.disk
    c.serve_frame.new.node.disk c.args.replies.now.items c.loop-frame.replies.items c.serve_frame.new.replies.items
    sink now so_far.0 f so_far.1 c.requires given turn in
    err_with c.from_residual-in_err-write_out.result (ServesSome c.args.reader.now c.args.node.now.disk c.args.replies.now.items sink last)
    (some_written c.args.reader.now c.next.new.self c.args.node.now.disk c.serve_frame.new.node.disk c.args.replies.now.items
    c.serve_frame.new.replies.items sink now last (so_far.0 ++ f ∷ []) served c.write_out.ensures.prefix)

pub loop-frame-preserved-in-Continue-branch-5 : goal.loop-frame-preserved-in-Continue-branch-5
loop-frame-preserved-in-Continue-branch-5 g c =
    let so_far = c.loop-frame.invariant in
    let f = c.in-Frame.frame in
    let sink = g.K.Sink.contents c.args.sink.now in
    let now = g.K.Sink.contents c.loop-frame.sink in
    let given = subst (GivesNext c.loop-frame.reader c.next.new.self) c.in-Frame.is c.in_ok-frame.ensures.next in
    let turn = subst (TakesTurn f c.loop-frame.node.disk c.serve_frame.new.node.disk c.loop-frame.replies.items
    c.serve_frame.new.replies.items)
    c.in-Answered.is c.in_ok-serve_frame.ensures in
    let served = one_served c.args.reader.now c.loop-frame.reader c.next.new.self c.args.node.now.disk c.loop-frame.node.disk
    c.serve_frame.new.node.disk c.args.replies.now.items c.loop-frame.replies.items c.serve_frame.new.replies.items
    sink now so_far.0 f so_far.1 c.requires given turn in
    let last = g.K.Sink.contents c.write_out.new.sink in (
      so_far.0 ++ f ∷ [],
      subst (λ l. AnswersCalls c.args.reader.now c.next.new.self c.args.node.now.disk c.serve_frame.new.node.disk c.args.replies.now.items
          l sink last (so_far.0 ++ f ∷ [])) (sym c.in_ok-write_out.ensures.empty)
          (written_out c.args.reader.now c.next.new.self c.args.node.now.disk c.serve_frame.new.node.disk c.args.replies.now.items
          c.serve_frame.new.replies.items sink now last (so_far.0 ++ f ∷ []) served c.in_ok-write_out.ensures.written),
      c.in_ok-write_out.ensures.counts ∙ so_far.2,
    )
