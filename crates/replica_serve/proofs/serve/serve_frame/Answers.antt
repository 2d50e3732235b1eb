use Rattle.std.proofs.Common.{◌++◌, ◌∙◌, sym, ap}
use Rattle.frame_stream.specs.Replies.{reply_frame}
use Rattle.volume_model.specs.declared.call.Call.{Call}
use Rattle.replica_serve.specs.Answers.{answer_on, disk_past, disk_with, reply_to}
use Rattle.replica_serve.proofs.FrameCalls.{asks_call}
use Rattle.replica_serve.proofs.serve.serve_frame.Goals as goal

pub returns-in_ok-answer_call-in-Call : goal.returns-in_ok-answer_call-in-Call
unfolding reply_to disk_with
returns-in_ok-answer_call-in-Call c =
    let disk = c.args.node.now.disk in
    let asks = asks_call c.args.frame c.in-Call.call (sym c.in-Call.ensures) in
    let answered = c.in_ok-answer_call-in-Call.ensures in (
      asks.0,
      answered.reply ∙ ap (λ (k : Call). c.args.replies.now.items ++ reply_frame c.args.frame.head k (answer_on disk k)) asks.1,
      answered.disk ∙ ap (λ (k : Call). disk_past disk k) asks.1,
    )
