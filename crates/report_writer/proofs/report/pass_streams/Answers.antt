use Rattle.std.proofs.Common.{◌≡◌, ◌<◌, ◌+◌, ◌++◌, length, get_or, drop, sym, ap, subst, ◌∙◌, arith, append_assoc}
use Rattle.volume_model.specs.History.{answers_of}
use Rattle.run_report.specs.Report.{reply_lines, replies_from}
use Rattle.run_report.proofs.ReportLemmas.{next_stream}
use Rattle.outer_traits.specs.Passing.{WritesPrefix}
use Rattle.outer_traits.proofs.Passing.{Passes-trans, WritesPrefix-after, WritesPrefix-more}
use Rattle.report_writer.proofs.report.pass_streams.Goals as goal

pub loop-stream-preserved : goal.loop-stream-preserved
loop-stream-preserved g c =
    let i = c.loop-stream.invariant in
    let entries = c.args.journal.now.entries in
    let streams = c.args.streams.now in
    let stream = c.loop-stream.stream in
    let heads = c.index-streams-stream.result in
    let text = reply_lines heads (answers_of stream entries) in
    let inside : stream < length streams = omega arith in
    let at : get_or streams stream heads ≡ heads =
    sym c.index-streams-stream.is in (
      i.0 ++ text,
      Passes-trans _ _ _ _ _ _ i.0 text i.1 c.in_ok-pass_replies.ensures.passed,
      next_stream i.0 (replies_from 0 streams entries) stream streams entries heads inside at i.2,
      c.in_ok-pass_replies.ensures.cause.cause ∙ i.3,
    )

pub returns-in_err-pass_replies-clause-prefix : goal.returns-in_err-pass_replies-clause-prefix
returns-in_err-pass_replies-clause-prefix g c =
    let i = c.loop-stream.invariant in
    let entries = c.args.journal.now.entries in
    let streams = c.args.streams.now in
    let had = c.args.buffer.now.items in
    let stream = c.loop-stream.stream in
    let heads = c.index-streams-stream.result in
    let text = reply_lines heads (answers_of stream entries) in
    let rest = replies_from (stream + 1) (drop (stream + 1) streams) entries in
    let inside : stream < length streams = omega arith in
    let at : get_or streams stream heads ≡ heads =
    sym c.index-streams-stream.is in
    let t = next_stream i.0 (replies_from 0 streams entries) stream streams entries heads inside at i.2 in
    let prefix = WritesPrefix-after _ _ _ had _ i.0 text i.1 c.in_err-pass_replies.ensures.prefix in
    subst (WritesPrefix _ _) (append_assoc had (i.0 ++ text) rest ∙ ap (λ l. had ++ l) t) (WritesPrefix-more _ _ _ rest prefix)
