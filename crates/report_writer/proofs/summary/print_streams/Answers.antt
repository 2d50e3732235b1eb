use Rattle.std.proofs.Common.{◌≡◌, ◌<◌, ◌≤◌, ◌++◌, ◌+◌, length, get_or, sym, ap, ◌∙◌, arith}
use Rattle.digest.specs.Digest.{digest_text}
use Rattle.volume_model.specs.History.{answers_of}
use Rattle.run_report.specs.Summary.{stream_line, stream_lines, replying_frames, frames_from}
use Rattle.report_writer.proofs.SummaryLemmas.{lines_from, next_stream_line, no_stream}
use Rattle.report_writer.proofs.summary.print_streams.Goals as goal

pub loop-stream-preserved : goal.loop-stream-preserved
loop-stream-preserved c =
    let s = c.loop-stream in
    let entries = c.args.journal.now.entries in
    let streams = c.args.streams.now in
    let heads = c.index-streams-stream.result in
    let whole = c.args.into.now.items ++ stream_lines 0 (frames_from 0 streams entries) in
    let inside : s.stream < length streams = omega arith in
    let at : get_or streams s.stream heads ≡ heads =
    sym c.index-streams-stream.is in
    let line = stream_line s.stream (digest_text (replying_frames heads (answers_of s.stream entries))) in
    let put : c.print_stream.new.into.items ≡ s.into.items ++ line =
    c.in_ok-print_stream.ensures.ok ∙ ap (λ d. s.into.items ++ stream_line s.stream d) c.in_ok-digest.ensures in
    ap (λ l. l ++ lines_from (s.stream + 1) streams entries) put
    ∙ next_stream_line s.into.items whole s.stream streams entries heads inside at s.invariant

pub returns : goal.returns
returns c =
    let s = c.loop-stream in
    let entries = c.args.journal.now.entries in
    let streams = c.args.streams.now in
    let past : length streams ≤ s.stream = omega arith in
    no_stream s.into.items (c.args.into.now.items ++ stream_lines 0 (frames_from 0 streams entries)) s.stream streams entries past
    s.invariant
