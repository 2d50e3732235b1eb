use Rattle.std.proofs.Common.{◌≡◌, ◌++◌}
use Rattle.run_report.specs.Summary.{stream_lines, frames_from}
use Rattle.report_writer.proofs.SummaryLemmas.{lines_from}
use Rattle.report_writer.proofs.summary.print_streams.Given as goal

-- what is printed, and then the lines of the streams left, is the whole text
abbrev pub invariant-loop-stream : goal.invariant-loop-stream
invariant-loop-stream l =
    l.into.items ++ lines_from l.stream l.streams l.journal.entries
    ≡ l.fn.into.items ++ stream_lines 0 (frames_from 0 l.streams l.journal.entries)
