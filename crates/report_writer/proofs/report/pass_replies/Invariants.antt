use Rattle.std.proofs.Common.{◌≡◌, List, ℕ, ◌++◌, drop}
use Rattle.volume_model.specs.History.{answers_from}
use Rattle.run_report.specs.Report.{reply_lines}
use Rattle.outer_traits.specs.Passing.{Passes}
use Rattle.report_writer.proofs.report.pass_replies.Given as goal

-- what is printed, and then the replies to the headers left, is the whole text; no fault so far
abbrev pub invariant-loop-place : goal.invariant-loop-place
invariant-loop-place g l = (printed : List ℕ)
    × Passes (g.K.Sink.contents l.fn.sink) (g.K.Sink.contents l.sink) l.fn.buffer.items l.buffer.items printed
    × (printed ++ reply_lines l.left (answers_from l.stream l.place (drop l.place l.journal.entries))
    ≡ reply_lines l.heads (answers_from l.stream 0 l.journal.entries))
    × (g.K.Sink.faults l.sink ≡ g.K.Sink.faults l.fn.sink)
