use Rattle.std.proofs.Common.{◌≡◌, List, ℕ, ◌++◌, drop}
use Rattle.run_report.specs.Report.{replies_from}
use Rattle.outer_traits.specs.Passing.{Passes}
use Rattle.report_writer.proofs.report.pass_streams.Given as goal

-- what is printed, and then the replies of the streams left, is the whole text; no fault so far
abbrev pub invariant-loop-stream : goal.invariant-loop-stream
invariant-loop-stream g l = (printed : List ℕ)
    × Passes (g.K.Sink.contents l.fn.sink) (g.K.Sink.contents l.sink) l.fn.buffer.items l.buffer.items printed
    × (printed ++ replies_from l.stream (drop l.stream l.streams) l.journal.entries ≡ replies_from 0 l.streams l.journal.entries)
    × (g.K.Sink.faults l.sink ≡ g.K.Sink.faults l.fn.sink)
