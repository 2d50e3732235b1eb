use Rattle.std.proofs.Common.{◌≡◌, List, ℕ, ◌++◌, take, drop}
use Rattle.run_report.specs.Report.{journal_lines}
use Rattle.outer_traits.specs.Passing.{Passes}
use Rattle.report_laws.specs.Fits.{AllFit}
use Rattle.report_writer.proofs.report.pass_entries.Given as goal

-- what is printed, and then the lines of the entries left, is the whole text; no fault so far, and what is printed is known
abbrev pub invariant-loop-place : goal.invariant-loop-place
invariant-loop-place g l = (printed : List ℕ)
    × Passes (g.K.Sink.contents l.fn.sink) (g.K.Sink.contents l.sink) l.fn.buffer.items l.buffer.items printed
    × (printed ++ journal_lines l.place (drop l.place l.journal.entries) ≡ journal_lines 0 l.journal.entries)
    × (g.K.Sink.faults l.sink ≡ g.K.Sink.faults l.fn.sink)
    × AllFit (take l.place l.journal.entries)
