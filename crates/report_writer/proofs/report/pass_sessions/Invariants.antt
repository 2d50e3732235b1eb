use Rattle.std.proofs.Common.{◌≡◌, List, ℕ, ◌++◌, drop}
use Rattle.run_report.specs.Sessions.{session_lines}
use Rattle.outer_traits.specs.Passing.{Passes}
use Rattle.report_writer.proofs.report.pass_sessions.Given as goal

-- what is printed, and then the lines of the sessions left, is the whole text; no fault so far
abbrev pub invariant-loop-session : goal.invariant-loop-session
invariant-loop-session g l = (printed : List ℕ)
    × Passes (g.K.Sink.contents l.fn.sink) (g.K.Sink.contents l.sink) l.fn.buffer.items l.buffer.items printed
    × (printed ++ session_lines l.session (drop l.session l.sessions) ≡ session_lines 0 l.sessions)
    × (g.K.Sink.faults l.sink ≡ g.K.Sink.faults l.fn.sink)
