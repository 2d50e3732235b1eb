-- The report of served sessions: a line for each entry of the journal, one for each session, and then what the run leaves.
-- The form is this project's own.
use Rattle.std.specs.Prelude.{ℕ, suc, List, [], ◌∷◌, ◌++◌, codes}
use Rattle.std.specs.Fmt.{decimal}
use Rattle.volume_model.specs.declared.entry.Entry.{Entry}
use Rattle.volume_model.specs.History.{Spot}
use Rattle.volume_model.specs.Modes.{modes_after}
use Rattle.volume_model.specs.Replay.{replay}
use Rattle.run_report.specs.Lines.{word}
use Rattle.run_report.specs.Report.{journal_lines, end_lines}
use Rattle.run_report.specs.declared.session_line.SessionEnd.{SessionEnd}
use Rattle.run_report.specs.declared.session_line.SessionEnd.TheVariants as end
use Rattle.run_report.specs.declared.session_line.EndedSession.{EndedSession}

-- how a session ended
abbrev pub session_end_text : SessionEnd → List ℕ
session_end_text end.Closed = codes "closed"
session_end_text end.Ended = codes "ended"
session_end_text (end.Frame place) = codes "frame " ++ decimal place
session_end_text end.Full = codes "full"
session_end_text end.ReadFault = codes "read fault"
session_end_text end.WriteFault = codes "write fault"

-- the session k: how it ended, how many calls it had made, and how long the journal was when it looked last
abbrev pub session_line : ℕ → EndedSession → List ℕ
session_line k s = codes "session " ++ word (decimal k) ++ word (session_end_text s.end) ++ word (decimal s.calls)
    ++ decimal s.seen ++ 10 ∷ []

-- the lines of these sessions, the first of which is k
abbrev pub session_lines : ℕ → List EndedSession → List ℕ
session_lines k [] = []
session_lines k (s ∷ more) = session_line k s ++ session_lines (suc k) more

-- the whole report of a journal that these sessions have made
abbrev pub sessions_report : List EndedSession → Spot → List Entry → List ℕ
sessions_report sessions opening journal = journal_lines 0 journal ++ session_lines 0 sessions
    ++ end_lines (modes_after opening.modes journal) (replay opening.state journal).volume
