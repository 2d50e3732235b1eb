-- What is written of a run.
use Rattle.std.specs.Prelude.{⊤, ℕ, suc, ◌<◌, List, [], ◌∷◌, ◌++◌, length, Option, Some, option_and_then, slice_get}
use Rattle.frame_wire.specs.declared.head.Head.{Head}
use Rattle.journal_book.specs.Book.{Book, modes_of}
use Rattle.volume_model.specs.declared.entry.Entry.{Entry}
use Rattle.volume_model.specs.declared.mode.Mode.{Mode}
use Rattle.volume_model.specs.declared.mode.Mode.TheVariants as mode
use Rattle.volume_model.specs.Modes.{source_of}
use Rattle.volume_model.specs.PlainState.{Volume}
use Rattle.volume_model.specs.Snapshots.{chain_of}
use Rattle.digest.specs.Digest.{digest_text}
use Rattle.run_report.specs.Lines.{chain_line, head_line}
use Rattle.load_laws.specs.Result.{replies_of}
use Rattle.run_report.specs.Report.{call_lines, journal_lines, mode_lines, replies_from}
use Rattle.run_report.specs.Sessions.{session_lines}
use Rattle.run_report.specs.Summary.{stream_lines, control_line, modes_line, frames_from, summary_of}
use Rattle.run_report.specs.declared.session_line.EndedSession.{EndedSession}
use Rattle.report_writer.specs.declared.end.EndLine.{EndLine}
use Rattle.report_writer.specs.declared.end.EndLine.TheVariants.{Chain, Digest}
use Rattle.report_writer.specs.declared.report.Between.{Between}
use Rattle.report_writer.specs.declared.report.Between.TheVariants.{Replies, Sessions}

-- what such a line tells of a replica that is this volume
abbrev pub replica_line : EndLine → ℕ → Volume → List ℕ
replica_line Chain r volume = chain_line (Some r) (chain_of volume.snapshots)
replica_line Digest r volume = head_line r (digest_text volume.disk)

-- a line of this kind for each of the replicas that is read and written, of the volume that it is; the first is r
abbrev pub replica_lines : EndLine → ℕ → List Mode → List Volume → List ℕ
replica_lines kind r [] volumes = []
replica_lines kind r (m ∷ ms) [] = []
replica_lines kind r (mode.Rw ∷ ms) (v ∷ vs) = replica_line kind r v ++ replica_lines kind (suc r) ms vs
replica_lines kind r (m ∷ ms) (v ∷ vs) = replica_lines kind (suc r) ms vs

-- what a run leaves of replicas that are these volumes: modes, chains, and the digests of the heads
abbrev pub end_text : List Mode → List Volume → List ℕ
end_text modes volumes =
    mode_lines 0 modes ++ replica_lines Chain 0 modes volumes ++ replica_lines Digest 0 modes volumes

-- what was opened, the lines of the calls of streams whose frames have these headers, and then of the replicas, which are
-- these volumes
abbrev pub written_text : List ℕ → List (List Head) → Book → List Volume → List ℕ
written_text opened heads book volumes = opened ++ call_lines heads book.entries ++ end_text (modes_of book) volumes

-- the lines of the entries, those of these sessions, and then of the replicas, which are these volumes
abbrev pub sessions_text : List EndedSession → Book → List Volume → List ℕ
sessions_text sessions book volumes =
    journal_lines 0 book.entries ++ session_lines 0 sessions ++ end_text (modes_of book) volumes

-- what stands between the lines of these entries and those of the replicas
abbrev pub between_text : Between → List Entry → List ℕ
between_text (Replies heads) entries = replies_from 0 heads.now entries
between_text (Sessions sessions) entries = session_lines 0 sessions.now

-- the lines of these entries, and what stands behind them
abbrev pub entries_text : Between → List Entry → List ℕ
entries_text between entries = journal_lines 0 entries ++ between_text between entries

-- sessions are few enough that each has a number of a byte
abbrev pub HasFewSessions : Between → Type 0
HasFewSessions (Replies heads) = ⊤
HasFewSessions (Sessions sessions) = length sessions.now < 256

-- of replicas that are these volumes, the lowest that is read and written
abbrev pub source_volume : List Mode → List Volume → Option Volume
source_volume modes volumes = option_and_then (slice_get volumes) (source_of modes)

-- what a summary tells of the calls: the line of each stream whose frames have these headers, that of the next stream, which
-- is the control stream, and the modes that they left
abbrev pub calls_text : List (List Head) → Book → List ℕ
calls_text heads book = stream_lines 0 (frames_from 0 heads book.entries)
    ++ control_line (replies_of (length heads) book.entries) ++ modes_line (modes_of book)

-- the summary, for streams whose frames have these headers, and replicas that are these volumes: the next stream is the
-- control stream
abbrev pub written_summary : List (List Head) → Book → List Volume → List ℕ
written_summary heads book volumes = summary_of (frames_from 0 heads book.entries) (replies_of (length heads) book.entries)
    (modes_of book) (source_volume (modes_of book) volumes)
