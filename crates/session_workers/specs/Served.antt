-- What sessions leave that were served side by side, on a volume that began blank.
use Rattle.std.specs.Prelude.{◌≡◌, ◌⊎◌, ℕ, ◌<◌, ◌≤◌, List, [], length, replicate, All, slice_index_or}
use Rattle.door_traits.specs.Sessions.{Told}
use Rattle.volume_model.specs.declared.entry.Answer.{Answer}
use Rattle.volume_model.specs.declared.entry.Entry.{Entry}
use Rattle.volume_model.specs.declared.mode.Mode.TheVariants.{Rw}
use Rattle.volume_model.specs.History.{IsHistory, answers_of, calls_of}
use Rattle.volume_model.specs.Modes.{mode_of}
use Rattle.volume_model.specs.Replay.{replay}
use Rattle.journal_book.specs.Book.{modes_of}
use Rattle.replica_node.specs.Volume.{volume_of_node}
use Rattle.open_calls.specs.Calls.{node_at}
use Rattle.run_report.specs.declared.session_line.EndedSession.{EndedSession}
use Rattle.stream_turns.specs.Volume.{spot_of_zeros}
use Rattle.session_workers.specs.Clients.{SessionEnds, HasStopped}
use Rattle.session_workers.specs.declared.serving.ServedSessions.{ServedSessions}

-- The session n has ended so, in this journal, of a client that told the first before and the last now. What it saw reaches
-- behind each of its calls, and not past the end.
pub record IsSession (n : ℕ) (before now : Told) (journal : List Entry) (e : EndedSession) : Type 0 where
  pub ended : SessionEnds n before now journal e
  pub reaches : All (λ (p : ℕ × Answer). p.0 < e.seen) (answers_of n journal)
  pub within : e.seen ≤ length journal

-- The journal is one legal history of the sessions' calls, each once and in order, and none is of anyone else: on a volume
-- of that size that began blank on so many replicas, over lines that never failed. Each session has ended so. Each replica
-- that is read and written is then the volume that the journal leaves.
pub record AreSessionsServed (size replicas : ℕ) (before now : List Told) (s : ServedSessions) : Type 0 where
  pub history : IsHistory (spot_of_zeros size replicas) (λ n r. 0) (λ n. calls_of n s.world.journal.entries)
      s.world.journal.entries
  pub none : (n : ℕ) → length before ≤ n → calls_of n s.world.journal.entries ≡ []
  pub each : length s.ended.items ≡ length before
  pub sessions : (n : ℕ) (x y : Told) (z : EndedSession) → n < length before
      → IsSession n (slice_index_or before n x) (slice_index_or now n y) s.world.journal.entries
      (slice_index_or s.ended.items n z)
  pub opening : s.world.journal.opening.modes ≡ replicate replicas Rw
  pub many : length s.world.nodes.items ≡ length (modes_of s.world.journal)
  pub few : length (modes_of s.world.journal) ≡ replicas
  pub volumes : (r : ℕ) → mode_of (modes_of s.world.journal) r ≡ Rw
      → volume_of_node (node_at s.world.nodes.items r)
      ≡ (replay (spot_of_zeros size replicas).state s.world.journal.entries).volume

-- the session n has ended or stopped so, in some journal
abbrev pub IsCutShort : ℕ → (before now : Told) → Type 0
IsCutShort n before now = (journal : List Entry)
    × (HasStopped n before now journal ⊎ ((e : EndedSession) × SessionEnds n before now journal e))

-- the same of each session, where memory ran out in one of them, or before the first began
abbrev pub AreCutShort : (before now : List Told) → Type 0
AreCutShort before now = (n : ℕ) (x y : Told) → n < length before
    → IsCutShort n (slice_index_or before n x) (slice_index_or now n y)
