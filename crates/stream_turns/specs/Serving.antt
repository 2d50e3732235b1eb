-- What serving a script's streams begins with, and what it leaves: of the journal, of the lines, and of the replicas.
use Rattle.std.specs.Prelude.{◌≡◌, ℕ, List, [], length, Option}
use Rattle.volume_model.specs.History.{Spot}
use Rattle.volume_model.specs.declared.mode.Mode.TheVariants.{Rw}
use Rattle.volume_model.specs.Modes.{mode_of}
use Rattle.volume_model.specs.Replay.{replay}
use Rattle.journal_book.specs.Book.{modes_of}
use Rattle.replica_node.specs.Volume.{volume_of_node}
use Rattle.open_calls.specs.Calls.{node_at}
use Rattle.volume_core.specs.declared.world.World.{World}
use Rattle.volume_core.specs.State.{state_of, opening_of}
use Rattle.script_text.specs.declared.script.Script.{Script}
use Rattle.stream_turns.specs.declared.serving.ServedStreams.{ServedStreams}
use Rattle.stream_turns.specs.Volume.{heads_in}
use Rattle.stream_turns.specs.Run.{IsRun, IsOneWorkersRun}
use Rattle.stream_turns.specs.Turn.{IsBetween}

-- The World has just begun for the script at this spot: nothing is open of it, and nothing has happened. It has a place
-- for each stream, and as many replicas as the script says.
pub record IsBegun (script : Script) (spot : Spot) (w : World) : Type 0 where
  pub between : IsBetween w
  pub none : w.journal.entries ≡ []
  pub opening : opening_of (state_of w) ≡ spot
  pub streams : length w.indices.items ≡ length script.streams
  pub replicas : length w.nodes.items ≡ script.replicas

-- The journal begins at the spot. It is that of a run of the script from there, over lines that counted these faults and
-- told that they carried this. Each replica that is read and written is then the volume that the journal leaves. So it is
-- in whatever order the streams are served, and side by side.
pub record IsServed (script : Script) (spot : Spot) (counts : ℕ → ℕ → ℕ) (told : ℕ → ℕ → Option (List (List ℕ)))
    (s : ServedStreams) : Type 0 where
  pub heads : s.heads.items ≡ heads_in script
  pub opening : s.world.journal.opening.modes ≡ spot.modes
  pub run : IsRun counts told script spot s.world.journal.entries
  pub many : length s.world.nodes.items ≡ length (modes_of s.world.journal)
  pub replicas : (r : ℕ) → mode_of (modes_of s.world.journal) r ≡ Rw
      → volume_of_node (node_at s.world.nodes.items r)
      ≡ (replay spot.state s.world.journal.entries).volume

-- and by one worker
abbrev pub IsServedInTurn : Script → Spot → (ℕ → ℕ → ℕ) → ServedStreams → Type 0
IsServedInTurn script spot counts s = IsOneWorkersRun counts script spot s.world.journal.entries
