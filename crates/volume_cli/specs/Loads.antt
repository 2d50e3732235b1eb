-- What a load that generates itself leaves.
use Rattle.std.specs.Prelude.{◌⊎◌, ℕ, ◌-◌, List, length, map, take, Option, Result, Ok, Err}
use Rattle.std.specs.Io.KnownBytes.{Appends}
use Rattle.outer_traits.specs.Lines.{Asked, TellsMore}
use Rattle.outer_traits.specs.Passing.{WritesPrefix}
use Rattle.outer_traits.specs.declared.error.OuterError.{OuterError}
use Rattle.outer_traits.specs.declared.error.OuterError.TheVariants as outer_error
use Rattle.volume_model.specs.declared.entry.Entry.{Entry}
use Rattle.replica_node.specs.Volume.{volume_of_node}
use Rattle.report_laws.specs.Fits.{AllFit}
use Rattle.report_writer.specs.Written.{written_summary}
use Rattle.script_text.specs.declared.script.Script.{Script}
use Rattle.stream_turns.specs.declared.serving.ServedStreams.{ServedStreams}
use Rattle.stream_turns.specs.Run.{IsRun}
use Rattle.stream_turns.specs.Volume.{asks_in, blank_spot}
use Rattle.volume_cli.specs.Begun.{blank_begin}
use Rattle.volume_cli.specs.Left.{StoreFact, summary_text}
use Rattle.volume_cli.specs.declared.status.Status.{Status}
use Rattle.volume_cli.specs.declared.status.Status.TheVariants as status

-- The journal is that of a run of the script on a blank volume, and what its entries hold fits its type. The wiring was asked
-- for the script's lines. The target of backups has come to what it is behind the journal.
pub record IsLoadRun (before now : Option (List Asked)) (counted : ℕ → ℕ → ℕ) (told : ℕ → ℕ → Option (List (List ℕ)))
    (Stores : StoreFact) (script : Script) (journal : List Entry) : Type 0 where
  pub run : IsRun counted told script (blank_spot script) journal
  pub fits : AllFit journal
  pub lines : TellsMore before now (asks_in script)
  pub store : Stores script.volume (blank_spot script) journal

-- what is printed of it
abbrev pub load_summary : Script → List Entry → List ℕ
load_summary script journal = summary_text script (blank_begin script) journal

-- what is written of streams that were served, the last of which is the control stream
abbrev pub served_summary : ServedStreams → List ℕ
served_summary s = written_summary (take (length s.heads.items - 1) s.heads.items) s.world.journal
    (map volume_of_node s.world.nodes.items)

-- what is left of a load of that script that ended so: its whole summary, or a prefix, or the sink as it was
module _ (Runs : List Entry → Type 0) (script : Script) (same : Type 0) (old new : Option (List ℕ)) where
  abbrev pub SumsUpSome : Type 0
  SumsUpSome = (journal : List Entry) × Runs journal × WritesPrefix old new (load_summary script journal)

  abbrev pub LeavesLoad : Result (Unit {0}) OuterError → Type 0
  LeavesLoad (Ok done) = (journal : List Entry) × Runs journal × Appends old new (load_summary script journal)
  LeavesLoad (Err outer_error.Failed) = SumsUpSome
  LeavesLoad (Err outer_error.NoMemory) = same ⊎ SumsUpSome

-- the status of a load that ended so
abbrev pub load_status : Result (Unit {0}) OuterError → Status
load_status (Ok done) = status.Done
load_status (Err outer_error.Failed) = status.WriteFault
load_status (Err outer_error.NoMemory) = status.NoMemory
