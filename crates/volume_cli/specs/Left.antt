-- What a run has printed, and the folders and the store of backups that it leaves.
use Rattle.std.specs.Prelude.{◌≡◌, ◌≢◌, ℕ, ◌<◌, ◌≤◌, ◌-◌, true, false, List, length, map, take, All, Option, Some, option_map}
use Rattle.std.specs.Io.KnownBytes.{Appends}
use Rattle.outer_traits.specs.Lines.{Asked, TellsMore}
use Rattle.outer_traits.specs.Passing.{WritesPrefix}
use Rattle.frame_wire.specs.declared.head.Head.{Head}
use Rattle.shelf_traits.specs.Files.{Files, Both}
use Rattle.chain_meta.specs.Kinds.{largest_head}
use Rattle.folder_checks.specs.Told.{Told}
use Rattle.volume_model.specs.declared.entry.Entry.{Entry}
use Rattle.volume_model.specs.declared.mode.Mode.{Mode}
use Rattle.volume_model.specs.declared.mode.Mode.TheVariants.{Rw, Err}
use Rattle.volume_model.specs.History.{Spot}
use Rattle.volume_model.specs.Modes.{mode_of, modes_after}
use Rattle.volume_model.specs.PlainState.{Volume}
use Rattle.volume_model.specs.Replay.{replay}
use Rattle.program_words.specs.declared.words.Workers.TheVariants.{One}
use Rattle.program_words.specs.declared.words.Words.{Words}
use Rattle.program_words.specs.declared.words.Words.TheVariants.{Run, Generate}
use Rattle.replica_shelf.specs.Folder.{Stamps}
use Rattle.report_laws.specs.Fits.{AllFit}
use Rattle.run_report.specs.Report.{report_of}
use Rattle.run_report.specs.Summary.{summary_in}
use Rattle.script_text.specs.Generated.{generated}
use Rattle.script_text.specs.Good.{backs_up}
use Rattle.script_text.specs.declared.script.Script.{Script}
use Rattle.stream_turns.specs.Volume.{asks_in, heads_in}
use Rattle.stream_turns.specs.Run.{IsRun, IsOneWorkersRun}
use Rattle.volume_folders.specs.declared.reason.Reason.{Reason}
use Rattle.volume_folders.specs.Heads.{head_at, stamps_for}
use Rattle.volume_folders.specs.Reasons.{why_text}
use Rattle.volume_folders.specs.Saved.{OnlyFoldersChange, IsVolumeFolder, IsFailedFolder}
use Rattle.volume_cli.specs.declared.status.Status.{Status}
use Rattle.volume_cli.specs.declared.status.Status.TheVariants.{NoMemory}
use Rattle.volume_cli.specs.Begun.{Begin, HasBegun, HadScript}

-- ---- the volume at the end

abbrev pub volume_after : Begin → List Entry → Volume
volume_after begin journal = (replay begin.spot.state journal).volume

abbrev pub modes_left : Begin → List Entry → List Mode
modes_left begin journal = modes_after begin.spot.modes journal

-- what is told in a replica's folder of times, and of its head: one that was opened and is still the head keeps what was
-- told of it
abbrev pub stamps_after : List ℕ → Begin → List Entry → ℕ → Stamps
stamps_after time begin journal r = stamps_for time (head_at begin.heads r) (volume_after begin journal).snapshots.number

-- The folder of each replica that is read and written is clean, and its volume is the journal's replay: head, tree, number,
-- and each live name's copy. That of a replica in ERR says so.
pub record AreFoldersOf (files : Files) (size : ℕ) (time : List ℕ) (begin : Begin) (journal : List Entry) : Type 0 where
  pub read : (r : ℕ) → mode_of (modes_left begin journal) r ≡ Rw
      → (volume_after begin journal).snapshots.number ≤ largest_head
      → IsVolumeFolder (files r) (stamps_after time begin journal r) (volume_after begin journal)
  pub failed : (r : ℕ) → r < length (modes_left begin journal) → mode_of (modes_left begin journal) r ≡ Err
      → IsFailedFolder (files r) size

-- ---- the run

-- what may be so of a target, of the volume whose backups go there, and of a journal that begins at that spot
abbrev pub StoreFact : Type 1
StoreFact = List ℕ → Spot → List Entry → Type 0

-- The run began on the folders that were handed in, or blank. The journal is that of a run of the script, over lines that
-- counted these faults and told that they carried this. What its entries hold fits its type, so that no two such journals
-- have one report. Where the wiring tells which lines it was asked for, before the run and now, in between these were the
-- script's, each to fail as it plans. Where one worker was asked for, the journal is one worker's. Of a script that saves,
-- the folders are those of the journal, unless the shelves failed or memory ran out; of one that does not they stay. No
-- other file changes. The target of backups has come to what it is behind the journal, and where no stream backs up it is
-- as it was (`spared`).
pub record IsRunOf (asked : Option Words) (before now : Option (List Asked)) (counted : ℕ → ℕ → ℕ)
    (told : ℕ → ℕ → Option (List (List ℕ))) (old new : Option Files) (well : Type 0) (Stores : StoreFact) (spared : Type 0)
    (status : Status) (script : Script) (begin : Begin) (journal : List Entry) : Type 0 where
  pub begun : HasBegun old script begin
  pub run : IsRun counted told script begin.spot journal
  pub fits : AllFit journal
  pub lines : TellsMore before now (asks_in script)
  pub turns : asked ≡ Some (Run One) → IsOneWorkersRun counted script begin.spot journal
  pub saved : script.saves ≡ true → well → status ≢ NoMemory
      → Told new (λ files. AreFoldersOf files script.size script.now begin journal)
  pub kept : script.saves ≡ false → new ≡ old
  pub only : Both old new (OnlyFoldersChange script.replicas)
  pub store : Stores script.volume begin.spot journal
  pub unasked : All (λ s. backs_up s ≡ false) script.streams → spared

-- what may be so of a script, of how its run began, and of its journal, where the run ends so
abbrev pub RunFact : Type 1
RunFact = Status → Script → Begin → List Entry → Type 0

-- ---- what is printed

-- why each replica is not read and written, as it is told
abbrev pub opening_texts : List (Option Reason) → List (Option (List ℕ))
opening_texts reasons = map (λ why. option_map why_text why) reasons

-- what is printed of the run of a script: the report
abbrev pub report_text : Script → Begin → List Entry → List ℕ
report_text script begin journal = report_of (opening_texts begin.reasons) (heads_in script) begin.spot journal

-- the headers of the frames of each stream but the last, which is the control stream of a generated script
abbrev pub frame_heads : Script → List (List Head)
frame_heads script = take (length script.streams - 1) (heads_in script)

-- what is printed of the run of a generated script: the summary
abbrev pub summary_text : Script → Begin → List Entry → List ℕ
summary_text script begin journal = summary_in (frame_heads script) begin.spot journal

-- what is to be done: which script may be run, and what is printed of its run
pub record Purpose : Type 1 where
  pub Had : Script → Type 0
  pub text : Script → Begin → List Entry → List ℕ

-- the script is the source's, and its run is reported
abbrev pub script_purpose : Option (List ℕ) → Purpose
script_purpose left = record { Had = HadScript left; text = report_text }

-- the script is the generated one of these numbers, and its run is summed up
abbrev pub load_purpose : ℕ → ℕ → ℕ → Purpose
load_purpose number streams calls = record { Had = λ script. script ≡ generated number streams calls; text = summary_text }

-- which of both the words ask for, of what the source had
abbrev pub purpose_of : Option Words → Option (List ℕ) → Purpose
purpose_of (Some (Generate number streams calls)) left = load_purpose number streams calls
purpose_of asked left = script_purpose left

-- The sink has got all that is printed of a run.
pub record Prints (purpose : Purpose) (Runs : RunFact) (status : Status) (old new : Option (List ℕ)) : Type 0 where
  pub script : Script
  pub begin : Begin
  pub journal : List Entry
  pub had : purpose.Had script
  pub runs : Runs status script begin journal
  pub whole : Appends old new (purpose.text script begin journal)

-- The sink has got a prefix of that.
pub record PrintsPrefix (purpose : Purpose) (Runs : RunFact) (status : Status) (old new : Option (List ℕ)) : Type 0 where
  pub script : Script
  pub begin : Begin
  pub journal : List Entry
  pub had : purpose.Had script
  pub runs : Runs status script begin journal
  pub prefix : WritesPrefix old new (purpose.text script begin journal)
