-- What the parts of a run say to each other.
use Rattle.std.specs.Prelude.{◌≡◌, ◌⊎◌, ◌≤◌, ℕ, Bool, true, false, List, length, map, Option, Result, Ok, Err}
use Rattle.outer_traits.specs.Causes.{Rose}
use Rattle.outer_traits.specs.declared.error.OuterError.{OuterError}
use Rattle.outer_traits.specs.declared.error.OuterError.TheVariants as outer_error
use Rattle.shelf_traits.specs.Files.{Files}
use Rattle.journal_book.specs.Book.{modes_of}
use Rattle.replica_node.specs.Volume.{volume_of_node}
use Rattle.report_writer.specs.Written.{written_text}
use Rattle.run_report.specs.Report.{opening_lines}
use Rattle.script_text.specs.declared.script.Script.{Script}
use Rattle.volume_core.specs.State.{state_of, opening_of}
use Rattle.volume_folders.specs.declared.opening.OpenedReplicas.{OpenedReplicas}
use Rattle.volume_folders.specs.Opened.{AreKnownOpened}
use Rattle.volume_folders.specs.Saved.{AreSavedAs}
use Rattle.volume_cli.specs.declared.begin.Begun.{Begun}
use Rattle.volume_cli.specs.declared.finish.ServedRun.{ServedRun}
use Rattle.volume_cli.specs.declared.status.Status.{Status}
use Rattle.volume_cli.specs.declared.status.Status.TheVariants as status
use Rattle.volume_cli.specs.Begun.{Begin, HasNoCleanShelf}
use Rattle.volume_cli.specs.Left.{opening_texts}

-- ---- reading

-- only a fault of the source and memory stop the reading of the input, and its count shows which
abbrev pub ReadEnd : ℕ → ℕ → Status → Type 0
ReadEnd before now status.Done = ⊥
ReadEnd before now status.Usage = ⊥
ReadEnd before now (status.Script place what) = ⊥
ReadEnd before now status.ReadFault = Rose before now
ReadEnd before now status.WriteFault = ⊥
ReadEnd before now status.ShelfFault = ⊥
ReadEnd before now status.TargetFault = ⊥
ReadEnd before now status.NoMemory = now ≡ before
ReadEnd before now (status.NoCleanShelf reasons) = ⊥
ReadEnd before now (status.Refused kind name) = ⊥
ReadEnd before now (status.Frame place) = ⊥
ReadEnd before now status.DoorFault = ⊥

abbrev pub ReadCounts : {T : Type 0} → Result T Status → ℕ → ℕ → Type 0
ReadCounts (Ok x) before now = now ≡ before
ReadCounts (Err e) before now = ReadEnd before now e

-- ---- beginning

-- how a run began
abbrev pub begin_of : Begun → Begin
begin_of b = record { reasons = b.reasons.items; heads = b.heads.items; spot = opening_of (state_of b.world) }

-- what is known of opened replicas without their folders
abbrev pub IsKnownVolume : Script → OpenedReplicas → Type 0
IsKnownVolume script o = (source : ℕ) × AreKnownOpened script.size script.replicas o.nodes.items o.reasons.items source

-- only a fault of the shelves, that no folder is clean, and memory stop the beginning
abbrev pub BeginEnd : Option Files → Script → ℕ → ℕ → Status → Type 0
BeginEnd held script before now status.Done = ⊥
BeginEnd held script before now status.Usage = ⊥
BeginEnd held script before now (status.Script place what) = ⊥
BeginEnd held script before now status.ReadFault = ⊥
BeginEnd held script before now status.WriteFault = ⊥
BeginEnd held script before now status.ShelfFault = Rose before now
BeginEnd held script before now status.TargetFault = ⊥
BeginEnd held script before now status.NoMemory = now ≡ before
BeginEnd held script before now (status.NoCleanShelf reasons) = (now ≡ before) × HasNoCleanShelf held script reasons
BeginEnd held script before now (status.Refused kind name) = ⊥
BeginEnd held script before now (status.Frame place) = ⊥
BeginEnd held script before now status.DoorFault = ⊥

abbrev pub IsBeginEnd : {T : Type 0} → Option Files → Script → ℕ → ℕ → Result T Status → Type 0
IsBeginEnd held script before now (Ok x) = now ≡ before
IsBeginEnd held script before now (Err e) = BeginEnd held script before now e

-- there is a mode for each replica, and no more reasons
pub record HasMany (script : Script) (begin : Begin) : Type 0 where
  pub modes : length begin.spot.modes ≡ script.replicas
  pub reasons : length begin.reasons ≤ script.replicas

-- ---- finishing

-- what is written of a run
abbrev pub text_of : ServedRun → List ℕ
text_of run = written_text (opening_lines 0 (opening_texts run.reasons.items)) run.served.heads.items
    run.served.world.journal (map volume_of_node run.served.world.nodes.items)

-- the folders are what is saved of it
abbrev pub AreSavedOf : Files → List ℕ → ServedRun → Type 0
AreSavedOf files time run =
    AreSavedAs files time run.heads.items (modes_of run.served.world.journal) run.served.world.nodes.items

-- how a run ends whose target failed, or not, and that was written so, and then saved so
abbrev pub end_status : {A B : Type 0} → Bool → Result A OuterError → Result B OuterError → Status
end_status lost (Err outer_error.NoMemory) saved = status.NoMemory
end_status lost (Ok x) (Err outer_error.NoMemory) = status.NoMemory
end_status lost (Err outer_error.Failed) (Err outer_error.NoMemory) = status.NoMemory
end_status true (Err outer_error.Failed) (Err outer_error.Failed) = status.TargetFault
end_status true (Err outer_error.Failed) (Ok y) = status.TargetFault
end_status true (Ok x) (Err outer_error.Failed) = status.TargetFault
end_status true (Ok x) (Ok y) = status.TargetFault
end_status false (Err outer_error.Failed) (Err outer_error.Failed) = status.WriteFault
end_status false (Err outer_error.Failed) (Ok y) = status.WriteFault
end_status false (Ok x) (Err outer_error.Failed) = status.ShelfFault
end_status false (Ok x) (Ok y) = status.Done

-- The whole report is printed where the run ended so; behind a fault of the target, unless the count of the sink (k, then l)
-- rose.
abbrev pub HasPrinted : Status → ℕ → ℕ → Type 0 → Type 0
HasPrinted status.Done k l P = P
HasPrinted status.Usage k l P = Unit {0}
HasPrinted (status.Script place what) k l P = Unit {0}
HasPrinted status.ReadFault k l P = Unit {0}
HasPrinted status.WriteFault k l P = Unit {0}
HasPrinted status.ShelfFault k l P = P
HasPrinted status.TargetFault k l P = Rose k l ⊎ P
HasPrinted status.NoMemory k l P = Unit {0}
HasPrinted (status.NoCleanShelf reasons) k l P = Unit {0}
HasPrinted (status.Refused kind name) k l P = Unit {0}
HasPrinted (status.Frame place) k l P = Unit {0}
HasPrinted status.DoorFault k l P = Unit {0}

-- What the counts of the sink (k, then l) and of the shelves (h, then i) say of how a run ended that was served, whose target
-- failed, or not.
abbrev pub FinishCounts : Status → Bool → ℕ → ℕ → ℕ → ℕ → Type 0
FinishCounts status.Done lost k l h i = (lost ≡ false) × (l ≡ k) × (i ≡ h)
FinishCounts status.Usage lost k l h i = ⊥
FinishCounts (status.Script place what) lost k l h i = ⊥
FinishCounts status.ReadFault lost k l h i = ⊥
FinishCounts status.WriteFault lost k l h i = (lost ≡ false) × Rose k l × (Rose h i ⊎ (i ≡ h))
FinishCounts status.ShelfFault lost k l h i = (lost ≡ false) × (l ≡ k) × Rose h i
FinishCounts status.TargetFault lost k l h i = (lost ≡ true) × (Rose k l ⊎ (l ≡ k)) × (Rose h i ⊎ (i ≡ h))
FinishCounts status.NoMemory lost k l h i = (Rose k l ⊎ (l ≡ k)) × (i ≡ h)
FinishCounts (status.NoCleanShelf reasons) lost k l h i = ⊥
FinishCounts (status.Refused kind name) lost k l h i = ⊥
FinishCounts (status.Frame place) lost k l h i = ⊥
FinishCounts status.DoorFault lost k l h i = ⊥
