-- What each status says: of the counts of faults, of the input and the folders, and of what is left.
use Rattle.std.specs.Prelude.{◌≡◌, ◌⊎◌, ℕ, List, Option, Result, Ok, Err}
use Rattle.outer_traits.specs.Causes.{Rose}
use Rattle.shelf_traits.specs.Files.{Files}
use Rattle.script_text.specs.declared.error.ScriptError.{ScriptError}
use Rattle.script_text.specs.declared.error.ScriptError.TheVariants as script_error
use Rattle.script_text.specs.declared.script.Script.{Script}
use Rattle.volume_folders.specs.declared.reason.Reason.{Reason}
use Rattle.volume_cli.specs.declared.status.Status.{Status}
use Rattle.volume_cli.specs.declared.status.Status.TheVariants as status
use Rattle.volume_cli.specs.Begun.{Begin, HasBegun, HadScript, HadNoScript, HasNoCleanShelf}
use Rattle.volume_cli.specs.Left.{RunFact, Purpose, Prints, PrintsPrefix}

-- the status that a refusal of a script is
abbrev pub status_of : ScriptError → Status
status_of (script_error.Bad place what) = status.Script place what
status_of script_error.NoMemory = status.NoMemory

-- the status of a run that ended so
abbrev pub ended : {T : Type 0} → Result T Status → Status
ended (Ok x) = status.Done
ended (Err e) = e

-- What the counts of the source (s, then t), of the sink (k, then l), of the shelves (h, then i) and of the target (m, then
-- n) say of each status. The first fault in time is told, unless memory runs out behind it: the target fails first of the
-- last three, where it does, and the shelves last.
abbrev pub Counts : Status → ℕ → ℕ → ℕ → ℕ → ℕ → ℕ → ℕ → ℕ → Type 0
Counts status.Done s t k l h i m n = (t ≡ s) × (l ≡ k) × (i ≡ h) × (n ≡ m)
Counts status.Usage s t k l h i m n = (t ≡ s) × (l ≡ k) × (i ≡ h) × (n ≡ m)
Counts (status.Script place what) s t k l h i m n = (t ≡ s) × (l ≡ k) × (i ≡ h) × (n ≡ m)
Counts status.ReadFault s t k l h i m n = Rose s t × (l ≡ k) × (i ≡ h) × (n ≡ m)
Counts status.WriteFault s t k l h i m n = (t ≡ s) × Rose k l × (Rose h i ⊎ (i ≡ h)) × (n ≡ m)
Counts status.ShelfFault s t k l h i m n = (t ≡ s) × (l ≡ k) × Rose h i × (n ≡ m)
Counts status.TargetFault s t k l h i m n = (t ≡ s) × (Rose k l ⊎ (l ≡ k)) × (Rose h i ⊎ (i ≡ h)) × Rose m n
Counts status.NoMemory s t k l h i m n = (t ≡ s) × (Rose k l ⊎ (l ≡ k)) × (i ≡ h) × (Rose m n ⊎ (n ≡ m))
Counts (status.NoCleanShelf reasons) s t k l h i m n = (t ≡ s) × (l ≡ k) × (i ≡ h) × (n ≡ m)
Counts (status.Refused kind name) s t k l h i m n = (t ≡ s) × (l ≡ k) × (i ≡ h) × (n ≡ m)
Counts (status.Frame place) s t k l h i m n = (t ≡ s) × (l ≡ k) × (i ≡ h) × (n ≡ m)
Counts status.DoorFault s t k l h i m n = (t ≡ s) × (l ≡ k) × (i ≡ h) × (n ≡ m)

-- The source had a script that opens folders of which none is clean, each for its reason.
abbrev pub HadNoCleanShelf : Option (List ℕ) → Option Files → List Reason → Type 0
HadNoCleanShelf left held reasons = (script : Script) × HadScript left script × HasNoCleanShelf held script reasons

-- The source had a script, and a run of it began.
abbrev pub HadBegun : Option (List ℕ) → Option Files → Type 0
HadBegun left held = (script : Script) × HadScript left script × ((begin : Begin) × HasBegun held script begin)

-- what the status of a run tells of what the source had and the shelves held
abbrev pub Found : Option (List ℕ) → Option Files → Status → Type 0
Found left held status.Done = HadBegun left held
Found left held status.Usage = ⊥
Found left held (status.Script place what) = HadNoScript left place what
Found left held status.ReadFault = Unit {0}
Found left held status.WriteFault = HadBegun left held
Found left held status.ShelfFault = (script : Script) × HadScript left script
Found left held status.TargetFault = HadBegun left held
Found left held status.NoMemory = Unit {0}
Found left held (status.NoCleanShelf reasons) = HadNoCleanShelf left held reasons
Found left held (status.Refused kind name) = ⊥
Found left held (status.Frame place) = ⊥
Found left held status.DoorFault = ⊥

-- What is left then: `same` says that the sink is as it was, `untouched` that the shelves are, `still` that they hold what
-- they held, `spared` that the target is as it was, and `fell` that the sink failed.
module _ (purpose : Purpose) (Runs : RunFact) (same untouched still spared fell : Type 0) (old new : Option (List ℕ)) where
  abbrev pub Leaves : Status → Type 0
  Leaves status.Done = Prints purpose Runs status.Done old new
  Leaves status.Usage = same × untouched × spared
  Leaves (status.Script place what) = same × untouched × spared
  Leaves status.ReadFault = same × untouched × spared
  Leaves status.WriteFault = PrintsPrefix purpose Runs status.WriteFault old new
  Leaves status.ShelfFault = (same × still × spared) ⊎ Prints purpose Runs status.ShelfFault old new
  Leaves status.TargetFault =
      Prints purpose Runs status.TargetFault old new ⊎ (fell × PrintsPrefix purpose Runs status.TargetFault old new)
  Leaves status.NoMemory = (same × still) ⊎ PrintsPrefix purpose Runs status.NoMemory old new
  Leaves (status.NoCleanShelf reasons) = same × still × spared
  Leaves (status.Refused kind name) = ⊥
  Leaves (status.Frame place) = ⊥
  Leaves status.DoorFault = ⊥
