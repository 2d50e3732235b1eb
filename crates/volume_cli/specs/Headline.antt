-- What the status of the program tells.
use Rattle.std.specs.Prelude.{◌≡◌, ℕ, ◌⊎◌, Bool, true, List, map, Option, Some, None, string_bytes, String}
use Rattle.target_traits.specs.Objects.{Objects}
use Rattle.program_words.specs.declared.words.Workers.{Workers}
use Rattle.program_words.specs.declared.words.Words.{Words}
use Rattle.program_words.specs.declared.words.Words.TheVariants.{Run, Replica, Generate, Serve}
use Rattle.program_words.specs.Asked.{asked_by}
use Rattle.shelf_traits.specs.Files.{Files}
use Rattle.volume_folders.specs.declared.reason.Reason.{Reason}
use Rattle.volume_cli.specs.declared.status.Status.{Status}
use Rattle.volume_cli.specs.declared.status.Status.TheVariants as status
use Rattle.volume_cli.specs.Begun.{HadNoScript}
use Rattle.volume_cli.specs.Ends.{HadBegun, HadNoCleanShelf}
use Rattle.volume_cli.specs.Served.{WasCutOff}
use Rattle.volume_cli.specs.Stores.{IsOfStore, RefusesObject}

-- what the words ask for, if they ask for anything that there is
abbrev pub asked_for : {A : Type 0} → List (String A) → Option Words
asked_for words = asked_by (map string_bytes words)

-- the words ask for a run
abbrev pub AskRun : {A : Type 0} → List (String A) → Type 0
AskRun words = (workers : Workers) × (asked_for words ≡ Some (Run workers))

-- the words ask that a blank replica is served
abbrev pub AskReplica : {A : Type 0} → List (String A) → Type 0
AskReplica words = (size : ℕ) × (asked_for words ≡ Some (Replica size))

-- the words ask for a load that generates itself
abbrev pub AskLoad : {A : Type 0} → List (String A) → Type 0
AskLoad words = (number streams calls : ℕ) × (asked_for words ≡ Some (Generate number streams calls))

-- the words ask that sessions are served
abbrev pub AskServe : {A : Type 0} → List (String A) → Type 0
AskServe words =
    (address : List ℕ) × (size replicas sessions : ℕ) × (asked_for words ≡ Some (Serve address size replicas sessions))

-- the words ask for what is in a store of backups
abbrev pub AskStore : {A : Type 0} → List (String A) → Type 0
AskStore words = (asked : Words) × (asked_for words ≡ Some asked) × IsOfStore asked

-- the words are a usage error: they ask for nothing that there is
abbrev pub IsUsageError : {A : Type 0} → List (String A) → Type 0
IsUsageError words = asked_for words ≡ None

-- it is the answer, unless memory ran out
abbrev pub IsStatus : Status → Status → Type 0
IsStatus answer other = (answer ≡ other) ⊎ (answer ≡ status.NoMemory)

-- The status comes only where the fact holds, and wherever it holds, unless memory ran out.
abbrev pub ExactlyWhere : Status → Status → Type 0 → Type 0
ExactlyWhere answer other P = (answer ≡ other → P) × (P → IsStatus answer other)

-- the answer tells that no folder is clean, unless memory ran out
abbrev pub TellsNoCleanShelf : Status → Type 0
TellsNoCleanShelf answer = (reasons : List Reason) × IsStatus answer (status.NoCleanShelf reasons)

-- A script is refused only where the words ask for a run, and the input is none, for this reason first, at this place.
-- That no folder is clean is told only where they ask for one, of a script that opens them, each for its reason. A target
-- fails only a run that has begun, or where they ask for what is in a store. An object is refused only where they ask for
-- that, and it is the first that is not as it has to be. A place without a frame is told only where they ask for a replica,
-- and what the source had is cut off there. Doors fail only where they ask that sessions are served.
abbrev pub RefusedOnly : {A : Type 0} → List (String A) → Option (List ℕ) → Option Files → Bool → Objects → Status → Type 0
RefusedOnly words left held tells objects status.Done = Unit {0}
RefusedOnly words left held tells objects status.Usage = Unit {0}
RefusedOnly words left held tells objects (status.Script place what) = AskRun words × HadNoScript left place what
RefusedOnly words left held tells objects status.ReadFault = Unit {0}
RefusedOnly words left held tells objects status.WriteFault = Unit {0}
RefusedOnly words left held tells objects status.ShelfFault = Unit {0}
RefusedOnly words left held tells objects status.TargetFault = (AskRun words × HadBegun left held) ⊎ AskStore words
RefusedOnly words left held tells objects status.NoMemory = Unit {0}
RefusedOnly words left held tells objects (status.NoCleanShelf reasons) = AskRun words × HadNoCleanShelf left held reasons
RefusedOnly words left held tells objects (status.Refused kind name) =
    (asked : Words) × (asked_for words ≡ Some asked) × IsOfStore asked
    × (tells ≡ true → RefusesObject objects asked kind name)
RefusedOnly words left held tells objects (status.Frame place) = AskReplica words × WasCutOff left place
RefusedOnly words left held tells objects status.DoorFault = AskServe words
