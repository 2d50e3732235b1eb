-- What the words behind the program's name ask for.
use Rattle.std.specs.Prelude.{◌≡◌, ◌&&◌, ⊤, ℕ, Bool, List, length, nat_le, slice_index, if◌then◌else◌, codes}
use Rattle.std.specs.Prelude.{Option, Some, None, option_map, option_and_then}
use Rattle.std.specs.Char.{is_ascii_alphanumeric}
use Rattle.std.specs.List.{list_all}
use Rattle.std.specs.Str.{bytes_eq}
use Rattle.clap.specs.Words.{Row, Text, first_of, subcommand_of, takes}
use Rattle.clap.specs.declared.error.kind.ErrorKind.{ErrorKind}
use Rattle.clap.specs.declared.error.kind.ErrorKind.TheVariants.{OutOfMemory}
use Rattle.vol_units.specs.Name.{IsPlainName, is_name_byte}
use Rattle.vol_units.specs.Size.{IsVolumeSize}
use Rattle.program_words.specs.Numbers.{AreLoadNumbers, AreServeNumbers, number_of, size_of, streams_of, calls_of, replicas_of, sessions_of}
use Rattle.program_words.specs.Program.{program}
use Rattle.program_words.specs.declared.words.Workers.{Workers}
use Rattle.program_words.specs.declared.words.Workers.TheVariants.{One, Each}
use Rattle.program_words.specs.declared.words.Words.{Words}
use Rattle.program_words.specs.declared.words.Words.TheVariants.{Run, Restore, Backups, Replica, Generate, Serve}
use Rattle.program_words.specs.declared.words.WordsError.{WordsError}
use Rattle.program_words.specs.declared.words.WordsError.TheVariants.{Usage, NoMemory}

-- the two values of `--workers`
abbrev pub workers_named : Text → Option Workers
workers_named value = if bytes_eq value (codes "one") then Some One
    else (if bytes_eq value (codes "each") then Some Each else None)

-- a worker for each stream, where `--workers` is left out
abbrev pub workers_of : Option Text → Option Workers
workers_of None = Some Each
workers_of (Some value) = workers_named value

-- the test for a name of a volume or a backup, `IsPlainName`: 1 to 64 bytes of names, of which the first is a letter or a digit
abbrev pub is_plain_name : List ℕ → Bool
is_plain_name text = nat_le 1 (length text) && (nat_le (length text) 64
    && (list_all is_name_byte text && is_ascii_alphanumeric (slice_index text 0)))

-- the name that a text is, if it is one
abbrev pub plain_name : Text → Option (List ℕ)
plain_name text = if is_plain_name text then Some text else None

-- the name that is given for an argument, if one is given
abbrev pub name_at : Text → List Row → Option (List ℕ)
name_at id rows = option_and_then plain_name (first_of id rows)

-- `run`, by who is to serve
abbrev pub run_of : List Row → Option Words
run_of rows = option_map Run (workers_of (first_of (codes "workers") rows))

-- `restore`, of a backup of a volume
abbrev pub restore_of : List Row → Option Words
restore_of rows = option_and_then (λ backup. option_map (Restore backup) (name_at (codes "volume") rows))
    (name_at (codes "backup") rows)

-- `backups`, of a volume
abbrev pub backups_of : List Row → Option Words
backups_of rows = option_map Backups (name_at (codes "volume") rows)

-- the number that is given for an argument, if one is given
abbrev pub number_at : Text → List Row → Option ℕ
number_at id rows = option_and_then number_of (first_of id rows)

-- `replica`, of a size
abbrev pub replica_of : List Row → Option Words
replica_of rows = option_map Replica (option_and_then size_of (number_at (codes "size") rows))

-- `gen`, of a number and a count of streams, by how many calls each of them has
abbrev pub load_of : ℕ → ℕ → List Row → Option Words
load_of number streams rows =
    option_map (Generate number streams) (option_and_then calls_of (number_at (codes "calls") rows))

-- `gen`, of a number, by how many streams there are and how many calls each of them has
abbrev pub generate_of : List Row → Option Words
generate_of rows = option_and_then (λ number. option_and_then (λ streams. load_of number streams rows)
    (option_and_then streams_of (number_at (codes "streams") rows))) (number_at (codes "number") rows)

-- `serve`, at an address, of a size and of so many replicas, by how many sessions there are
abbrev pub sessions_at : List ℕ → ℕ → ℕ → List Row → Option Words
sessions_at address size replicas rows =
    option_map (Serve address size replicas) (option_and_then sessions_of (number_at (codes "sessions") rows))

-- the same at an address and of a size, by how many replicas and sessions there are
abbrev pub replicas_at : List ℕ → ℕ → List Row → Option Words
replicas_at address size rows = option_and_then (λ replicas. sessions_at address size replicas rows)
    (option_and_then replicas_of (number_at (codes "replicas") rows))

-- the same at an address, by the size and those counts
abbrev pub serve_at : List ℕ → List Row → Option Words
serve_at address rows = option_and_then (λ size. replicas_at address size rows)
    (option_and_then size_of (number_at (codes "size") rows))

-- `serve`, at an address, which is any text, by the size and those counts
abbrev pub serve_of : List Row → Option Words
serve_of rows = option_and_then (λ address. serve_at address rows) (first_of (codes "address") rows)

-- what a subcommand of this name asks for, by what `clap` reads of its arguments
abbrev pub asked_at : Text → List Row → Option Words
asked_at name rows = if bytes_eq name (codes "run") then run_of rows
    else (if bytes_eq name (codes "restore") then restore_of rows
    else (if bytes_eq name (codes "backups") then backups_of rows
    else (if bytes_eq name (codes "replica") then replica_of rows
    else (if bytes_eq name (codes "gen") then generate_of rows
    else (if bytes_eq name (codes "serve") then serve_of rows else None)))))

-- the same of the subcommand that is named, if one is
abbrev pub asked_named : Option (Text × List Row) → Option Words
asked_named = option_and_then (λ named. asked_at named.0 named.1)

-- what the words ask for, if `clap` takes them and each value is one that the program knows
abbrev pub asked_by : List Text → Option Words
asked_by words = if takes program words then asked_named (subcommand_of program words) else None

-- what is asked for keeps to the grammar of its names and the limits of its numbers
abbrev pub KeepsLimits : Words → Type 0
KeepsLimits (Run workers) = ⊤
KeepsLimits (Restore backup volume) = IsPlainName backup × IsPlainName volume
KeepsLimits (Backups volume) = IsPlainName volume
KeepsLimits (Replica size) = IsVolumeSize size
KeepsLimits (Generate number streams calls) = AreLoadNumbers number streams calls
KeepsLimits (Serve address size replicas sessions) = AreServeNumbers size replicas sessions

-- the error that a refusal of this kind is
abbrev pub IsErrorOf : ErrorKind → WordsError → Type 0
IsErrorOf kind NoMemory = kind ≡ OutOfMemory
IsErrorOf kind Usage = kind ≡ OutOfMemory → ⊥
