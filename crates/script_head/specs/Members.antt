-- The members of a script's first line, each with the values that it may have. Other members say nothing.
-- The format is this project's own.
use Rattle.std.specs.Prelude.{◌≡◌, ◌⊎◌, ℕ, ◌<◌, ◌≤◌, List, [], ◌∷◌, length, count_by, Bool, false, codes, Option, Some, None}
use Rattle.std.specs.List.{list_any}
use Rattle.serde_json.specs.Data.{Data}
use Rattle.serde_json.specs.Find.{get, as_bool, as_str}
use Rattle.vol_units.specs.Name.{IsPlainName}
use Rattle.vol_units.specs.Size.{IsVolumeSize}
use Rattle.volume_model.specs.Commands.{IsCommand, NamesReplica}
use Rattle.volume_model.specs.Modes.{asks_store}
use Rattle.volume_model.specs.declared.call.Call.TheVariants as call
use Rattle.volume_model.specs.declared.command.Command.{Command}
use Rattle.script_head.specs.declared.head.StreamHead.{StreamHead}
use Rattle.script_head.specs.declared.head.StreamHead.TheVariants as stream
use Rattle.script_head.specs.declared.line_plan.LinePlan.{LinePlan}
use Rattle.script_head.specs.declared.member.Member.{Member}
use Rattle.script_head.specs.declared.member.Member.TheVariants.{Volume, Size, Replicas, Open, Save, Now, Streams, Lines}
use Rattle.vol_units.specs.Time.{IsTimeText}
use Rattle.script_head.specs.Limits.{most_input, most_replicas, most_streams, most_calls, most_failures, largest_carry}
use Rattle.script_head.specs.LinePlans.{RisesAbove, NoPairTwice}
use Rattle.script_head.specs.Values.{whole, member, member_or, HasItems}

-- `volume`: the name of the volume
abbrev pub HasVolume : Data → List ℕ → Type 0
HasVolume line name = (member as_str (codes "volume") line ≡ Some name) × IsPlainName name

-- `size`: the size of the volume in bytes
abbrev pub HasSize : Data → ℕ → Type 0
HasSize line size = (member whole (codes "size") line ≡ Some size) × IsVolumeSize size

-- `replicas`: how many there are
abbrev pub HasReplicas : Data → ℕ → Type 0
HasReplicas line count = (member whole (codes "replicas") line ≡ Some count)
    × (1 ≤ count) × (count ≤ most_replicas)

-- `open` and `save`: true or false, and false where it is missing
abbrev pub HasFlag : Data → List ℕ → Bool → Type 0
HasFlag line name flag = member_or false as_bool name line ≡ Some flag

-- `now`: the time of the run, empty where it is missing
abbrev pub HasNow : Data → List ℕ → Type 0
HasNow line text = (member_or [] as_str (codes "now") line ≡ Some text) × IsTimeText text

-- an item of `control`: the text of a command
abbrev pub IsCommandItem : ℕ → Data → Command → Type 0
IsCommandItem replicas d c = (text : List ℕ) × (as_str d ≡ Some text)
    × IsCommand text c × NamesReplica replicas c

-- An item of `streams`: a number of bytes under `frames`, or a list of commands under `control`, and one of them alone.
abbrev pub IsStreamItem : ℕ → Data → StreamHead → Type 0
IsStreamItem replicas d (stream.Frames count) = (member whole (codes "frames") d ≡ Some count)
    × (count ≤ most_input) × (get (codes "control") d ≡ None)
IsStreamItem replicas d (stream.Control commands) =
    HasItems (IsCommandItem replicas) (get (codes "control") d) commands
    × (length commands ≤ most_calls) × (get (codes "frames") d ≡ None)

-- whether a backup is among the commands
abbrev pub has_backup : List Command → Bool
has_backup commands = list_any (λ c. asks_store (call.Command c)) commands

-- whether it is a stream with backups
abbrev pub backs_up : StreamHead → Bool
backs_up (stream.Frames count) = false
backs_up (stream.Control commands) = has_backup commands

-- `streams`: what each of them is, where there are so many replicas; one of them at most has backups
abbrev pub HasStreams : Data → ℕ → List StreamHead → Type 0
HasStreams line replicas streams = HasItems (IsStreamItem replicas) (get (codes "streams") line) streams
    × (1 ≤ length streams) × (length streams ≤ most_streams) × (count_by backs_up streams ≤ 1)

-- `worker` and `replica`: whole numbers below how many there are
abbrev pub HasNumberBelow : ℕ → List ℕ → Data → ℕ → Type 0
HasNumberBelow count name d n = (member whole name d ≡ Some n) × (n < count)

-- an item of `fail`: the number of a carry
abbrev pub IsCarryItem : Data → ℕ → Type 0
IsCarryItem d n = (whole d ≡ Some n) × (n ≤ largest_carry)

-- `fail`: numbers of carries, from 1, that rise
abbrev pub HasFail : Option Data → List ℕ → Type 0
HasFail value fail = HasItems IsCarryItem value fail × (length fail ≤ most_failures) × RisesAbove 0 fail

-- an item of `lines`: the line from a worker to a replica, and which of its carries fail
pub record IsLinePlan (streams replicas : ℕ) (d : Data) (plan : LinePlan) : Type 0 where
  pub worker : HasNumberBelow streams (codes "worker") d plan.worker
  pub replica : HasNumberBelow replicas (codes "replica") d plan.replica
  pub fail : HasFail (get (codes "fail") d) plan.fail

-- what `lines` is: no plans where it is missing
abbrev pub ArePlans : ℕ → ℕ → Option Data → List LinePlan → Type 0
ArePlans streams replicas None plans = plans ≡ []
ArePlans streams replicas (Some value) plans =
    HasItems (IsLinePlan streams replicas) (Some value) plans × NoPairTwice plans

-- `lines`: the plans of lines, where there are so many streams and replicas
abbrev pub HasLines : Data → ℕ → ℕ → List LinePlan → Type 0
HasLines line streams replicas plans = ArePlans streams replicas (get (codes "lines") line) plans

-- the member has a value that it may have, or may be missing and is; what it may have, earlier members say
abbrev pub IsGood : Data → Member → Type 0
IsGood line Volume = (name : List ℕ) × HasVolume line name
IsGood line Size = (size : ℕ) × HasSize line size
IsGood line Replicas = (count : ℕ) × HasReplicas line count
IsGood line Open = (flag : Bool) × HasFlag line (codes "open") flag
IsGood line Save = (flag : Bool) × HasFlag line (codes "save") flag
IsGood line Now = (text : List ℕ) × HasNow line text
IsGood line Streams = (replicas : ℕ) × (streams : List StreamHead)
    × HasReplicas line replicas × HasStreams line replicas streams
IsGood line Lines = (replicas : ℕ) × (streams : List StreamHead) × (plans : List LinePlan)
    × HasReplicas line replicas × HasStreams line replicas streams
    × HasLines line (length streams) replicas plans

-- the order in which they are checked
abbrev pub in_order : List Member
in_order = Volume ∷ Size ∷ Replicas ∷ Open ∷ Save ∷ Now ∷ Streams ∷ Lines ∷ []

-- of these members it is the first that is not good
abbrev pub IsFirstBadOf : List Member → Data → Member → Type 0
IsFirstBadOf [] line m = ⊥
IsFirstBadOf (n ∷ ns) line m = ((n ≡ m) × (IsGood line n → ⊥)) ⊎ (IsGood line n × IsFirstBadOf ns line m)
