-- What the first line of a script says, and why a line says nothing.
-- JSON is read by serde_json's definition, with its depth of 127.
use Rattle.std.specs.Prelude.{◌≡◌, List, ℕ, length, true, codes, IsUtf8, Some, Result, MatchResult, is_some}
use Rattle.serde_json.specs.Data.{Data}
use Rattle.serde_json.specs.Find.{as_object}
use Rattle.serde_json.specs.Read.{read}
use Rattle.script_head.specs.declared.error.HeadError.{HeadError}
use Rattle.script_head.specs.declared.error.HeadError.TheVariants.{Json, BadMember, NoMemory}
use Rattle.script_head.specs.declared.head.ScriptHead.{ScriptHead}
use Rattle.script_head.specs.declared.head.StreamHead.{StreamHead}
use Rattle.script_head.specs.declared.head.StreamHead.TheVariants as stream
use Rattle.script_head.specs.declared.member.Member.{Member}
use Rattle.script_head.specs.Members.{HasVolume, HasSize, HasReplicas, HasFlag, HasNow, HasStreams, HasLines, in_order, IsFirstBadOf}

-- how many bytes of the input a stream has
abbrev pub byte_count : StreamHead → ℕ
byte_count (stream.Frames count) = count
byte_count (stream.Control commands) = 0

-- how many commands it has
abbrev pub command_count : StreamHead → ℕ
command_count (stream.Frames count) = 0
command_count (stream.Control commands) = length commands

-- the line is UTF-8, and has this object for its value
pub record IsObject (line : List ℕ) (d : Data) : Type 0 where
  pub text : IsUtf8 line
  pub value : read line ≡ Some d
  pub object : is_some (as_object d) ≡ true

-- the object's members say this
pub record IsScriptHead (d : Data) (head : ScriptHead) : Type 0 where
  pub volume : HasVolume d head.volume
  pub size : HasSize d head.size
  pub replicas : HasReplicas d head.replicas
  pub opens : HasFlag d (codes "open") head.opens
  pub saves : HasFlag d (codes "save") head.saves
  pub now : HasNow d head.now
  pub streams : HasStreams d head.replicas head.streams
  pub lines : HasLines d (length head.streams) head.replicas head.lines

-- it is the object's first member, in their order, that is missing or has another value
abbrev pub IsFirstBad : Data → Member → Type 0
IsFirstBad = IsFirstBadOf in_order

-- the line says this
abbrev pub Says : List ℕ → ScriptHead → Type 0
Says line head = (d : Data) × IsObject line d × IsScriptHead d head

-- the line is an object, and this is the first member that is bad
abbrev pub HasFirstBad : List ℕ → Member → Type 0
HasFirstBad line m = (d : Data) × IsObject line d × IsFirstBad d m

-- the line is no object
abbrev pub IsNoObject : List ℕ → Type 0
IsNoObject line = (d : Data) → IsObject line d → ⊥

-- why a line is refused; out of memory is free
abbrev pub RefusesLine : List ℕ → HeadError → Type 0
RefusesLine line Json = IsNoObject line
RefusesLine line (BadMember m) = HasFirstBad line m
RefusesLine line NoMemory = Unit {0}

-- the answer is true of the line
abbrev pub AnswersLine : List ℕ → Result ScriptHead HeadError → Type 0
AnswersLine line result = MatchResult result (Says line) (RefusesLine line)
