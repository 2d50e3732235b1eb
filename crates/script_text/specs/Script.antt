-- The script that an input is, and why an input is none. The format is this project's own.
use Rattle.std.specs.Prelude.{◌≡◌, ◌≢◌, ◌⊎◌, ℕ, ◌+◌, ◌-◌, ◌<◌, ◌≤◌, min, List, length, sum_by, Result, MatchResult}
use Rattle.script_head.specs.declared.head.ScriptHead.{ScriptHead}
use Rattle.script_head.specs.Limits.{most_calls, most_input}
use Rattle.script_head.specs.Head.{byte_count, command_count, Says, HasFirstBad, IsNoObject}
use Rattle.script_text.specs.declared.error.ScriptError.{ScriptError}
use Rattle.script_text.specs.declared.error.ScriptError.TheVariants.{Bad, NoMemory}
use Rattle.script_text.specs.declared.script.Script.{Script}
use Rattle.script_text.specs.declared.what.What.{What}
use Rattle.script_text.specs.declared.what.What.TheVariants as what
use Rattle.script_text.specs.Line.{IsCut, HasNoLine}
use Rattle.script_text.specs.Streams.{stream_length, AreStreams, AreNoStreams}

-- the input has this first line, which says this, and this body
pub record IsHeaded (input line body : List ℕ) (head : ScriptHead) : Type 0 where
  pub cut : IsCut input line body
  pub says : Says line head

-- the input is this script: what its first line says, and the streams that are all of its body
pub record IsScript (input : List ℕ) (script : Script) : Type 0 where
  pub line : List ℕ
  pub body : List ℕ
  pub head : ScriptHead
  pub headed : IsHeaded input line body head
  pub lines : script.lines ≡ head.lines
  pub now : script.now ≡ head.now
  pub volume : script.volume ≡ head.volume
  pub size : script.size ≡ head.size
  pub replicas : script.replicas ≡ head.replicas
  pub opens : script.opens ≡ head.opens
  pub saves : script.saves ≡ head.saves
  pub whole : sum_by byte_count head.streams ≡ length body
  pub streams : AreStreams head.streams body script.streams
  pub calls : sum_by stream_length script.streams ≤ most_calls

-- the first line is good, but the streams do not end where the input ends: the lesser of both ends
abbrev pub HasOtherEnd : List ℕ → ℕ → Type 0
HasOtherEnd input place = (line : List ℕ) × (body : List ℕ) × (head : ScriptHead)
    × IsHeaded input line body head × (sum_by byte_count head.streams ≢ length body)
    × (place ≡ min (length input) (length line + 1 + sum_by byte_count head.streams))

-- the streams have all bytes behind the first line, and are bad at a place of the input
abbrev pub HasBadStream : List ℕ → ℕ → What → Type 0
HasBadStream input place why = (line : List ℕ) × (body : List ℕ) × (head : ScriptHead)
    × IsHeaded input line body head × (sum_by byte_count head.streams ≡ length body)
    × (sum_by command_count head.streams ≤ most_calls)
    × AreNoStreams (most_calls - sum_by command_count head.streams) (length line + 1) head.streams body place why

-- the streams have all bytes behind the first line, and there are more commands than there may be calls
abbrev pub HasTooManyCommands : List ℕ → Type 0
HasTooManyCommands input = (line : List ℕ) × (body : List ℕ) × (head : ScriptHead)
    × IsHeaded input line body head × (sum_by byte_count head.streams ≡ length body)
    × (most_calls < sum_by command_count head.streams)

-- the input is no script: what is wrong with it first, and where
abbrev pub IsNoScript : List ℕ → ℕ → What → Type 0
IsNoScript input place what.Input = (most_input < length input) × (place ≡ most_input)
IsNoScript input place what.Line = (length input ≤ most_input) × HasNoLine input × (place ≡ 0)
IsNoScript input place what.Json =
    (line : List ℕ) × (body : List ℕ) × IsCut input line body × IsNoObject line × (place ≡ 0)
IsNoScript input place (what.Member m) =
    (line : List ℕ) × (body : List ℕ) × IsCut input line body × HasFirstBad line m × (place ≡ 0)
IsNoScript input place what.Rest = HasOtherEnd input place
IsNoScript input place what.Calls =
    (HasTooManyCommands input × (place ≡ 0)) ⊎ HasBadStream input place what.Calls
IsNoScript input place what.Frame = HasBadStream input place what.Frame

-- why an input is refused; out of memory is free
abbrev pub RefusesInput : List ℕ → ScriptError → Type 0
RefusesInput input (Bad place why) = IsNoScript input place why
RefusesInput input NoMemory = Unit {0}

-- the answer is true of the input
abbrev pub AnswersInput : List ℕ → Result Script ScriptError → Type 0
AnswersInput input result = MatchResult result (IsScript input) (RefusesInput input)
