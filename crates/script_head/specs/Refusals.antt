-- How the readers of one member and of all members answer.
use Rattle.std.specs.Prelude.{◌≡◌, Result, Ok, Err}
use Rattle.serde_json.specs.Data.{Data}
use Rattle.serde_json.specs.Errors.{IsMemory}
use Rattle.serde_json.specs.declared.error.Error.{Error}
use Rattle.script_head.specs.declared.error.HeadError.{HeadError}
use Rattle.script_head.specs.declared.error.HeadError.TheVariants.{Json, BadMember, NoMemory}
use Rattle.script_head.specs.declared.head.ScriptHead.{ScriptHead}
use Rattle.script_head.specs.declared.member.Member.{Member}
use Rattle.script_head.specs.Head.{IsScriptHead, IsFirstBad}

-- the refusal that an error of reading JSON becomes
abbrev pub IsRefusalOf : Error → HeadError → Type 0
IsRefusalOf fault Json = ¬ IsMemory fault
IsRefusalOf fault (BadMember m) = ⊥
IsRefusalOf fault NoMemory = IsMemory fault

-- the member's value, or that it has none; memory alone is free
abbrev pub Reads : {T : Type 0} → Member → (T → Type 0) → Result T HeadError → Type 0
Reads m Has (Ok value) = Has value
Reads {T} m Has (Err (BadMember n)) = (n ≡ m) × ((value : T) → Has value → ⊥)
Reads m Has (Err Json) = ⊥
Reads m Has (Err NoMemory) = Unit {0}

-- the answer is true of an object
abbrev pub AnswersObject : Data → Result ScriptHead HeadError → Type 0
AnswersObject d (Ok head) = IsScriptHead d head
AnswersObject d (Err Json) = ⊥
AnswersObject d (Err (BadMember m)) = IsFirstBad d m
AnswersObject d (Err NoMemory) = Unit {0}
