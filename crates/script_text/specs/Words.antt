-- The words for what is wrong with an input.
use Rattle.std.specs.Prelude.{ℕ, List, ◌++◌, codes}
use Rattle.script_head.specs.declared.member.Member.{Member}
use Rattle.script_head.specs.declared.member.Member.TheVariants.{Volume, Size, Replicas, Open, Save, Now, Streams, Lines}
use Rattle.script_text.specs.declared.what.What.{What}
use Rattle.script_text.specs.declared.what.What.TheVariants as what

abbrev pub member_name : Member → List ℕ
member_name Volume = codes "volume"
member_name Size = codes "size"
member_name Replicas = codes "replicas"
member_name Open = codes "open"
member_name Save = codes "save"
member_name Now = codes "now"
member_name Streams = codes "streams"
member_name Lines = codes "lines"

abbrev pub what_text : What → List ℕ
what_text what.Input = codes "input"
what_text what.Line = codes "line"
what_text what.Json = codes "json"
what_text (what.Member m) = codes "member " ++ member_name m
what_text what.Rest = codes "rest"
what_text what.Calls = codes "calls"
what_text what.Frame = codes "frame"
