use Rattle.std.proofs.Common.{◌≡◌, ◌+◌, take, sum_by}
use Rattle.script_head.specs.Head.{command_count}
use Rattle.script_head.specs.Limits.{most_calls}
use Rattle.script_text.proofs.streams.room_beside.Given as goal

abbrev pub invariant-loop-head : goal.invariant-loop-head
invariant-loop-head l = l.left + sum_by command_count (take l.head-index l.heads) ≡ most_calls
