use Rattle.std.proofs.Common.{◌≡◌, ◌+◌, take, sum_by}
use Rattle.script_head.specs.Head.{byte_count}
use Rattle.script_text.proofs.streams.bytes_within.Given as goal

abbrev pub invariant-loop-head : goal.invariant-loop-head
invariant-loop-head l = l.left + sum_by byte_count (take l.head-index l.heads) ≡ l.most
