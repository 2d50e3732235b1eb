use Rattle.std.proofs.Common.{◌≡◌, ◌*◌, take}
use Rattle.report_writer.proofs.digests.same_head.Given as goal

-- the heads read the same in the blocks so far
abbrev pub invariant-loop-block : goal.invariant-loop-block
invariant-loop-block l = take (l.block * 4096) l.one.disk ≡ take (l.block * 4096) l.other.disk
