use Rattle.std.proofs.Common.{◌≡◌, ◌*◌, take}
use Rattle.report_writer.proofs.digests.digest_of_head.Given as goal

-- the bytes of the blocks so far
abbrev pub invariant-loop-block : goal.invariant-loop-block
invariant-loop-block l = l.digest ≡ take (l.block * 4096) l.replica.disk
