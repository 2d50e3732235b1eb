use Rattle.std.proofs.Common.{length}
use Rattle.volume_cli.proofs.status.+write_refusals.Given as goal

abbrev pub decreases-write_refusals : goal.decreases-write_refusals
decreases-write_refusals g l = length l.reasons.now
