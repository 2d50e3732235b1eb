use Rattle.std.proofs.Common.{length}
use Rattle.volume_cli.proofs.finish.+print_openings.Given as goal

abbrev pub decreases-print_openings : goal.decreases-print_openings
decreases-print_openings l = length l.reasons.now
