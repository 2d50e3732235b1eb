use Rattle.std.proofs.Common.{length}
use Rattle.report_writer.proofs.end.+print_each.Given as goal

abbrev pub decreases-print_each : goal.decreases-print_each
decreases-print_each l = length l.modes.now
