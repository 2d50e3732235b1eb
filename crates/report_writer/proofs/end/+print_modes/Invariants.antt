use Rattle.std.proofs.Common.{length}
use Rattle.report_writer.proofs.end.+print_modes.Given as goal

abbrev pub decreases-print_modes : goal.decreases-print_modes
decreases-print_modes l = length l.modes.now
