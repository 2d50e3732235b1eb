use Rattle.std.proofs.Common.{length, ◌≤◌}
use Rattle.outer_real.proofs.open_file.read_all_at.Given as goal

abbrev pub invariant-loop : goal.invariant-loop
invariant-loop l = l.count ≤ length l.into
