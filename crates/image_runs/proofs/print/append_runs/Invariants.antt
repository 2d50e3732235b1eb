use Rattle.std.proofs.Common.{◌≡◌, ◌++◌, length}
use Rattle.image_runs.specs.Runs.{runs}
use Rattle.image_runs.specs.Printing.{with_commas, IsPrefixOf}
use Rattle.image_runs.proofs.print.append_runs.Given as goal

-- what is printed, and then the text of the bytes that are left, is the whole text
abbrev pub invariant-loop-rest : goal.invariant-loop-rest
invariant-loop-rest l = record {
  kept : IsPrefixOf l.fn.into.items l.into.items;
  text : l.into.items ++ with_commas (runs l.rest) ≡ l.fn.into.items ++ with_commas (runs l.bytes);
}

abbrev pub decreases-loop-rest : goal.decreases-loop-rest
decreases-loop-rest l = length l.rest
