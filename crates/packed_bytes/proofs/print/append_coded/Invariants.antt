use Rattle.std.proofs.Common.{◌≡◌, ◌++◌, ◌-◌, ◌≤◌}
use Rattle.image_runs.specs.Printing.{with_commas, IsPrefixOf}
use Rattle.packed_bytes.specs.Packed.{coded_runs, part}
use Rattle.packed_bytes.proofs.print.append_coded.Given as goal

-- what is printed, and then the text of the runs whose codes are left, is the whole text
abbrev pub invariant-loop-next : goal.invariant-loop-next
invariant-loop-next l = record {
  order : l.at ≤ l.next;
  within : l.next ≤ l.until;
  kept : IsPrefixOf l.fn.into.items l.into.items;
  text : l.into.items ++ with_commas (coded_runs (part l.store.items l.next l.until))
      ≡ l.fn.into.items ++ with_commas (coded_runs (part l.store.items l.at l.until));
}

abbrev pub decreases-loop-next : goal.decreases-loop-next
decreases-loop-next l = l.until - l.next
