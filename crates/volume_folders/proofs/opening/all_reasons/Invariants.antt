use Rattle.std.proofs.Common.{◌≡◌, ◌++◌, map, Some}
use Rattle.volume_folders.proofs.opening.all_reasons.Given as goal

abbrev pub invariant-loop-reason : goal.invariant-loop-reason
invariant-loop-reason l = record {
  whole : l.yielded ++ l.reason-iterator.rest.items ≡ l.fn.reasons.items;
  all : map Some l.all.items ≡ l.yielded;
}
