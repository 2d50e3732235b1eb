use Rattle.std.proofs.Common.{◌≡◌, ℕ, ◌<◌}
use Rattle.std.specs.BTreeSet.{contains}
use Rattle.std.specs.Ordering.{nat_cmp}
use Rattle.backup_config.proofs.ListLemmas.{is_before, IsFresh}
use Rattle.backup_config.proofs.list.are_once.Given as goal

abbrev pub invariant-loop-block : goal.invariant-loop-block
invariant-loop-block l = record {
  seen : (page : ℕ) → contains nat_cmp l.seen page ≡ is_before l.listed l.block-index page;
  fresh : (j : ℕ) → j < l.block-index → IsFresh l.listed j;
}
