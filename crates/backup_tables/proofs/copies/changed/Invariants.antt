use Rattle.backup_tables.proofs.ChangedLemmas.{AreBelow, AreSame}
use Rattle.backup_tables.proofs.copies.changed.Given as goal

abbrev pub invariant-loop-page : goal.invariant-loop-page
invariant-loop-page l = record {
  within : AreBelow l.pages.items l.page;
  same : AreSame l.disk l.old l.pages.items l.page;
}
