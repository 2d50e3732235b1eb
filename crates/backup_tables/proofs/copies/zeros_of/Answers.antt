use Rattle.std.proofs.Common.{rules}
use Rattle.backup_tables.proofs.ChangedLemmas.{zeros_are}
use Rattle.backup_tables.proofs.copies.zeros_of.Goals as goal

pub returns : goal.returns
returns c = search (rules, zeros_are)
