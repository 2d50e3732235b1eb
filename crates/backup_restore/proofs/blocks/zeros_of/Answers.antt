use Rattle.std.proofs.Common.{rules}
use Rattle.backup_restore.proofs.RestoreLemmas.{zeros_are}
use Rattle.backup_restore.proofs.blocks.zeros_of.Goals as goal

pub returns : goal.returns
returns c = search (rules, zeros_are)
