use Rattle.volume_cli.proofs.Restorable.{restorable, its_disk, one_disk}
use Rattle.volume_cli.proofs.laws.a_backup_that_is_there_is_restored.Goals as goal

pub returns-clause-restorable : goal.returns-clause-restorable
returns-clause-restorable c = restorable

pub returns-clause-disk : goal.returns-clause-disk
returns-clause-disk c = its_disk

pub returns-clause-no_other : goal.returns-clause-no_other
returns-clause-no_other c = λ objects volume backup disk other is. one_disk objects volume backup disk is other
