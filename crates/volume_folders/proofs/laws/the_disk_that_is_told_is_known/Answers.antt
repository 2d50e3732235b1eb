use Rattle.volume_folders.proofs.TwiceLemmas.{told_is_known}
use Rattle.volume_folders.proofs.laws.the_disk_that_is_told_is_known.Goals as goal

pub returns : goal.returns
returns c = told_is_known
