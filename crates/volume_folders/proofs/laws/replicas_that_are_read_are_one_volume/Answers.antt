use Rattle.volume_folders.proofs.TwiceLemmas.{read_as_one}
use Rattle.volume_folders.proofs.laws.replicas_that_are_read_are_one_volume.Goals as goal

pub returns : goal.returns
returns c = read_as_one
