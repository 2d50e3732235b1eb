use Rattle.volume_folders.proofs.TwiceLemmas.{are_one}
use Rattle.volume_folders.proofs.laws.the_same_folders_are_one_volume.Goals as goal

pub returns : goal.returns
returns c = are_one
