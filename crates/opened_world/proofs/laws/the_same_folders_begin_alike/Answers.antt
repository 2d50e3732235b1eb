use Rattle.opened_world.proofs.TwiceLemmas.{begin_alike}
use Rattle.opened_world.proofs.laws.the_same_folders_begin_alike.Goals as goal

pub returns : goal.returns
returns c = begin_alike
