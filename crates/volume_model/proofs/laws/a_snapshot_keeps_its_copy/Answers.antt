use Rattle.volume_model.proofs.KeptCopies.{keeps_copy}
use Rattle.volume_model.proofs.laws.a_snapshot_keeps_its_copy.Goals as goal

pub returns : goal.returns
returns c = keeps_copy
