use Rattle.volume_rebuild.proofs.Bare.{out_some, out_none}
use Rattle.volume_rebuild.proofs.laws.what_went_out_can_come_in.Goals as goal

pub returns-clause-some : goal.returns-clause-some
returns-clause-some c = out_some

pub returns-clause-none : goal.returns-clause-none
returns-clause-none c = out_none
