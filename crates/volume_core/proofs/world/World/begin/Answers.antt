use Rattle.volume_core.specs.State.{state_of}
use Rattle.volume_core.proofs.Rows.{same_err}
use Rattle.volume_core.proofs.world.World.begin.Goals as goal

pub returns-in-Read-clause-err : goal.returns-in-Read-clause-err
returns-in-Read-clause-err c = same_err _ (state_of c.args.self.now) (state_of c.begin_read.new.self) c.begin_read.ensures.err
