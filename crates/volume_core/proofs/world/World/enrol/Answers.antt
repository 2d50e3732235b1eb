use Rattle.volume_core.specs.State.{state_of}
use Rattle.volume_core.proofs.Moves.{may_same}
use Rattle.volume_core.proofs.world.World.enrol.Goals as goal

pub returns-in_err-bytes-in-Write-clause-may : goal.returns-in_err-bytes-in-Write-clause-may
returns-in_err-bytes-in-Write-clause-may c = may_same c.args.stream (state_of c.args.self.now) c.requires.sound
