use Rattle.volume_core.specs.State.{state_of}
use Rattle.core_laws.proofs.Refused.{write_made}
use Rattle.core_laws.proofs.take.apply_write.Goals as goal

pub returns-clause-ok : goal.returns-clause-ok
returns-clause-ok c =
    let wrote = c.apply_write.ensures in
    write_made (state_of c.args.world.now) (state_of c.apply_write.new.self) c.args.ticket c.apply_write.result wrote.err
    c.args.replica wrote.ok wrote.guard wrote.why
