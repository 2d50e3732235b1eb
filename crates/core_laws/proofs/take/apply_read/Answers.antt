use Rattle.std.proofs.Common.{◌≡◌, ℕ}
use Rattle.open_calls.specs.Calls.{open_at}
use Rattle.volume_core.specs.State.{State, state_of}
use Rattle.core_laws.proofs.Refused.{read_made}
use Rattle.core_laws.proofs.take.apply_read.Goals as goal

pub returns-clause-ok : goal.returns-clause-ok
returns-clause-ok c =
    let read = c.apply_read.ensures in
    let s2 : State = state_of c.apply_read.new.self in
    read_made (state_of c.args.world.now) s2 c.args.ticket c.apply_read.result read.err c.args.replica
    (λ (i : ℕ). c.apply_read.new.into ≡ (open_at s2.calls i).buffer) read.ok read.guard read.why
