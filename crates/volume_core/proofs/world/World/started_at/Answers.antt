use Rattle.std.proofs.Common.{◌≡◌, ◌≢◌, true, rules}
use Rattle.range_turns.specs.declared.ticket.Kind.TheVariants as kind
use Rattle.range_turns.specs.Order.{ticket_at, StandsAt}
use Rattle.volume_core.specs.State.{State, state_of}
use Rattle.volume_core.proofs.Keep.{calm_at}
use Rattle.volume_core.proofs.world.World.started_at.Goals as goal

pub returns-then-ne-clause-calm : goal.returns-then-ne-clause-calm
returns-then-ne-clause-calm c =
    let s : State = state_of c.args.self.now in
    let stands : StandsAt s.tickets c.args.t c.in_ok-i.i = search rules in
    let on : (ticket_at s.tickets c.in_ok-i.i).started ≡ true = search rules in
    let is : (ticket_at s.tickets c.in_ok-i.i).kind ≢ kind.Whole = search rules in
    calm_at s c.in_ok-i.i c.requires.sound stands.within on is
