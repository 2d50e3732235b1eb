use Rattle.std.proofs.Common.{false, sym, subst}
use Rattle.std.specs.Global.{Box}
use Rattle.volume_core.specs.declared.world.World.{World}
use Rattle.volume_core.specs.State.{state_of}
use Rattle.world_holder.specs.Laid.{laid}
use Rattle.desk_lock.specs.Seats.{last_of}
use Rattle.world_holder.specs.View.{IsFound}
use Rattle.world_holder.proofs.Taken.{found_at_seat, out_at_seat, seen_at_seat}
use Rattle.world_holder.proofs.at_seat.AtSeatHolder.take.Goals as goal

pub returns-clause-holds : goal.returns-clause-holds
returns-clause-holds g c =
    out_at_seat c.args.self.now.desk.now c.enter-guard.result.desk.now c.args.stream c.args.self.now.seat c.enter-guard.result.seat.now _
    c.enter-guard.result.state c.take_out.ensures.seat c.enter-guard.ensures.turn c.requires.rests c.enter-guard.ensures.state

pub returns-clause-seen : goal.returns-clause-seen
returns-clause-seen g c =
    seen_at_seat c.args.self.now.desk.now c.enter-guard.result.desk.now c.args.stream c.args.self.now.seat c.enter-guard.result.seat.now _
    c.enter-guard.result.state c.take_out.ensures.seat c.enter-guard.ensures.turn c.take_out.result c.take_out.ensures.world

pub returns-clause-found : goal.returns-clause-found
returns-clause-found g c =
    let seat = c.args.self.now.seat in
    subst (λ (b : Box World). IsFound false c.args.stream (laid (last_of seat)) (state_of b.value)) (sym c.take_out.ensures.world)
    (found_at_seat c.args.stream seat c.enter-guard.result.state c.requires.rests.own c.enter-guard.ensures.state)
