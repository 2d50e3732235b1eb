use Rattle.std.proofs.Common.{false, sym, subst}
use Rattle.std.specs.Global.{Box}
use Rattle.volume_core.specs.declared.world.World.{World}
use Rattle.volume_core.specs.State.{state_of}
use Rattle.desk_lock.specs.Seats.{last_of}
use Rattle.world_holder.specs.Laid.{laid}
use Rattle.world_holder.specs.View.{IsFound}
use Rattle.world_holder.proofs.Since.{since_later}
use Rattle.world_holder.proofs.Taken.{found_at_seat, out_at_seat, seen_at_seat}
use Rattle.world_holder.proofs.lent_seat.LentSeatHolder.take.Goals as goal

pub returns-clause-found : goal.returns-clause-found
returns-clause-found g c =
    let seat = c.args.self.now.seat in
    subst (λ (b : Box World). IsFound false c.args.stream (laid (last_of seat)) (state_of b.value)) (sym c.take_out.ensures.world)
    (found_at_seat c.args.stream seat c.enter-guard.result.state c.requires.rests.seated.own c.enter-guard.ensures.state)
