use Rattle.world_holder.proofs.Taken.{seat_may_leave}
use Rattle.world_holder.proofs.at_seat.AtSeatHolder.put.Goals as goal

pub leave-requires-clause-may : goal.leave-requires-clause-may
leave-requires-clause-may c =
    seat_may_leave c.args.stream c.args.self.now.seat
    (record { world = c.args.world }) c.requires.holds.own c.requires.holds.sound c.requires.owes
