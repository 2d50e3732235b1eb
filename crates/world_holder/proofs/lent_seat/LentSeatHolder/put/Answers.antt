use Rattle.std.proofs.Common.{◌≡◌, rules}
use Rattle.desk_lock.specs.Seats.{last_of}
use Rattle.volume_core.specs.State.{State, state_of}
use Rattle.world_holder.specs.Laid.{laid}
use Rattle.world_holder.specs.Rests.{IsSeated}
use Rattle.world_holder.proofs.Since.{since_gone}
use Rattle.world_holder.proofs.Taken.{seat_may_leave}
use Rattle.world_holder.proofs.lent_seat.LentSeatHolder.put.Goals as goal

pub leave-requires-clause-may : goal.leave-requires-clause-may
leave-requires-clause-may c =
    seat_may_leave c.args.stream c.args.self.now.seat
    (record { world = c.args.world }) c.requires.holds.out.own c.requires.holds.out.sound c.requires.owes

pub returns-clause-rests : goal.returns-clause-rests
returns-clause-rests c =
    let seen : laid (last_of c.leave.new.self.1.0) ≡ state_of c.args.world.value = search rules in
    let seated : IsSeated c.args.self.now.desk.now c.leave.new.self.1.0 c.args.stream = search rules in
    let since = since_gone c.args.stream (laid (last_of c.args.self.now.first.value)) (laid (last_of c.args.self.now.seat))
    (state_of c.args.world.value) (laid (last_of c.leave.new.self.1.0)) seen c.requires.owes.may c.requires.holds.since in
    search rules
