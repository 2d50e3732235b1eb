use Rattle.std.proofs.Common.{ℕ, Some, sym, ap, ◌∙◌, subst}
use Rattle.desk_lock.specs.Account.{IsSilent}
use Rattle.desk_lock.specs.declared.views.Known.{Known}
use Rattle.desk_lock.specs.Seats.{last_of}
use Rattle.world_holder.specs.declared.kept.WorldOnDesk.{WorldOnDesk}
use Rattle.world_holder.specs.Laid.{world_account}
use Rattle.world_holder.proofs.Rests.{seat_idle, seat_none, seat_free, seat_rests}
use Rattle.world_holder.proofs.at_seat.AtSeat.split_off.Goals as goal

pub returns-clause-rests : goal.returns-clause-rests
returns-clause-rests c =
    let new = c.split-seat.ensures.new in
    seat_rests c.args.desk.now c.split-seat.result c.args.stream (last_of c.args.first.now) c.split-seat.ensures.seats.1
    (ap (λ (k : Known WorldOnDesk). k.number) new ∙ ap Some (sym c.requires.next))
    (ap (λ (k : Known WorldOnDesk). k.last) new) c.requires.there

pub returns-clause-free : goal.returns-clause-free
returns-clause-free c =
    seat_free c.args.stream c.split-seat.result (last_of c.args.first.now)
    (ap (λ (k : Known WorldOnDesk). k.last) c.split-seat.ensures.new)
    (subst (λ (k : ℕ). IsSilent world_account k (last_of c.args.first.now)) (sym c.requires.next) c.split-seat.ensures.silent)

pub returns-clause-idle : goal.returns-clause-idle
returns-clause-idle c =
    seat_idle c.args.stream (last_of c.args.first.now)
    (subst (λ (k : ℕ). IsSilent world_account k (last_of c.args.first.now)) (sym c.requires.next) c.split-seat.ensures.silent)

pub returns-clause-none : goal.returns-clause-none
returns-clause-none c =
    seat_none c.args.stream (last_of c.args.first.now)
    (subst (λ (k : ℕ). IsSilent world_account k (last_of c.args.first.now)) (sym c.requires.next) c.split-seat.ensures.silent)
