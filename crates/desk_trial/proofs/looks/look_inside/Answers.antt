use Rattle.desk_trial.proofs.Told.{may_stay}
use Rattle.desk_trial.proofs.looks.look_inside.Goals as goal

pub leave-requires-clause-may : goal.leave-requires-clause-may
leave-requires-clause-may g c = may_stay c.args.holder.now c.enter-guard.result.seat.now c.enter-guard.result.state
    c.enter-guard.ensures.turn.0 c.enter-guard.ensures.state
