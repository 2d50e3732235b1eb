use Rattle.desk_trial.proofs.Told.{may_stay}
use Rattle.desk_trial.proofs.looks.hold.Goals as goal

pub leave-requires-clause-may : goal.leave-requires-clause-may
leave-requires-clause-may g c = may_stay c.args.seat.now c.enter-guard.result.seat.now c.enter-guard.result.state
    c.enter-guard.ensures.turn.0 c.enter-guard.ensures.state
