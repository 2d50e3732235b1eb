use Rattle.desk_trial.proofs.Told.{behind_all}
use Rattle.desk_trial.proofs.trial.Goals as goal

pub returns : goal.returns
returns g c = behind_all c.loop-2.lists.items c.args.streams c.loop-2.invariant.empty c.serve_each.result
    c.serve_each.ensures.each c.serve_each.ensures.others
