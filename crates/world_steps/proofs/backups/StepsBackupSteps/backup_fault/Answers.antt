use Rattle.world_holder.proofs.Taken.{found_as, owes_as}
use Rattle.world_steps.proofs.BackupTurns.{fall_kept}
use Rattle.world_steps.proofs.FrameTurns.{fault_owes, fault_modes}
use Rattle.world_steps.proofs.MaintTurns.{falls_flag, falls_does}
use Rattle.world_steps.proofs.GaveUp.{home_kept}
use Rattle.world_steps.proofs.backups.StepsBackupSteps.backup_fault.Goals as goal

pub put-requires-clause-owes : goal.put-requires-clause-owes
put-requires-clause-owes g c =
    owes_as c.deref_mut.ensures.value c.take-world.ensures.seen
    (fault_owes g.H.Holder.alone c.args.self.now.stream c.args.replica c.args.count _ _ _
    (found_as c.deref_mut.ensures.value c.take-world.ensures.found) c.fault-answer.result c.fault-answer.ensures.may
    c.fault-answer.ensures.ok c.fault-answer.ensures.err)

pub returns-clause-stands : goal.returns-clause-stands
returns-clause-stands g c =
    record {
      ready = c.put.ensures.rests;
      home = home_kept c.take-world.ensures.home c.put.ensures.home
          (falls_flag g.H.Holder.alone c.args.self.now.stream c.args.replica c.args.count _ _ _
          (found_as c.deref_mut.ensures.value c.take-world.ensures.found) c.fault-answer.result
          c.fault-answer.ensures.may c.fault-answer.ensures.ok c.fault-answer.ensures.err _ c.put.ensures.seen);
    }

pub returns-clause-kept : goal.returns-clause-kept
returns-clause-kept g c =
    let step = c.fault-answer in
    let found = found_as c.deref_mut.ensures.value c.take-world.ensures.found in
    fall_kept _ _ c.args.t c.args.replica c.args.count _ _ _ found c.requires.turn step.result step.ensures.may
    step.ensures.sees step.ensures.err _ c.put.ensures.seen

pub returns-clause-failed : goal.returns-clause-failed
returns-clause-failed g c =
    fault_modes g.H.Holder.alone c.args.self.now.stream c.args.replica c.args.count _ _ _
    (found_as c.deref_mut.ensures.value c.take-world.ensures.found) c.fault-answer.result c.fault-answer.ensures.may
    c.fault-answer.ensures.ok c.fault-answer.ensures.err _ c.put.ensures.seen

pub returns-clause-does : goal.returns-clause-does
returns-clause-does g c =
    let step = c.fault-answer in
    let found = found_as c.deref_mut.ensures.value c.take-world.ensures.found in
    falls_does _ _ c.args.replica c.args.count _ _ _ found step.result step.ensures.may step.ensures.ok
    step.ensures.err _ c.put.ensures.seen step.ensures.why
