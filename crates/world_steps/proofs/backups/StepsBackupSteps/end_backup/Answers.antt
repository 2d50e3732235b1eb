use Rattle.world_holder.proofs.Taken.{found_as, owes_as}
use Rattle.world_steps.proofs.BackupTurns.{end_owes, end_flag, end_kept, end_does}
use Rattle.world_steps.proofs.GaveUp.{home_kept}
use Rattle.world_steps.proofs.backups.StepsBackupSteps.end_backup.Goals as goal

pub put-requires-clause-owes : goal.put-requires-clause-owes
put-requires-clause-owes g c =
    let step = c.end_maint-answer in
    owes_as c.deref_mut.ensures.value c.take-world.ensures.seen
    (end_owes g.H.Holder.alone c.args.self.now.stream c.args.t c.args.reply _ _ _
    (found_as c.deref_mut.ensures.value c.take-world.ensures.found) step.result c.requires.turn step.ensures.may
    step.ensures.ok step.ensures.err)

pub returns-clause-stands : goal.returns-clause-stands
returns-clause-stands g c =
    let step = c.end_maint-answer in
    record {
      ready = c.put.ensures.rests;
      home = home_kept c.take-world.ensures.home c.put.ensures.home
          (end_flag g.H.Holder.alone c.args.self.now.stream c.args.t c.args.reply _ _ _
          (found_as c.deref_mut.ensures.value c.take-world.ensures.found) step.result c.requires.turn step.ensures.may
          step.ensures.ok step.ensures.err _ c.put.ensures.seen);
    }

pub returns-clause-kept : goal.returns-clause-kept
returns-clause-kept g c =
    let step = c.end_maint-answer in
    end_kept g.H.Holder.alone c.args.self.now.stream c.args.t c.args.reply _ _ _
    (found_as c.deref_mut.ensures.value c.take-world.ensures.found) step.result c.requires.turn step.ensures.may
    step.ensures.ok step.ensures.err _ c.put.ensures.seen

pub returns-clause-does : goal.returns-clause-does
returns-clause-does g c =
    let step = c.end_maint-answer in
    end_does g.H.Holder.alone c.args.self.now.stream c.args.t c.args.reply _ _ _
    (found_as c.deref_mut.ensures.value c.take-world.ensures.found) step.result c.requires.turn step.ensures.may
    step.ensures.ok step.ensures.err _ c.put.ensures.seen step.ensures.why
