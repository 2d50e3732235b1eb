use Rattle.std.proofs.Common.{◌∙◌, ap}
use Rattle.volume_core.specs.State.{State}
use Rattle.world_holder.proofs.Taken.{found_as, owes_as}
use Rattle.world_steps.proofs.BackupTurns.{look_kept, page_gives, page_owes, page_why}
use Rattle.world_steps.proofs.FrameTurns.{look_same}
use Rattle.world_steps.proofs.GaveUp.{flag_kept, home_kept}
use Rattle.world_steps.proofs.backups.StepsBackupSteps.snap_page.Goals as goal

pub put-requires-clause-owes : goal.put-requires-clause-owes
put-requires-clause-owes g c =
    owes_as c.deref_mut.ensures.value c.take-world.ensures.seen
    (page_owes g.H.Holder.alone c.args.self.now.stream _ _ _ c.snap_page-answer.ensures.same
    (found_as c.deref_mut.ensures.value c.take-world.ensures.found))

pub returns-clause-stands : goal.returns-clause-stands
returns-clause-stands g c =
    let found = found_as c.deref_mut.ensures.value c.take-world.ensures.found in
    let same = c.snap_page-answer.ensures.same in
    record {
      ready = c.put.ensures.rests;
      home = home_kept c.take-world.ensures.home c.put.ensures.home
          (flag_kept g.H.Holder.alone c.args.self.now.stream _ _ _ _ found c.put.ensures.seen
          (ap (λ (z : State). z.gave_up) same));
      same = look_same _ _ _ _ _ found (c.put.ensures.seen ∙ same);
    }

pub returns-clause-kept : goal.returns-clause-kept
returns-clause-kept g c =
    look_kept g.H.Holder.alone c.args.self.now.stream c.args.t _ _
    (found_as c.deref_mut.ensures.value c.take-world.ensures.found) c.requires.turn _
    (c.put.ensures.seen ∙ c.snap_page-answer.ensures.same)

pub returns-clause-ok : goal.returns-clause-ok
returns-clause-ok g c =
    let step = c.snap_page-answer in
    page_gives g.H.Holder.alone c.args.self.now.stream c.args.t c.args.replica c.args.page c.args.name.now _ _ _
    (found_as c.deref_mut.ensures.value c.take-world.ensures.found) c.requires.turn step.ensures.same step.result _ _
    c.put.ensures.seen step.ensures.ok

pub returns-clause-why : goal.returns-clause-why
returns-clause-why g c =
    let step = c.snap_page-answer in
    page_why g.H.Holder.alone c.args.self.now.stream c.args.t c.args.replica c.args.page c.args.name.now _ _ _
    (found_as c.deref_mut.ensures.value c.take-world.ensures.found) c.requires.turn step.ensures.same step.result
    step.new.into _ c.put.ensures.seen c.requires.page c.requires.live step.ensures.why
