use Rattle.world_holder.proofs.Taken.{found_as, owes_as}
use Rattle.world_steps.proofs.MaintTurns.{found_waiting, admit_flag, admit_owes, admit_turns, admit_unbegun}
use Rattle.world_steps.proofs.GaveUp.{home_kept}
use Rattle.world_steps.proofs.commands.StepsCommandSteps.admit_maint.Goals as goal

pub admit_maint-answer-requires-clause-waits : goal.admit_maint-answer-requires-clause-waits
admit_maint-answer-requires-clause-waits g c =
    found_waiting g.H.Holder.alone c.args.self.now.stream c.args.t _ _
    (found_as c.deref_mut.ensures.value c.take-world.ensures.found) c.requires.waits

pub put-requires-clause-owes : goal.put-requires-clause-owes
put-requires-clause-owes g c =
    owes_as c.deref_mut.ensures.value c.take-world.ensures.seen
    (admit_owes g.H.Holder.alone c.args.self.now.stream c.args.t _ _ _
    (found_as c.deref_mut.ensures.value c.take-world.ensures.found) c.admit_maint-answer.result c.requires.waits
    c.admit_maint-answer.ensures.may c.admit_maint-answer.ensures.turns)

pub returns-clause-stands : goal.returns-clause-stands
returns-clause-stands g c =
    record {
      ready = c.put.ensures.rests;
      home = home_kept c.take-world.ensures.home c.put.ensures.home
          (admit_flag g.H.Holder.alone c.args.self.now.stream c.args.t _ _ _
          (found_as c.deref_mut.ensures.value c.take-world.ensures.found) c.admit_maint-answer.result c.requires.waits
          c.admit_maint-answer.ensures.may c.admit_maint-answer.ensures.turns _ c.put.ensures.seen);
    }

pub returns-clause-unbegun : goal.returns-clause-unbegun
returns-clause-unbegun g c =
    admit_unbegun g.H.Holder.alone c.args.self.now.stream c.args.t _ _ _
    (found_as c.deref_mut.ensures.value c.take-world.ensures.found) c.admit_maint-answer.result c.requires.waits
    c.admit_maint-answer.ensures.may c.admit_maint-answer.ensures.turns _ c.put.ensures.seen

pub returns-clause-turns : goal.returns-clause-turns
returns-clause-turns g c =
    let step = c.admit_maint-answer in
    let found = found_as c.deref_mut.ensures.value c.take-world.ensures.found in
    admit_turns _ _ c.args.t _ _ _ found step.result c.requires.waits step.ensures.may step.ensures.turns _
    c.put.ensures.seen
