use Rattle.world_holder.proofs.Taken.{found_as, owes_as}
use Rattle.world_steps.proofs.Does.{home_free}
use Rattle.world_steps.proofs.FrameTurns.{gone_owes, gone_free, gone_to, admit_waits}
use Rattle.world_steps.proofs.frames.StepsClientSteps.withdraw.Goals as goal

pub withdraw-requires-clause-waits : goal.withdraw-requires-clause-waits
withdraw-requires-clause-waits g c =
    admit_waits _ _ c.args.t _ _ (found_as c.deref_mut.ensures.value c.take-world.ensures.found) c.requires.waits

pub put-requires-clause-owes : goal.put-requires-clause-owes
put-requires-clause-owes g c =
    let step = c.withdraw in
    let found = found_as c.deref_mut.ensures.value c.take-world.ensures.found in
    owes_as c.deref_mut.ensures.value c.take-world.ensures.seen (gone_owes _ _ c.args.t _ _ _ found c.requires.waits
    step.ensures.may step.ensures.gone)

pub returns-clause-stands : goal.returns-clause-stands
returns-clause-stands g c =
    let step = c.withdraw in
    let found = found_as c.deref_mut.ensures.value c.take-world.ensures.found in
    record {
      ready = (
        c.put.ensures.rests,
        gone_free _ _ c.args.t _ _ _ found c.requires.waits step.ensures.may
            step.ensures.gone _ c.put.ensures.seen c.requires.ready.1,
      );
      home = home_free c.take-world.ensures.home c.put.ensures.home;
    }

pub returns-clause-gone : goal.returns-clause-gone
returns-clause-gone g c =
    let step = c.withdraw in
    let found = found_as c.deref_mut.ensures.value c.take-world.ensures.found in
    gone_to _ _ c.args.t _ _ _ found c.requires.waits step.ensures.may step.ensures.gone _ c.put.ensures.seen
    c.requires.ready.1 step.ensures.sees
