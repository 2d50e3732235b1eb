use Rattle.world_holder.proofs.Taken.{found_as, owes_as}
use Rattle.world_steps.proofs.Does.{home_free}
use Rattle.world_steps.proofs.FrameTurns.{end_owes, end_free, end_does}
use Rattle.world_steps.proofs.frames.StepsClientSteps.complete.Goals as goal

pub put-requires-clause-owes : goal.put-requires-clause-owes
put-requires-clause-owes g c =
    let step = c.complete-answer in
    let found = found_as c.deref_mut.ensures.value c.take-world.ensures.found in
    owes_as c.deref_mut.ensures.value c.take-world.ensures.seen (end_owes _ _ c.args.t _ _ _ found step.result
    c.requires.started step.ensures.may step.ensures.ok step.ensures.err)

pub returns-clause-stands : goal.returns-clause-stands
returns-clause-stands g c =
    let step = c.complete-answer in
    let found = found_as c.deref_mut.ensures.value c.take-world.ensures.found in
    record {
      ready = (
        c.put.ensures.rests,
        end_free _ _ c.args.t _ _ _ found step.result c.requires.started step.ensures.may
            step.ensures.ok step.ensures.err _ c.put.ensures.seen c.requires.ready.1,
      );
      home = home_free c.take-world.ensures.home c.put.ensures.home;
    }

pub returns-clause-does : goal.returns-clause-does
returns-clause-does g c =
    let step = c.complete-answer in
    let found = found_as c.deref_mut.ensures.value c.take-world.ensures.found in
    end_does _ _ c.args.t _ _ _ found step.result c.requires.started step.ensures.may step.ensures.ok step.ensures.err
    _ c.put.ensures.seen step.ensures.sees step.ensures.why
