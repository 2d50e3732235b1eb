use Rattle.world_holder.proofs.Taken.{found_as, owes_as}
use Rattle.world_steps.proofs.Does.{home_free}
use Rattle.world_steps.proofs.FrameTurns.{read_owes, read_free, read_does, read_room}
use Rattle.world_steps.proofs.frames.StepsClientSteps.apply_read.Goals as goal

pub apply_read-answer-requires-clause-into : goal.apply_read-answer-requires-clause-into
apply_read-answer-requires-clause-into g c =
    read_room _ _ c.args.t c.args.into.now _ _ (found_as c.deref_mut.ensures.value c.take-world.ensures.found)
    c.requires.reads

pub put-requires-clause-owes : goal.put-requires-clause-owes
put-requires-clause-owes g c =
    let step = c.apply_read-answer in
    let found = found_as c.deref_mut.ensures.value c.take-world.ensures.found in
    owes_as c.deref_mut.ensures.value c.take-world.ensures.seen (read_owes _ _ c.args.t c.args.replica c.args.into.now
    step.new.into _ _ _ found step.result c.requires.reads step.ensures.may step.ensures.ok step.ensures.err)

pub returns-clause-stands : goal.returns-clause-stands
returns-clause-stands g c =
    let step = c.apply_read-answer in
    let found = found_as c.deref_mut.ensures.value c.take-world.ensures.found in
    record {
      ready = (
        c.put.ensures.rests,
        read_free _ _ c.args.t c.args.replica c.args.into.now step.new.into _ _ _ found
            step.result c.requires.reads step.ensures.may step.ensures.ok step.ensures.err _ c.put.ensures.seen
            c.requires.ready.1,
      );
      home = home_free c.take-world.ensures.home c.put.ensures.home;
    }

pub returns-clause-does : goal.returns-clause-does
returns-clause-does g c =
    let step = c.apply_read-answer in
    let found = found_as c.deref_mut.ensures.value c.take-world.ensures.found in
    read_does _ _ c.args.t c.args.replica c.args.into.now step.new.into _ _ _ found step.result c.requires.reads
    step.ensures.may step.ensures.ok step.ensures.err _ c.put.ensures.seen step.ensures.why
