use Rattle.world_holder.proofs.Taken.{found_as, owes_as}
use Rattle.world_steps.proofs.GaveUp.{home_kept}
use Rattle.world_steps.proofs.EndTurns.{abort_owes, abort_gave, abort_done, abort_none, abort_still, abort_why}
use Rattle.world_steps.proofs.adds.StepsAddSteps.end_aborted.Goals as goal

pub put-requires-clause-owes : goal.put-requires-clause-owes
put-requires-clause-owes g c =
    let step = c.end_in-answer in
    let found = found_as c.deref_mut.ensures.value c.take-world.ensures.found in
    owes_as c.deref_mut.ensures.value c.take-world.ensures.seen
    (abort_owes _ _ c.args.t c.args.place _ _ _ found step.result c.requires.turn step.ensures.may
    step.ensures.done step.ensures.none)

pub returns-clause-stands : goal.returns-clause-stands
returns-clause-stands g c =
    let step = c.end_in-answer in
    let found = found_as c.deref_mut.ensures.value c.take-world.ensures.found in
    record {
      ready = c.put.ensures.rests;
      home = home_kept c.take-world.ensures.home c.put.ensures.home
          (abort_gave _ _ c.args.t c.args.place _ _ _ found step.result c.requires.turn step.ensures.may
          step.ensures.done step.ensures.none _ c.put.ensures.seen);
    }

pub returns-clause-done : goal.returns-clause-done
returns-clause-done g c =
    let step = c.end_in-answer in
    let found = found_as c.deref_mut.ensures.value c.take-world.ensures.found in
    abort_done _ _ c.args.t c.args.place _ _ _ found step.result c.requires.turn step.ensures.may
    step.ensures.done step.ensures.none _ c.put.ensures.seen

pub returns-clause-none : goal.returns-clause-none
returns-clause-none g c e =
    let step = c.end_in-answer in
    let found = found_as c.deref_mut.ensures.value c.take-world.ensures.found in
    let known = abort_still _ _ c.args.t c.args.place _ _ _ found step.result c.requires.turn step.ensures.may
    step.ensures.done step.ensures.none _ c.put.ensures.seen e in
    record {
      same = abort_none _ _ c.args.t c.args.place _ _ _ found step.result c.requires.turn step.ensures.may
          step.ensures.done step.ensures.none _ c.put.ensures.seen e;
      kept = record {
        ended = known.rebuild.ended;
        pages = known.rebuild.pages;
        begun = known.rebuild.begun;
        fewer =
            known.rebuild.fewer;
      };
    }

pub returns-clause-why : goal.returns-clause-why
returns-clause-why g c =
    let step = c.end_in-answer in
    let found = found_as c.deref_mut.ensures.value c.take-world.ensures.found in
    abort_why _ _ c.args.t c.args.place _ _ _ found step.result c.requires.turn step.ensures.may
    step.ensures.done step.ensures.none _ c.put.ensures.seen step.ensures.why
