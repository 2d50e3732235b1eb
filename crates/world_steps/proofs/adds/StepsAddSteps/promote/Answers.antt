use Rattle.world_holder.proofs.Taken.{found_as, owes_as}
use Rattle.world_steps.proofs.GaveUp.{home_kept}
use Rattle.world_steps.proofs.EndTurns.{promote_owes, promote_gave, promote_done, promote_none, promote_still, promote_why}
use Rattle.world_steps.proofs.adds.StepsAddSteps.promote.Goals as goal

pub put-requires-clause-owes : goal.put-requires-clause-owes
put-requires-clause-owes g c =
    let step = c.promote_in-answer in
    let found = found_as c.deref_mut.ensures.value c.take-world.ensures.found in
    owes_as c.deref_mut.ensures.value c.take-world.ensures.seen
    (promote_owes _ _ c.args.t _ _ _ found step.result c.requires.turn step.ensures.may
    step.ensures.done step.ensures.none)

pub returns-clause-stands : goal.returns-clause-stands
returns-clause-stands g c =
    let step = c.promote_in-answer in
    let found = found_as c.deref_mut.ensures.value c.take-world.ensures.found in
    record {
      ready = c.put.ensures.rests;
      home = home_kept c.take-world.ensures.home c.put.ensures.home
          (promote_gave _ _ c.args.t _ _ _ found step.result c.requires.turn step.ensures.may
          step.ensures.done step.ensures.none _ c.put.ensures.seen);
    }

pub returns-clause-done : goal.returns-clause-done
returns-clause-done g c =
    let step = c.promote_in-answer in
    let found = found_as c.deref_mut.ensures.value c.take-world.ensures.found in
    promote_done _ _ c.args.t _ _ _ found step.result c.requires.turn step.ensures.may
    step.ensures.done step.ensures.none _ c.put.ensures.seen

pub returns-clause-none : goal.returns-clause-none
returns-clause-none g c e =
    let step = c.promote_in-answer in
    let found = found_as c.deref_mut.ensures.value c.take-world.ensures.found in
    let known = promote_still _ _ c.args.t _ _ _ found step.result c.requires.turn step.ensures.may
    step.ensures.done step.ensures.none _ c.put.ensures.seen e in
    record {
      same = promote_none _ _ c.args.t _ _ _ found step.result c.requires.turn step.ensures.may
          step.ensures.done step.ensures.none _ c.put.ensures.seen e;
      kept = record {
        ended = known.rebuild.ended;
        pages = known.rebuild.pages;
        begun = known.rebuild.begun;
        fewer =
            known.rebuild.fewer;
      };
    }

pub returns-clause-why : goal.returns-clause-why
returns-clause-why g c =
    let step = c.promote_in-answer in
    let found = found_as c.deref_mut.ensures.value c.take-world.ensures.found in
    promote_why _ _ c.args.t _ _ _ found step.result c.requires.turn step.ensures.may
    step.ensures.done step.ensures.none _ c.put.ensures.seen step.ensures.why
